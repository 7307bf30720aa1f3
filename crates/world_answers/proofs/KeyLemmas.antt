-- What a search among texts finds.
use Rattle.std.proofs.Common.{◌≡◌, ℕ, List, Equal, sym, ap, ◌∙◌}
use Rattle.std.proofs.lemmas.Map.Text.{is_eq-slice_cmp}
use Rattle.std.proofs.lemmas.Slice.Eq.{bytes_eq-Decides}
use Rattle.std.specs.Cmp.Lexicographic.{slice_cmp}
use Rattle.std.specs.Ordering.{is_eq, nat_cmp}

-- texts that are equal in their order are the same
pub same_text : (s t : List ℕ) → slice_cmp nat_cmp s t ≡ Equal → s ≡ t
same_text s t equal = (bytes_eq-Decides s t).0 (sym (is_eq-slice_cmp s t) ∙ ap is_eq equal)
