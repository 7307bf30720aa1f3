use Rattle.std.proofs.Common.{◌≡◌, ℕ, List, [], map, drop}
use Rattle.std.specs.List.{list_any}
use Rattle.std.specs.Str.{bytes_eq}
use Rattle.std.specs.Cmp.Lexicographic.{slice_cmp}
use Rattle.std.specs.Ordering.{nat_cmp}
use Rattle.std.specs.BTreeSet as sorted
use Rattle.url.specs.Parts.{serialize}
use Rattle.json_forms.specs.Keyed.{no_repeats}
use Rattle.json_forms.proofs.keyed.are_distinct.Given as goal

-- the set has the texts passed, and what is left decides
abbrev pub invariant-loop-entry : goal.invariant-loop-entry
invariant-loop-entry g l =
    (done : List (List ℕ))
    × (no_repeats [] (map (λ e. serialize e.0) l.entries) ≡ no_repeats done (map (λ e. serialize e.0) (drop l.entry-index l.entries)))
    × ((q : List ℕ) → sorted.contains_by (λ k. slice_cmp nat_cmp q k.now) l.seen ≡ list_any (bytes_eq q) done)
