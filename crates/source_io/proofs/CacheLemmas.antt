-- An index of what is told of cached copies.
use Rattle.std.proofs.Common.{◌≡◌, ◌<◌, ◌+◌, Bool, true, false, ℕ, cond, List, [], ◌∷◌, length, take, get_or, Option, Some, refl, ap, ◌∙◌}
use Rattle.std.specs.Prelude.{option_map, slice_get}
use Rattle.std.specs.List.{find}
use Rattle.std.specs.FinMap as finite
use Rattle.std.specs.FinMap.{FinMap}
use Rattle.url.specs.Parts.{Parts}
use Rattle.spec_base.specs.Options.{then_by}
use Rattle.spec_base.specs.Shown.{text_cmp}
use Rattle.spec_base.specs.Specifier.{specifier_text}
use Rattle.spec_base.specs.Places.{IsIndex, with_first}
use Rattle.spec_base.proofs.PlaceLemmas.{found_first, index_noted_at}
use Rattle.source_io.specs.Answers.{listed_info, tells_of}
use Rattle.source_io.specs.declared.types.CacheInfo.{CacheInfo}

abbrev pub Entry : Type 0
Entry = Parts × CacheInfo

info_by : (b : Bool) (e : Entry) (rest : Option Entry) → option_map (λ e. e.1) (cond b (Some e) rest) ≡ cond b (Some e.1) (option_map (λ e. e.1) rest)
info_by true e rest = refl
info_by false e rest = refl

found_listed : (s : Parts) (es : List Entry) → option_map (λ e. e.1) (find (λ e. tells_of e s) es) ≡ listed_info es s
unfolding listed_info
found_listed s [] = refl
found_listed s (e ∷ es) = info_by (tells_of e s) e _ ∙ ap (cond (tells_of e s) (Some e.1)) (found_listed s es)

-- the entry at the place to which an index leads is the first listed one
pub info_at_index : (es : List Entry) (places : FinMap text_cmp ℕ) (s : Parts) → IsIndex tells_of es places → option_map (λ e. e.1) (then_by (finite.get places (specifier_text s)) (slice_get es)) ≡ listed_info es s
info_at_index es places s index = ap (λ (o : Option ℕ). option_map (λ e. e.1) (then_by o (slice_get es))) (index.leads s) ∙ ap (option_map (λ e. e.1)) (found_first (λ e. tells_of e s) es) ∙ found_listed s es

-- one more entry
pub noted_info : (es : List Entry) (i : ℕ) (d : Entry) (places : FinMap text_cmp ℕ) → i < length es → IsIndex tells_of (take i es) places → IsIndex tells_of (take (i + 1) es) (with_first places (specifier_text (get_or es i d).0) i)
noted_info es i d places within old = index_noted_at tells_of es i d (get_or es i d).0 places within (λ s. refl) old
