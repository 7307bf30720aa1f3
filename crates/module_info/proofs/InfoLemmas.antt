-- An index of a table of infos.
use Rattle.std.proofs.Common.{◌≡◌, ℕ, ◌+◌, ◌<◌, get_or, Bool, true, false, cond, List, [], ◌∷◌, length, take, Option, Some, Result, refl, ap, ◌∙◌}
use Rattle.std.specs.Prelude.{option_map}
use Rattle.std.specs.List.{find}
use Rattle.std.specs.FinMap as finite
use Rattle.std.specs.FinMap.{FinMap}
use Rattle.url.specs.Parts.{Parts}
use Rattle.spec_base.specs.declared.refusal.Fault.{Fault}
use Rattle.spec_base.specs.Shown.{text_cmp}
use Rattle.spec_base.specs.Specifier.{specifier_text}
use Rattle.spec_base.specs.Places.{with_first, IsIndex}
use Rattle.spec_base.proofs.PlaceLemmas.{index_noted_at, found_first}
use Rattle.module_info.specs.declared.types.ModuleInfo.{ModuleInfo}
use Rattle.module_info.specs.Infos.{lists_info, info_at, or_empty, info_in}

abbrev pub Entry : Type 0
Entry = Parts × Result ModuleInfo Fault

-- one more entry
pub noted_info : (es : List Entry) (i : ℕ) (d : Entry) (places : FinMap text_cmp ℕ) → i < length es → IsIndex lists_info (take i es) places → IsIndex lists_info (take (i + 1) es) (with_first places (specifier_text (get_or es i d).0) i)
noted_info es i d places within old = index_noted_at lists_info es i d (get_or es i d).0 places within (λ s. refl) old

by_first : (b : Bool) (e : Entry) (rest : Option Entry) → or_empty (option_map (λ x. x.1) (cond b (Some e) rest)) ≡ cond b e.1 (or_empty (option_map (λ x. x.1) rest))
by_first true e rest = refl
by_first false e rest = refl

found_info : (s : Parts) (es : List Entry) → or_empty (option_map (λ e. e.1) (find (λ e. lists_info e s) es)) ≡ info_in es s
unfolding info_in
found_info s [] = refl
found_info s (e ∷ es) = by_first (lists_info e s) e _ ∙ ap (cond (lists_info e s) e.1) (found_info s es)

-- the info at the place to which an index leads is the first listed one
pub info_by_index : (es : List Entry) (places : FinMap text_cmp ℕ) (s : Parts) → IsIndex lists_info es places → or_empty (info_at es (finite.get places (specifier_text s))) ≡ info_in es s
info_by_index es places s index =
    ap (λ place. or_empty (info_at es place)) (index.leads s) ∙ ap (λ o. or_empty (option_map (λ e. e.1) o)) (found_first (λ e. lists_info e s) es) ∙ found_info s es
