-- An index of the modules of types.
use Rattle.std.proofs.Common.{◌≡◌, ◌<◌, ◌+◌, Bool, true, false, ℕ, cond, List, [], ◌∷◌, length, take, get_or, Option, Some, refl, ap, ◌∙◌}
use Rattle.std.specs.Prelude.{option_map, slice_get}
use Rattle.std.specs.List.{find}
use Rattle.std.specs.FinMap as finite
use Rattle.std.specs.FinMap.{FinMap}
use Rattle.url.specs.Parts.{Parts}
use Rattle.spec_base.specs.Options.{then_by}
use Rattle.spec_base.specs.Shown.{text_cmp}
use Rattle.spec_base.specs.Specifier.{specifier_text}
use Rattle.spec_base.specs.Places.{IsIndex, with_first}
use Rattle.spec_base.specs.declared.position.Range.{Range}
use Rattle.spec_base.proofs.PlaceLemmas.{found_first, index_noted_at}
use Rattle.source_io.specs.Places.{names_types_of}
use Rattle.source_io.specs.Resolvers.{listed_types}

abbrev pub Entry : Type 0
Entry = Parts × Parts × Option Range

abbrev types_in : Entry → Parts × Option Range
types_in e = (e.1, e.2)

types_by : (b : Bool) (e : Entry) (rest : Option Entry) → option_map types_in (cond b (Some e) rest) ≡ cond b (Some (e.1, e.2)) (option_map types_in rest)
types_by true e rest = refl
types_by false e rest = refl

found_listed : (s : Parts) (es : List Entry) → option_map types_in (find (λ e. names_types_of e s) es) ≡ listed_types es s
unfolding listed_types
found_listed s [] = refl
found_listed s (e ∷ es) = types_by (names_types_of e s) e _ ∙ ap (cond (names_types_of e s) (Some (e.1, e.2))) (found_listed s es)

-- the entry at the place to which an index leads is the first listed one
pub types_at_index : (es : List Entry) (places : FinMap text_cmp ℕ) (s : Parts) → IsIndex names_types_of es places → option_map (λ e. (e.1, e.2)) (then_by (finite.get places (specifier_text s)) (slice_get es)) ≡ listed_types es s
types_at_index es places s index = ap (λ (o : Option ℕ). option_map types_in (then_by o (slice_get es))) (index.leads s) ∙ ap (option_map types_in) (found_first (λ e. names_types_of e s) es) ∙ found_listed s es

-- one more entry
pub noted_types : (es : List Entry) (i : ℕ) (d : Entry) (places : FinMap text_cmp ℕ) → i < length es → IsIndex names_types_of (take i es) places → IsIndex names_types_of (take (i + 1) es) (with_first places (specifier_text (get_or es i d).0) i)
noted_types es i d places within old = index_noted_at names_types_of es i d (get_or es i d).0 places within (λ s. refl) old

-- what stands at the place that an index gives
pub types_found : (es now : List Entry) (places : FinMap text_cmp ℕ) (s : Parts) (place : Option ℕ) (found : Option Entry) → IsIndex names_types_of es places → now ≡ es → place ≡ finite.get places (specifier_text s) → found ≡ then_by place (slice_get now) → option_map types_in found ≡ listed_types es s
types_found es now places s place found index same is at =
    ap (option_map types_in) at
    ∙ ap (λ (l : List Entry). option_map types_in (then_by place (slice_get l))) same
    ∙ ap (λ (o : Option ℕ). option_map types_in (then_by o (slice_get es))) is
    ∙ types_at_index es places s index
