-- The entries of a map from texts as pairs.
use Rattle.std.proofs.Common.{◌≡◌, ℕ, List, [], ◌∷◌, ◌++◌, map, string_bytes, string_cmp, String, refl, sym, ap, ◌∙◌}
use Rattle.std.proofs.lemmas.List.{map-append}
use Rattle.std.specs.List.{AllByRecursion}
use Rattle.std.specs.List.Sorted.{IsStrictlySortedBy}
use Rattle.std.specs.Map.{keys_of}
use Rattle.std.specs.declared.cmp.Ordering.TheVariants.{Less}
use Rattle.serde_json.specs.Data.{Data, string}
use Rattle.serde_json.specs.View.{view}
use Rattle.serde_json.specs.declared.value.Value.{Value}
use Rattle.json_forms.specs.Range.{pair_json}
use Rattle.spec_base.specs.Shown.{shown, text_cmp}

below_shown : {A V : Type 0} (k : String A) (es : List (String A × V)) → AllByRecursion (λ l. string_cmp k l ≡ Less) (keys_of es) → AllByRecursion (λ l. text_cmp (string_bytes k) l ≡ Less) (keys_of (shown es))
below_shown k [] all = tt
below_shown k (e ∷ es) all = (all.0, below_shown k es all.1)

-- the names ascend
pub sorted_shown : {A V : Type 0} (es : List (String A × V)) → IsStrictlySortedBy string_cmp (keys_of es) → IsStrictlySortedBy text_cmp (keys_of (shown es))
unfolding IsStrictlySortedBy
sorted_shown [] sorted = tt
sorted_shown (e ∷ es) sorted = (below_shown e.0 es sorted.0, sorted_shown es sorted.1)

-- a header as a pair
abbrev pub header_pair : List ℕ × List ℕ → Data
header_pair h = pair_json (string h.0) (string h.1)

-- one more pair
pub one_more_pair : {A : Type 0} (done : List (String A × List ℕ)) (e : String A × List ℕ) (vs : List Value) (v : Value)
    → map view vs ≡ map header_pair (shown done) → view v ≡ header_pair (string_bytes e.0, e.1)
    → map view (vs ++ v ∷ []) ≡ map header_pair (shown (done ++ e ∷ []))
one_more_pair done e vs v before is =
    map-append view vs (v ∷ []) ∙ (λ i. before i ++ is i ∷ [])
    ∙ sym (ap (map header_pair) (map-append (λ x. (string_bytes x.0, x.1)) done (e ∷ [])) ∙ map-append header_pair (shown done) ((string_bytes e.0, e.1) ∷ []))
