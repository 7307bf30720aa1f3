use Rattle.std.proofs.Common.{◌≡◌, ◌<◌, ℕ, ◌+◌, List, [], ◌∷◌, ◌++◌, length, map, take, get_or, ap, sym, ◌∙◌, arith}
use Rattle.std.proofs.lemmas.List.{map-append, take_more, take_all}
use Rattle.serde_json.specs.Data.{Data, array}
use Rattle.serde_json.specs.View.{view, items_of}
use Rattle.serde_json.proofs.Views.{view-Array}
use Rattle.serde_json.specs.declared.value.Value.{Value}
use Rattle.json_forms.proofs.NoFloats.{one_more_no_float}
use Rattle.json_forms.proofs.shown.ItemsShown.to_json.Goals as goal

-- the JSON of one more item
one_more : {A : Type 0} (f : A → Data) (xs : List A) (i : ℕ) (x : A) (vs : List Value) (v : Value) → map view vs ≡ map f (take i xs) → view v ≡ f x → x ≡ get_or xs i x → i < length xs → map view (vs ++ v ∷ []) ≡ map f (take (i + 1) xs)
one_more f xs i x vs v before seen is below =
    map-append view vs (v ∷ []) ∙ ap (λ ds. ds ++ view v ∷ []) before ∙ ap (λ d. map f (take i xs) ++ d ∷ []) (seen ∙ ap f is)
    ∙ sym (ap (map f) (take_more xs i x below) ∙ map-append f (take i xs) (get_or xs i x ∷ []))

pub loop-item-preserved : goal.loop-item-preserved
loop-item-preserved g c =
    let l = c.loop-item in
    let seen = c.in_ok-to_json.ensures in
    let xs = c.as_slice-item-items.result.now in
    rw c.in_ok-push.ensures.items (
      one_more g.T.Shown.json xs l.item-index c.item-item.result l.values.items _ l.invariant.0 seen.value c.item-item.is (omega arith),
      one_more_no_float l.values.items _ l.invariant.1 seen.no_float,
    )

pub returns-clause-value : goal.returns-clause-value
returns-clause-value g c =
    let l = c.loop-item in
    view-Array l.values ∙ ap (λ ds. array (items_of ds)) (l.invariant.0 ∙ ap (map g.T.Shown.json) (take_all l.item-index _ (omega arith) ∙ c.as_slice-item-items.ensures))
