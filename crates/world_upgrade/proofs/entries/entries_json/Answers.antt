use Rattle.std.proofs.Common.{◌≡◌, ◌<◌, ℕ, ◌+◌, List, [], ◌∷◌, ◌++◌, length, map, take, get_or, ap, sym, subst, ◌∙◌, arith, All}
use Rattle.std.proofs.lemmas.List.{map-append, take_more, take_all}
use Rattle.std.proofs.lemmas.List.Elements.{All-append, All-cons, All-nil}
use Rattle.serde_json.specs.Data.{Data, array}
use Rattle.serde_json.specs.View.{view, items_of}
use Rattle.serde_json.proofs.Views.{view-Array}
use Rattle.serde_json.specs.declared.value.Value.{Value}
use Rattle.world_upgrade.specs.EntryJson.{entry_json}
use Rattle.world_upgrade.specs.Told.{IsEntryAgain}
use Rattle.world_upgrade.proofs.entries.entries_json.Goals as goal

-- the JSON of one more item
one_more : {A : Type 0} (f : A → Data) (xs : List A) (i : ℕ) (x : A) (vs : List Value) (v : Value) → map view vs ≡ map f (take i xs) → view v ≡ f x → x ≡ get_or xs i x → i < length xs → map view (vs ++ v ∷ []) ≡ map f (take (i + 1) xs)
one_more f xs i x vs v before seen is below =
    map-append view vs (v ∷ []) ∙ ap (λ ds. ds ++ view v ∷ []) before ∙ ap (λ d. map f (take i xs) ++ d ∷ []) (seen ∙ ap f is)
    ∙ sym (ap (map f) (take_more xs i x below) ∙ map-append f (take i xs) (get_or xs i x ∷ []))

-- what holds of one more
all_more : {A : Type 0} (P : A → Type 0) (xs : List A) (i : ℕ) (x : A) → All P (take i xs) → P x → x ≡ get_or xs i x → i < length xs → All P (take (i + 1) xs)
all_more P xs i x all here is below =
    subst (All P) (sym (take_more xs i x below)) (All-append P (take i xs) (get_or xs i x ∷ []) all (All-cons P (get_or xs i x) [] (subst P is here) (All-nil P)))

pub loop-entry-preserved : goal.loop-entry-preserved
loop-entry-preserved c =
    let l = c.loop-entry in
    let xs = c.as_slice-entry-items.result.now in
    let x = c.entry-item.result in (
      ap (map view) c.in_ok-push.ensures.items ∙ one_more entry_json xs l.entry-index x l.values.items c.in_ok-entry_json.field-0 l.invariant.0 c.in_ok-entry_json.ensures.value c.entry-item.is (omega arith),
      all_more IsEntryAgain xs l.entry-index x l.invariant.1 c.in_ok-entry_json.ensures.again c.entry-item.is (omega arith),
    )

pub returns-clause-value : goal.returns-clause-value
returns-clause-value c =
    let l = c.loop-entry in
    view-Array l.values ∙ ap (λ ds. array (items_of ds)) (l.invariant.0 ∙ ap (map entry_json) (take_all l.entry-index _ (omega arith) ∙ c.as_slice-entry-items.ensures))
