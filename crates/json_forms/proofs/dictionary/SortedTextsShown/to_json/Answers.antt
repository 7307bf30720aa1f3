use Rattle.std.proofs.Common.{◌≡◌, [], ◌∷◌, ◌++◌, string_bytes, string_cmp, String, Global, sym, ap, subst, ◌∙◌, append_assoc, append-nil, rules}
use Rattle.std.specs.List.Sorted.{IsStrictlySortedBy}
use Rattle.std.specs.Map.{keys_of}
use Rattle.serde_json.specs.Data.{object}
use Rattle.serde_json.proofs.Views.{view-Object}
use Rattle.serde_json.specs.declared.value.Value.{Object}
use Rattle.serde_json.specs.View.{view, members_view}
use Rattle.serde_json.specs.Written.{has_float, members_have_float}
use Rattle.spec_base.specs.Shown.{shown}
use Rattle.json_forms.specs.Dictionary.{dictionary_json}
use Rattle.json_forms.proofs.DictionaryLemmas.{put_last}
use Rattle.json_forms.proofs.NoFloats.{put_no_float}
use Rattle.json_forms.proofs.dictionary.SortedTextsShown.to_json.Goals as goal

pub loop-key-preserved : goal.loop-key-preserved
loop-key-preserved g c =
    let l = c.loop-key in
    let done = l.invariant.0 in
    let e : String Global × g.row.V.Denot = (c.in-Some.key.now, c.in-Some.value.now) in
    let left = c.next.new.self in
    let all : c.into_iter-key-iterator.result ≡ done ++ e ∷ left = l.invariant.1 ∙ ap (λ es. done ++ es) c.in-Some.ensures.steps in
    let whole : c.into_iter-key-iterator.result ≡ c.as_map.result.now.entries = search rules in
    let sorted = subst (λ es. IsStrictlySortedBy string_cmp (keys_of es)) (sym whole ∙ all) c.iter-key-items.ensures.ordered in
    let named : c.as_str.result.now ≡ string_bytes e.0 = search rules in (
      done ++ e ∷ [],
      all ∙ sym (append_assoc done (e ∷ []) left),
      c.in_ok-put.ensures.ok ∙ rw (named, c.in_ok-to_json.ensures.value, l.invariant.2) (put_last g.V.Shown.json done e left sorted),
      ap members_have_float c.in_ok-put.ensures.ok ∙ put_no_float c.as_str.result.now (view c.in_ok-to_json.field-0) (members_view l.members.entries) c.in_ok-to_json.ensures.no_float l.invariant.3,
    )

pub returns-clause-value : goal.returns-clause-value
returns-clause-value g c =
    let l = c.loop-key in
    let done = l.invariant.0 in
    let whole : c.into_iter-key-iterator.result ≡ c.as_map.result.now.entries = search rules in
    let all : c.as_map.result.now.entries ≡ done = sym whole ∙ l.invariant.1 ∙ ap (λ es. done ++ es) c.in-None.ensures.steps.0 ∙ append-nil done in
    let seen : view (Object l.members) ≡ object (members_view l.members.entries) = view-Object l.members in
    seen ∙ ap object l.invariant.2 ∙ ap (dictionary_json g.V.Shown.json) (ap shown (sym all) ∙ c.as_map.ensures)

pub returns-clause-no_float : goal.returns-clause-no_float
returns-clause-no_float g c =
    let l = c.loop-key in
    ap has_float (view-Object l.members) ∙ l.invariant.3
