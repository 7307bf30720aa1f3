use Rattle.std.proofs.Common.{◌≡◌, ℕ, List, [], ◌∷◌, ◌++◌, map, string_bytes, String, Global, sym, ap, subst, ◌∙◌, append_assoc, rules}
use Rattle.std.specs.List.Sorted.{IsStrictlySortedBy}
use Rattle.std.specs.Map.{keys_of}
use Rattle.serde_json.specs.Data.{string}
use Rattle.serde_json.specs.View.{view}
use Rattle.json_forms.specs.Range.{pair_json}
use Rattle.spec_base.specs.Shown.{text_cmp}
use Rattle.world_upgrade.proofs.HeaderLemmas.{header_pair, one_more_pair, sorted_shown}
use Rattle.world_upgrade.proofs.entry_json.headers_json.Goals as goal

pub loop-name-preserved : goal.loop-name-preserved
loop-name-preserved c =
    let l = c.loop-name in
    let done = l.invariant.0 in
    let e : String Global × List ℕ = (c.in-Some.name.now, c.in-Some.value.now) in
    let all = l.invariant.1 ∙ ap (λ es. done ++ es) c.in-Some.ensures.steps in
    let name : c.as_str.result.now ≡ string_bytes e.0 = search rules in
    let value : c.as_str-in-loop-name.result.now ≡ e.1 = search rules in
    let pair : view c.in_ok-header_json.field-0 ≡ header_pair (string_bytes e.0, e.1) =
    c.in_ok-header_json.ensures ∙ (λ i. pair_json (string (name i)) (string (value i))) in (
      done ++ e ∷ [],
      all ∙ sym (append_assoc done (e ∷ []) c.next.new.self),
      ap (map view) c.in_ok-push.ensures.items ∙ one_more_pair done e l.values.items c.in_ok-header_json.field-0 l.invariant.2 pair,
    )

pub returns-clause-again : goal.returns-clause-again
returns-clause-again c =
    subst (λ (hs : List (List ℕ × List ℕ)). IsStrictlySortedBy text_cmp (keys_of hs)) c.as_map.ensures (sorted_shown c.as_map.result.now.entries c.iter-name-items.ensures.ordered)
