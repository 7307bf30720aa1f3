use Rattle.std.proofs.Common.{◌≡◌, ℕ, List, [], ◌∷◌, ◌++◌, option_map, string_bytes, Bor, sym, ap, subst, ◌∙◌, append_assoc, rules}
use Rattle.std.specs.List.Sorted.{IsStrictlySortedBy}
use Rattle.std.specs.Map.{keys_of}
use Rattle.spec_base.specs.Shown.{text_cmp}
use Rattle.json_documents.specs.Documents.{named, view}
use Rattle.json_documents.specs.declared.value.Json.{Json}
use Rattle.json_forms.specs.Dictionary.{pairs_of}
use Rattle.json_forms.proofs.DictionaryLemmas.{pairs_of-push, insert_last, keys_last}
use Rattle.json_forms.proofs.dictionary.read_members.Goals as goal

pub loop-key-preserved : goal.loop-key-preserved
loop-key-preserved g c =
    let l = c.loop-key in
    let done = l.invariant.0 in
    let e : Bor (List ℕ) × Json = (c.in-Some.key.now, c.in-Some.member.now) in
    let left = c.next.new.self in
    let v = c.in_ok-item.item in
    let all : c.into_iter-key-iterator.result ≡ done ++ e ∷ left = l.invariant.1 ∙ ap (λ es. done ++ es) c.in-Some.ensures.steps in
    let whole : c.into_iter-key-iterator.result ≡ c.args.members.now.entries = search rules in
    let sorted = subst (λ es. IsStrictlySortedBy (λ a b. text_cmp a.now b.now) (keys_of es)) (sym whole ∙ all) c.iter-key-items.ensures.ordered in
    let step = ap (λ es. option_map (λ vs. l.found ++ vs) (pairs_of g.V.Form.form (named es))) c.in-Some.ensures.steps in
    let is : string_bytes c.in_ok-name.name ≡ e.0.now = search rules in
    let placed : c.insert.new.self ≡ l.found ++ (e.0.now, v) ∷ [] = c.in_ok-insert.ensures.ok ∙ rw is (insert_last (λ k. k.now) l.found done e left v l.invariant.2 sorted) in (
      done ++ e ∷ [],
      all ∙ sym (append_assoc done (e ∷ []) left),
      rw placed (keys_last (λ k. k.now) l.found done e v l.invariant.2),
      rw placed (l.invariant.3 ∙ step ∙ pairs_of-push g.V.Form.form e.0.now (view e.1) (named left) v l.found c.in_ok-item.ensures),
    )
