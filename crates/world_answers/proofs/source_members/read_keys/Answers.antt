use Rattle.std.proofs.Common.{◌≡◌, ◌++◌, Some, option_map, ap, ◌∙◌, rules}
use Rattle.json_documents.specs.Documents.{named, view}
use Rattle.json_forms.specs.Form.{url_of}
use Rattle.world_answers.specs.SourceMembers.{specifiers_of}
use Rattle.world_answers.proofs.MemberLemmas.{specifiers_of-push}
use Rattle.world_answers.proofs.source_members.read_keys.Goals as goal

pub loop-key-preserved : goal.loop-key-preserved
loop-key-preserved c =
    let l = c.loop-key in
    let step = ap (λ es. option_map (λ us. l.keys.items ++ us) (specifiers_of (named es))) c.in-Some.ensures.steps in
    let is : url_of c.in-Some.key.now.now ≡ Some c.in_ok-specifier.specifier = search rules in
    rw c.in_ok-push.ensures.items (l.invariant ∙ step ∙ specifiers_of-push c.in-Some.key.now.now (view c.in-Some.field-0-1.now) _ _ l.keys.items is)
