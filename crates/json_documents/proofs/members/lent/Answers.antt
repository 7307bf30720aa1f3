use Rattle.std.proofs.Common.{◌≡◌, ◌∙◌, ap, sym, string_bytes}
use Rattle.serde_json.specs.Data.{put}
use Rattle.serde_json.specs.View as serde
use Rattle.json_documents.specs.Documents.{named}
use Rattle.json_documents.proofs.DataLemmas.{all_put, named_insert, put_all}
use Rattle.json_documents.proofs.members.lent.Goals as goal

pub loop-name-preserved : goal.loop-name-preserved
loop-name-preserved c =
    let l = c.loop-name in
    let name : c.as_str.result.now ≡ string_bytes c.in-Some.name.now = c.as_str.ensures.value in
    let before = named l.found.entries in
    l.invariant
    ∙ ap (λ es. put_all (serde.members_view es) before) c.in-Some.ensures.steps
    ∙ ap (put_all (serde.members_view c.next.new.self)) (sym (ap named c.in_ok-insert.ensures.entries ∙ named_insert l.found.entries _ _ ∙ ap (λ t. put t (serde.view c.in-Some.value.now) before) name))

pub returns : goal.returns
returns c =
    let l = c.loop-name in
    sym (l.invariant ∙ ap (λ es. put_all (serde.members_view es) (named l.found.entries)) c.in-None.ensures.steps.0)
    ∙ all_put c.args.members.now.entries c.iter-name-items.ensures.ordered
