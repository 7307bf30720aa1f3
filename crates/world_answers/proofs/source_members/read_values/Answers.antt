use Rattle.std.proofs.Common.{◌++◌, option_map, ap, ◌∙◌}
use Rattle.json_documents.specs.Documents.{named, view}
use Rattle.world_answers.specs.SourceMembers.{values_of}
use Rattle.world_answers.specs.WorldSources.{source}
use Rattle.world_answers.proofs.MemberLemmas.{values_of-push}
use Rattle.world_answers.proofs.source_members.read_values.Goals as goal

pub loop-value-preserved : goal.loop-value-preserved
loop-value-preserved c =
    let l = c.loop-value in
    let step = ap (λ es. option_map (λ vs. l.sources.items ++ vs) (values_of source (named es))) c.in-Some.ensures.steps in
    rw c.in_ok-push.ensures.items (l.invariant ∙ step ∙ values_of-push source c.in-Some.field-0-0.now.now (view c.in-Some.value.now) (named c.next.new.self) _ l.sources.items c.in_ok-source.ensures)
