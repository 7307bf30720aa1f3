use Rattle.std.proofs.Common.{◌≡◌, Some, rules}
use Rattle.serde_json.specs.Find.{get, as_object}
use Rattle.json_documents.specs.Documents.{named, view}
use Rattle.json_forms.specs.Keyed.{if_distinct}
use Rattle.world_answers.proofs.EntryLemmas.{rising_read}
use Rattle.world_answers.proofs.source_members.keyed_sources.Goals as goal

pub returns-then-entries_rise : goal.returns-then-entries_rise
returns-then-entries_rise c =
    let rise = c.entries_rise.ensures.0 c.if-entries_rise.true in
    let distinct : if_distinct c.in_ok-entries.entries ≡ Some c.in_ok-entries.entries = rw (← c.as_slice.ensures) (rising_read c.as_slice.result.now rise) in
    let there : get c.args.name.now (view c.args.value.now) ≡ Some (view c.in-Some.sources) = search rules in
    let object : as_object (view c.in-Some.sources) ≡ Some (named c.in-Some-2.members.entries) = search rules in
    rw (there, object, c.in_ok-entries.ensures) distinct
