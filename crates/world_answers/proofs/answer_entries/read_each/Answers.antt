use Rattle.std.proofs.Common.{◌∙◌, ◌++◌, option_map, ap, sym, rules}
use Rattle.serde_json.specs.View as serde
use Rattle.json_documents.specs.Documents.{items_left, view}
use Rattle.json_forms.specs.Form.{items_of}
use Rattle.json_forms.proofs.Options.{items_of-push}
use Rattle.world_answers.specs.AnswerEntries.{answer_entry}
use Rattle.world_answers.proofs.answer_entries.read_each.Goals as goal

pub loop-item-preserved : goal.loop-item-preserved
loop-item-preserved c =
    let l = c.loop-item in
    let left = serde.items_of (items_left c.next.new.self) in
    l.invariant
    ∙ ap (λ ds. option_map (λ vs. l.entries ++ vs) (items_of answer_entry (serde.items_of ds))) c.in-Some.ensures.steps
    ∙ items_of-push answer_entry (view c.in-Some.item) left c.in_ok-read_entry.field-0 l.entries (search rules)
    ∙ ap (λ read. option_map (λ vs. read ++ vs) (items_of answer_entry left)) (sym c.in_ok-push.ensures.ok)
