-- What is read so far, and what is left to read, are the whole.
use Rattle.std.proofs.Common.{◌≡◌, ◌++◌, option_map}
use Rattle.serde_json.specs.View as serde
use Rattle.json_documents.specs.Documents.{items_left}
use Rattle.json_forms.specs.Form.{items_of}
use Rattle.world_answers.specs.AnswerEntries.{answer_entry}
use Rattle.world_answers.proofs.answer_entries.read_each.Given as goal

abbrev pub invariant-loop-item : goal.invariant-loop-item
invariant-loop-item l =
    items_of answer_entry (serde.items_of (items_left l.initial.item-iterator))
    ≡ option_map (λ vs. l.entries ++ vs) (items_of answer_entry (serde.items_of (items_left l.item-iterator)))
