use Rattle.std.proofs.Common.{◌≡◌, ◌∙◌, [], ap, sym, true, cond, Some, None, option_and_then, option_map, refl}
use Rattle.json.specs.Json.{if_last, value}
use Rattle.json.specs.Lex.{tokens}
use Rattle.json.specs.Value.{value_view}
use Rattle.json_documents.specs.Documents.{data_of}
use Rattle.json_documents.specs.Whole.{was_whole}
use Rattle.json_documents.proofs.DataLemmas.{data_whole, read_last, whole_read}
use Rattle.json_documents.proofs.document.Document.read_whole.Goals as goal

pub returns-then-was_whole : goal.returns-then-was_whole
returns-then-was_whole c =
    let j = value_view c.in_ok-value.value in
    let whole : was_whole j ≡ true = sym c.if-was_whole.ensures in (
      read_last (value 127 (tokens c.args.text.now)) j [] c.in_ok-value.ensures refl ∙ ap (λ b. cond b (Some (data_of j)) None) (data_whole j whole),
      whole_read j whole,
    )

pub returns : goal.returns
returns c =
    ap (λ o. option_map was_whole (option_and_then (λ p. if_last p.0 p.1) o)) c.in_ok-value.ensures ∙ ap (λ b. Some b) (sym c.if-was_whole.ensures)
