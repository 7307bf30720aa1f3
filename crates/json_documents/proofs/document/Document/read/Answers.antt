use Rattle.std.proofs.Common.{◌∙◌, [], ap, sym, cond, Some, None, refl}
use Rattle.json.specs.Json.{value}
use Rattle.json.specs.Lex.{tokens}
use Rattle.json.specs.Value.{value_view}
use Rattle.json_documents.specs.Documents.{data_of}
use Rattle.json_documents.proofs.DataLemmas.{read_last}
use Rattle.json_documents.proofs.document.Document.read.Goals as goal

pub returns-then-is_data : goal.returns-then-is_data
returns-then-is_data c =
    let j = value_view c.in_ok-value.value in
    read_last (value 127 (tokens c.args.text.now)) j [] c.in_ok-value.ensures refl ∙ ap (λ b. cond b (Some (data_of j)) None) (sym c.if-is_data.ensures)

pub returns : goal.returns
returns c =
    let j = value_view c.in_ok-value.value in
    read_last (value 127 (tokens c.args.text.now)) j [] c.in_ok-value.ensures refl ∙ ap (λ b. cond b (Some (data_of j)) None) (sym c.if-is_data.ensures)
