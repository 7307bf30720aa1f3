use Rattle.std.proofs.Common.{◌∙◌, ap, sym, option_map}
use Rattle.json.specs.Value.{value_view}
use Rattle.serde_json.specs.Find.{get}
use Rattle.json_documents.specs.Documents.{data_of, view}
use Rattle.json_documents.proofs.DataLemmas.{get_is}
use Rattle.json_documents.proofs.value.Json.get.Goals as goal

pub returns-in-Some : goal.returns-in-Some
returns-in-Some c =
    let name = c.args.name.now in
    ap (option_map data_of) c.in-Some.ensures ∙ get_is name (value_view c.in-Read.value.now) ∙ sym (ap (λ j. get name (view j)) c.in-Read.is)

pub returns-in-None : goal.returns-in-None
returns-in-None c =
    let name = c.args.name.now in
    ap (option_map data_of) c.in-None.ensures ∙ get_is name (value_view c.in-Read.value.now) ∙ sym (ap (λ j. get name (view j)) c.in-Read.is)
