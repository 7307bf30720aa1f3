use Rattle.std.proofs.Common.{◌≡◌, ◌∙◌, ap, sym, map, rules}
use Rattle.json.specs.Json as json
use Rattle.json.specs.Value.{value_view, members_view}
use Rattle.json.specs.declared.value.Value.{Object, the_lemmas}
use Rattle.json_documents.specs.Documents.{data_of, view}
use Rattle.json_documents.specs.Names.{has_names}
use Rattle.json_documents.proofs.DataLemmas.{among_all}
use Rattle.json_documents.proofs.value.Json.has_names.Goals as goal

pub returns-in-Object : goal.returns-in-Object
returns-in-Object c =
    let names = map (λ s. s.now) c.args.names.now in
    let ms = members_view c.in-Object.members.items in
    let seen : value_view (Object c.in-Object.members) ≡ json.object ms = search (rules, the_lemmas) in
    c.read_among.ensures ∙ among_all names ms
    ∙ sym (ap (λ j. has_names names (view j)) c.in-Read.is ∙ ap (λ v. has_names names (data_of (value_view v))) c.in-Object.is ∙ ap (λ j. has_names names (data_of j)) seen)
