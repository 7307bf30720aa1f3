use Rattle.std.proofs.Common.{◌≡◌, ◌∙◌, ap, sym, rules, Some, map}
use Rattle.std.specs.Slice.Iter.{iter_rest}
use Rattle.json.specs.Json as json
use Rattle.json.specs.Value.{value_view, items_view}
use Rattle.json.specs.declared.value.Value.{Array, the_lemmas}
use Rattle.serde_json.specs.Find.{as_array}
use Rattle.serde_json.specs.View as serde
use Rattle.json_documents.specs.Documents.{data_of, view}
use Rattle.json_documents.proofs.DataLemmas.{same_items}
use Rattle.json_documents.proofs.value.Json.as_array.Goals as goal

pub returns-in-Array : goal.returns-in-Array
returns-in-Array c =
    let vs = c.in-Array.items.items in
    let left : iter_rest c.iter.result ≡ vs = c.iter.ensures.rest ∙ c.deref.ensures.value in
    let seen : value_view (Array c.in-Array.items) ≡ json.array (items_view vs) = search (rules, the_lemmas) in
    ap (λ xs. Some (serde.items_of (map (λ v. data_of (value_view v)) xs))) left
    ∙ ap (λ js. Some js) (same_items vs)
    ∙ sym (ap (λ j. as_array (view j)) c.in-Read.is ∙ ap (λ v. as_array (data_of (value_view v))) c.in-Array.is ∙ ap (λ j. as_array (data_of j)) seen)
