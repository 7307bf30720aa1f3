use Rattle.std.proofs.Common.{◌≡◌, ◌∙◌, true, false, is_some, sym, ap}
use Rattle.registry_urls.specs.Meaning.{RegistryMeaning}
use Rattle.graph_turns.specs.Promise.Versions.{is_stored}
use Rattle.open_loads.specs.Order.OpenLoads.{known_now}
use Rattle.open_loads.proofs.Order.Wanted.{copied_is, question_none, question_some}
use Rattle.open_loads.proofs.open_loads.OpenLoads.file_question.Goals as goal

pub returns-then-is_some : goal.returns-then-is_some
returns-then-is_some g c =
    let registry : RegistryMeaning = g.U.JsrUrlProvider.meaning c.args.urls.now in
    let b = c.args.self.now in
    let file = c.args.file.now in
    let here : is_stored (known_now b).store file ≡ true = sym (ap is_some c.stored.ensures) ∙ copied_is c.stored.result ∙ sym c.is_some.ensures ∙ c.if-is_some.true in
    question_none registry b file here

pub returns : goal.returns
returns g c =
    let registry : RegistryMeaning = g.U.JsrUrlProvider.meaning c.args.urls.now in
    let b = c.args.self.now in
    let file = c.args.file.now in
    let none : is_stored (known_now b).store file ≡ false = sym (ap is_some c.stored.ensures) ∙ copied_is c.stored.result ∙ sym c.is_some.ensures ∙ c.if-is_some.false in
    question_some registry _ b file c.metadata_setting-setting.result _ c.known_sums.result.run.now _ none c.self.view_is c.metadata_setting-setting.ensures c.known_sums.ensures.manifests c.known_sums.ensures.run c.in_ok-wanted_question.ensures
