use Rattle.std.proofs.Common.{◌∙◌, ap}
use Rattle.registry_urls.specs.Meaning.{RegistryMeaning}
use Rattle.graph_turns.specs.Machine.Runs.{setting_for}
use Rattle.open_loads.specs.Order.OpenLoads.{OpenLoads}
use Rattle.open_loads.proofs.Order.Opening.{file_stood}
use Rattle.open_loads.proofs.open_loads.OpenLoads.put_file.Goals as goal

pub returns-clause-put : goal.returns-clause-put
returns-clause-put g c =
    let registry : RegistryMeaning = g.U.JsrUrlProvider.meaning c.args.urls.now in
    let b = c.args.self.now in
    file_stood registry b _ c.args.nv.now c.metadata_setting-setting.result _ c.known_sums.result.run.now c.in_ok-question.question c.in_ok-asked.asked.0 c.in_ok-asked.asked.1
    (c.metadata_setting-setting.ensures ∙ ap (λ (x : OpenLoads). setting_for x.state.run) c.self.view_is)
    c.known_sums.ensures.manifests c.known_sums.ensures.run c.in_ok-question.ensures c.in_ok-asked.ensures.about c.in_ok-asked.ensures.put c.in_ok-asked.ensures.ticket
