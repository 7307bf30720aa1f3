use Rattle.std.proofs.Common.{◌∙◌, sym, ap}
use Rattle.source_io.specs.declared.types.CacheSetting.{CacheSetting}
use Rattle.registry_urls.specs.Meaning.{RegistryMeaning}
use Rattle.graph_turns.specs.Promise.Taken.{put_asked}
use Rattle.open_loads.specs.Order.OpenLoads.{OpenLoads, known_now}
use Rattle.open_loads.specs.Order.Numbered.{asked_in, manner_at}
use Rattle.open_loads.proofs.Order.Opening.{first_found}
use Rattle.open_loads.proofs.open_loads.OpenLoads.first_question.Goals as goal

pub returns-in-Ok : goal.returns-in-Ok
returns-in-Ok g c =
    let registry : RegistryMeaning = g.U.JsrUrlProvider.meaning c.args.urls.now in
    let b = c.args.self.now in
    let load = c.args.load.now in
    first_found b load (asked_in (manner_at registry b load)) c.in-Ok.question c.in-Some.asked
    (c.in-Ok.ensures (known_now b) (ap (λ (x : OpenLoads). x.known.flags) (sym c.self.view_is))
    ∙ ap (λ (s : CacheSetting). put_asked s (known_now b) c.in-Some.asked load.specifier load.context) c.first_setting-setting.ensures)
    (sym c.in-Some.is ∙ c.in_ok-first_asked.ensures)
