use Rattle.std.proofs.Common.{◌∙◌, sym}
use Rattle.registry_urls.specs.Meaning.{RegistryMeaning}
use Rattle.open_loads.proofs.Order.Opening.{late_known, late_none}
use Rattle.open_loads.proofs.open_loads.OpenLoads.begin_late.Goals as goal

pub returns-in-Some-clause-begun : goal.returns-in-Some-clause-begun
returns-in-Some-clause-begun g c =
    let registry : RegistryMeaning = g.U.JsrUrlProvider.meaning c.args.urls.now in
    late_known c.begin_first.result registry c.args.self.now c.begin_first.new.self c.in-Some.manner (sym c.in-Some.is ∙ c.in_ok-first_manner.ensures) c.begin_first.ensures.begun

pub returns-in-None-clause-begun : goal.returns-in-None-clause-begun
returns-in-None-clause-begun g c =
    let registry : RegistryMeaning = g.U.JsrUrlProvider.meaning c.args.urls.now in
    late_none registry c.args.self.now (sym c.in-None.is ∙ c.in_ok-first_manner.ensures)
