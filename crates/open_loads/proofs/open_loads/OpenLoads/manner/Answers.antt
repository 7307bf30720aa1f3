use Rattle.registry_urls.specs.Meaning.{RegistryMeaning}
use Rattle.open_loads.proofs.Order.Opening.{manner_by}
use Rattle.open_loads.proofs.open_loads.OpenLoads.manner.Goals as goal

pub returns : goal.returns
returns g c =
    let registry : RegistryMeaning = g.U.JsrUrlProvider.meaning c.args.urls.now in
    manner_by c.manner_of.result registry _ c.args.self.now c.args.load.now _ c.known_sums.result.run.now c.self.view_is c.known_sums.ensures.sums c.known_sums.ensures.run c.manner_of.ensures
