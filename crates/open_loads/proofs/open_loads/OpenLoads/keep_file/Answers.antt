use Rattle.registry_urls.specs.Meaning.{RegistryMeaning}
use Rattle.open_loads.proofs.Order.Wanted.{kept_file}
use Rattle.open_loads.proofs.open_loads.OpenLoads.keep_file.Goals as goal

pub returns-in-Ok-clause-kept : goal.returns-in-Ok-clause-kept
returns-in-Ok-clause-kept g c =
    let registry : RegistryMeaning = g.U.JsrUrlProvider.meaning c.args.urls.now in
    kept_file c.add_to_store.result registry _ c.args.self.now c.add_to_store.new.self c.args.nv c.args.answer c.loaded-answer.result c.keep_version.new.self c.self.view_is c.loaded-answer.ensures c.in-Ok.ensures c.add_to_store.ensures.added
