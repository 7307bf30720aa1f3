use Rattle.std.proofs.Common.{◌∙◌, sym}
use Rattle.registry_urls.specs.Meaning.{RegistryMeaning}
use Rattle.open_loads.proofs.Order.Wanted.{kept_none, kept_some}
use Rattle.open_loads.proofs.open_loads.OpenLoads.keep_wanted.Goals as goal

pub returns-in-Ok-None-clause-kept : goal.returns-in-Ok-None-clause-kept
returns-in-Ok-None-clause-kept g c =
    let registry : RegistryMeaning = g.U.JsrUrlProvider.meaning c.args.urls.now in
    kept_none registry _ c.args.self.now c.args.answer c.loaded-answer.result c.keep_wanted.new.self c.self.view_is c.loaded-answer.ensures c.in-Ok-None.ensures.kept (sym c.in-Ok-None.field-0-is ∙ c.in-Ok-None.ensures.which)

pub returns-in-Ok-Some-clause-kept : goal.returns-in-Ok-Some-clause-kept
returns-in-Ok-Some-clause-kept g c =
    let registry : RegistryMeaning = g.U.JsrUrlProvider.meaning c.args.urls.now in
    kept_some c.add_to_store.result registry _ c.args.self.now c.add_to_store.new.self c.args.answer c.loaded-answer.result c.keep_wanted.new.self c.in-Ok-Some.file c.self.view_is c.loaded-answer.ensures c.in-Ok-Some.ensures.kept (sym c.in-Ok-Some.field-0-is ∙ c.in-Ok-Some.ensures.which) c.add_to_store.ensures.added
