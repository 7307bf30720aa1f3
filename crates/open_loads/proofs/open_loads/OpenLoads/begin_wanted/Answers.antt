use Rattle.std.proofs.Common.{◌≡◌, ◌∙◌, ◌∷◌, ℕ, Option, refl, ap, sym, subst}
use Rattle.std.specs.Prelude.{IfOk}
use Rattle.url.specs.Parts.{Parts}
use Rattle.registry_urls.specs.Meaning.{RegistryMeaning}
use Rattle.open_loads.specs.Order.OpenLoads.{OpenLoads}
use Rattle.open_loads.specs.Order.Numbered.{file_next}
use Rattle.open_loads.proofs.Order.Opening.{file_gap, file_none, file_some}
use Rattle.open_loads.proofs.open_loads.OpenLoads.begin_wanted.Goals as goal

pub returns-in-Some-Some-clause-begun : goal.returns-in-Some-Some-clause-begun
returns-in-Some-Some-clause-begun g c =
    let registry : RegistryMeaning = g.U.JsrUrlProvider.meaning c.args.urls.now in
    ap (file_next registry) (sym c.in_ok-put_wanted.ensures.wanted)
    ∙ file_some registry _ c.put_wanted.new.self c.stand.new.self (c.in-Some-Some.ticket, c.in-Some-Some.at) c.pop_front.new.self c.self.view_is (c.in-Some-Some.ensures.some ∙ ap (λ (x : Option (ℕ × Parts)). x ∷ c.pop_front.new.self) c.in-Some-Some.field-0-is) c.stand.ensures

pub returns-in-Some-None-clause-begun : goal.returns-in-Some-None-clause-begun
returns-in-Some-None-clause-begun g c =
    let registry : RegistryMeaning = g.U.JsrUrlProvider.meaning c.args.urls.now in
    subst (λ (x : OpenLoads). IfOk c.use_stored.result (λ due. file_next registry x ≡ (due, c.use_stored.new.self))) c.in_ok-put_wanted.ensures.wanted
    (file_gap c.use_stored.result registry _ c.put_wanted.new.self c.use_stored.new.self c.pop_front.new.self c.self.view_is (c.in-Some-None.ensures.some ∙ ap (λ (x : Option (ℕ × Parts)). x ∷ c.pop_front.new.self) c.in-Some-None.field-0-is) c.use_stored.ensures.used)

pub returns-in-None-clause-begun : goal.returns-in-None-clause-begun
returns-in-None-clause-begun g c =
    let registry : RegistryMeaning = g.U.JsrUrlProvider.meaning c.args.urls.now in
    ap (file_next registry) (sym c.in_ok-put_wanted.ensures.wanted)
    ∙ file_none registry _ c.put_wanted.new.self _ c.pop_front.new.self c.self.view_is c.in-None.ensures.none c.in-None.ensures.same refl
