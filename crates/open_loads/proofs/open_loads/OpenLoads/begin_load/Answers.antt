use Rattle.std.proofs.Common.{◌≡◌, ◌∙◌, ◌∷◌, ℕ, Option, refl, ap, sym, subst}
use Rattle.std.specs.Prelude.{IfOk}
use Rattle.registry_urls.specs.Meaning.{RegistryMeaning}
use Rattle.graph_turns.specs.declared.question_of.Asked.{Asked}
use Rattle.open_loads.specs.Order.OpenLoads.{OpenLoads}
use Rattle.open_loads.specs.Order.Numbered.{load_next}
use Rattle.open_loads.proofs.Order.Opening.{load_gap, load_none, load_some}
use Rattle.open_loads.proofs.open_loads.OpenLoads.begin_load.Goals as goal

pub returns-in-Some-Some-clause-begun : goal.returns-in-Some-Some-clause-begun
returns-in-Some-Some-clause-begun g c =
    let registry : RegistryMeaning = g.U.JsrUrlProvider.meaning c.args.urls.now in
    ap (load_next registry) (sym c.in_ok-put_ahead.ensures.ahead)
    ∙ load_some registry _ c.put_ahead.new.self c.stand.new.self (c.in-Some-Some.ticket, c.in-Some-Some.asked) c.pop_front.new.self c.self.view_is (c.in-Some-Some.ensures.some ∙ ap (λ (x : Option (ℕ × Asked)). x ∷ c.pop_front.new.self) c.in-Some-Some.field-0-is) c.stand.ensures

pub returns-in-Some-None-clause-begun : goal.returns-in-Some-None-clause-begun
returns-in-Some-None-clause-begun g c =
    let registry : RegistryMeaning = g.U.JsrUrlProvider.meaning c.args.urls.now in
    subst (λ (x : OpenLoads). IfOk c.begin_late.result (λ due. load_next registry x ≡ (due, c.begin_late.new.self))) c.in_ok-put_ahead.ensures.ahead
    (load_gap c.begin_late.result registry _ c.put_ahead.new.self c.begin_late.new.self c.pop_front.new.self c.self.view_is (c.in-Some-None.ensures.some ∙ ap (λ (x : Option (ℕ × Asked)). x ∷ c.pop_front.new.self) c.in-Some-None.field-0-is) c.begin_late.ensures.begun)

pub returns-in-None-clause-begun : goal.returns-in-None-clause-begun
returns-in-None-clause-begun g c =
    let registry : RegistryMeaning = g.U.JsrUrlProvider.meaning c.args.urls.now in
    ap (load_next registry) (sym c.in_ok-put_ahead.ensures.ahead)
    ∙ load_none registry _ c.put_ahead.new.self _ c.pop_front.new.self c.self.view_is c.in-None.ensures.none c.in-None.ensures.same refl
