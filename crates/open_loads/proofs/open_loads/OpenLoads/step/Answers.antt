use Rattle.std.proofs.Common.{rules, arith, ◌≡◌, ◌∙◌, true, false, refl, sym, ap}
use Rattle.version_dates.specs.declared.newest_date.NewestDependencyDateOptions.{NewestDependencyDateOptions}
use Rattle.registry_urls.specs.Meaning.{RegistryMeaning}
use Rattle.graph_turns.specs.declared.next.Next.TheVariants.{Load as ALoad, Wanted, Content, End}
use Rattle.graph_turns.specs.Machine.Next.{next_of, stands}
use Rattle.open_loads.specs.Order.OpenLoads.{OpenLoads}
use Rattle.open_loads.specs.Order.Numbered.{turn_begun_by}
use Rattle.open_loads.proofs.Order.Opening.{flag_of, step_as, step_gone}
use Rattle.open_loads.proofs.open_loads.OpenLoads.step.Goals as goal

pub returns-in-Load-clause-begun : goal.returns-in-Load-clause-begun
returns-in-Load-clause-begun g c =
    let registry : RegistryMeaning = g.U.JsrUrlProvider.meaning c.args.registry.now.urls.now in
    let newest : NewestDependencyDateOptions = c.args.registry.now.versions.now.newest_dependency_date_options in
    let next : next_of c.args.self.now.state ≡ ALoad = ap (λ (x : OpenLoads). next_of x.state) (sym c.self.view_is) ∙ sym c.next.ensures ∙ c.in-Load.is in
    step_as c.begin_load.result registry newest c.args.self.now c.begin_load.new.self ALoad next c.begin_load.ensures.begun

pub returns-in-Wanted-clause-begun : goal.returns-in-Wanted-clause-begun
returns-in-Wanted-clause-begun g c =
    let registry : RegistryMeaning = g.U.JsrUrlProvider.meaning c.args.registry.now.urls.now in
    let newest : NewestDependencyDateOptions = c.args.registry.now.versions.now.newest_dependency_date_options in
    let next : next_of c.args.self.now.state ≡ Wanted = ap (λ (x : OpenLoads). next_of x.state) (sym c.self.view_is) ∙ sym c.next.ensures ∙ c.in-Wanted.is in
    step_as c.begin_wanted.result registry newest c.args.self.now c.begin_wanted.new.self Wanted next c.begin_wanted.ensures.begun

pub returns-in_ok-begin_content-in-Content-clause-begun : goal.returns-in_ok-begin_content-in-Content-clause-begun
returns-in_ok-begin_content-in-Content-clause-begun g c =
    let registry : RegistryMeaning = g.U.JsrUrlProvider.meaning c.args.registry.now.urls.now in
    let newest : NewestDependencyDateOptions = c.args.registry.now.versions.now.newest_dependency_date_options in
    let next : next_of c.args.self.now.state ≡ Content = ap (λ (x : OpenLoads). next_of x.state) (sym c.self.view_is) ∙ sym c.next.ensures ∙ c.in-Content.is in
    ap (turn_begun_by registry newest c.args.self.now) next ∙ flag_of true _ _ (sym c.in_ok-begin_content-in-Content.ensures.begun)

pub returns-in-End-clause-begun : goal.returns-in-End-clause-begun
returns-in-End-clause-begun g c =
    let registry : RegistryMeaning = g.U.JsrUrlProvider.meaning c.args.registry.now.urls.now in
    let newest : NewestDependencyDateOptions = c.args.registry.now.versions.now.newest_dependency_date_options in
    let next : next_of c.args.self.now.state ≡ End = ap (λ (x : OpenLoads). next_of x.state) (sym c.self.view_is) ∙ sym c.next.ensures ∙ c.in-End.is in
    ap (turn_begun_by registry newest c.args.self.now) next

pub returns-in_ok-go_on-in-Notes-clause-begun : goal.returns-in_ok-go_on-in-Notes-clause-begun
returns-in_ok-go_on-in-Notes-clause-begun g c =
    let registry : RegistryMeaning = g.U.JsrUrlProvider.meaning c.args.registry.now.urls.now in
    let newest : NewestDependencyDateOptions = c.args.registry.now.versions.now.newest_dependency_date_options in
    let silent : stands c.next.result ≡ false = first_of (search rules, grind arith) in
    step_gone registry newest _ c.args.self.now _ c.next.result c.go_on.new.self c.self.view_is (ap (λ (x : OpenLoads). next_of x.state) (sym c.self.view_is) ∙ sym c.next.ensures) silent c.in_ok-go_on-in-Notes.ensures refl
