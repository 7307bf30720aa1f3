use Rattle.std.proofs.Common.{subst}
use Rattle.version_dates.specs.declared.newest_date.NewestDependencyDateOptions.{NewestDependencyDateOptions}
use Rattle.registry_urls.specs.Meaning.{RegistryMeaning}
use Rattle.graph_turns.specs.declared.state.State.{State}
use Rattle.graph_turns.specs.Machine.Entering.{enter_all}
use Rattle.open_loads.specs.Order.OpenLoads.{OpenLoads}
use Rattle.open_loads.specs.Order.Numbered.{Arranged}
use Rattle.open_loads.proofs.Order.Opening.{gone_over}
use Rattle.open_loads.proofs.open_loads.OpenLoads.enter_loads.Goals as goal

pub returns-clause-entered : goal.returns-clause-entered
returns-clause-entered g c =
    let registry : RegistryMeaning = g.U.JsrUrlProvider.meaning c.args.registry.now.urls.now in
    let newest : NewestDependencyDateOptions = c.args.registry.now.versions.now.newest_dependency_date_options in
    subst (λ (x : OpenLoads). Arranged registry newest x c.arrange.new.self)
    (gone_over _ c.args.self.now c.enter_all.new.self (λ (s : State). enter_all s c.args.loads.items) c.self.view_is c.in_ok-enter_all.ensures)
    c.in_ok-arrange.ensures.arranged
