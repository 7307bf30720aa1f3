use Rattle.std.proofs.Common.{◌∙◌, true, false, refl}
use Rattle.version_dates.specs.declared.newest_date.NewestDependencyDateOptions.{NewestDependencyDateOptions}
use Rattle.registry_urls.specs.Meaning.{RegistryMeaning}
use Rattle.open_loads.specs.Order.Numbered.Arranged.{stands, passes}
use Rattle.open_loads.proofs.Order.Opening.{begun_as}
use Rattle.open_loads.proofs.Order.Rounds.{round_fewer}
use Rattle.open_loads.proofs.open_loads.OpenLoads.arrange.Goals as goal

pub loop-stands-init : goal.loop-stands-init
loop-stands-init g c = record { arranged = λ new a. a; known = refl }

pub loop-stands-smaller : goal.loop-stands-smaller
loop-stands-smaller g c =
    let registry : RegistryMeaning = g.U.JsrUrlProvider.meaning c.args.registry.now.urls.now in
    let newest : NewestDependencyDateOptions = c.args.registry.now.versions.now.newest_dependency_date_options in
    round_fewer registry newest c.loop-stands.self c.step.new.self (begun_as registry newest c.loop-stands.self c.step.new.self _ false c.in_ok-stands.ensures.begun c.if-stands.false)

pub loop-stands-preserved : goal.loop-stands-preserved
loop-stands-preserved g c =
    let registry : RegistryMeaning = g.U.JsrUrlProvider.meaning c.args.registry.now.urls.now in
    let newest : NewestDependencyDateOptions = c.args.registry.now.versions.now.newest_dependency_date_options in
    record {
      arranged = λ new more. c.loop-stands.invariant.arranged new (passes (begun_as registry newest c.loop-stands.self c.step.new.self _ false c.in_ok-stands.ensures.begun c.if-stands.false) more);
      known = c.in_ok-stands.ensures.known ∙ c.loop-stands.invariant.known;
    }

pub returns-then-stands-clause-arranged : goal.returns-then-stands-clause-arranged
returns-then-stands-clause-arranged g c =
    let registry : RegistryMeaning = g.U.JsrUrlProvider.meaning c.args.registry.now.urls.now in
    let newest : NewestDependencyDateOptions = c.args.registry.now.versions.now.newest_dependency_date_options in
    c.loop-stands.invariant.arranged c.step.new.self (stands (begun_as registry newest c.loop-stands.self c.step.new.self _ true c.in_ok-stands.ensures.begun c.if-stands.true))
