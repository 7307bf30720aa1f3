use Rattle.std.proofs.Common.{◌≡◌, ◌∙◌, sym, ap, subst}
use Rattle.graph_builder.specs.declared.build_phase.Phase.{Phase}
use Rattle.graph_builder.specs.Calls.Makers.{directions_in}
use Rattle.graph_builder.specs.Calls.Steps.{Enters, is_begun}
use Rattle.open_loads.specs.Order.Means.{Directions}
use Rattle.graph_builder.proofs.Calls.Entered.{enters_self}
use Rattle.graph_builder.proofs.Calls.Going.{built}
use Rattle.graph_builder.proofs.machine.Build.enter_left_over.Goals as goal

pub returns-in_default-clause-enters : goal.returns-in_default-clause-enters
returns-in_default-clause-enters g c =
    let b = c.args.self.now in
    let directions : Directions = directions_in g.S.Urls.JsrUrlProvider.meaning g.S.Resolve.Resolver.is_told g.S.Resolve.Resolver.meaning b in
    let none = c.in_default.ensures.none in
    let same : built c.self.inside.turns c.take_left.new.self c.self.inside.kind c.self.inside.options ≡ b = ap (λ (p : Phase). built c.self.inside.turns p c.self.inside.kind c.self.inside.options) none.1 ∙ c.self.view_is in
    subst (Enters directions b) (sym same) (enters_self directions b (ap (λ s. is_begun s.phase) (sym c.self.view_is) ∙ none.0))
