use Rattle.std.proofs.Common.{◌≡◌, ◌∙◌, None, Some, ap, subst, sym}
use Rattle.std.proofs.lemmas.Result.{on_ok_weaker}
use Rattle.graph_turns.specs.Machine.Npm.{IsEnded}
use Rattle.graph_core.specs.Npm.{no_npm, npm_of, IsNpmSettled}
use Rattle.graph_turns.specs.Machine.Npm.IsEnded.{as_it_is, settled}
use Rattle.open_loads.proofs.npm_end.end_npm.Goals as goal

pub returns-then-not-state-clause-ended : goal.returns-then-not-state-clause-ended
returns-then-not-state-clause-ended g c = as_it_is c.if-not-state.true

pub returns-in-Some-clause-ended : goal.returns-in-Some-clause-ended
returns-in-Some-clause-ended g c =
    on_ok_weaker c.settle_waiting.result
    (λ e. subst (λ r. IsEnded (npm_of g.N.NpmResolver.table r) c.args.state.now c.settle_waiting.new.state.graph) (sym c.in-Some.is) (settled c.if-not-state.false e))
    c.settle_waiting.ensures.settled

pub returns-in-None-clause-ended : goal.returns-in-None-clause-ended
returns-in-None-clause-ended g c =
    let new = c.settle_waiting-in-None.new.state.graph in
    let is : c.new-resolver.result ≡ no_npm = c.new-resolver.ensures ∙ ap (λ l. record no_npm { packages = l }) c.new.ensures.items in
    on_ok_weaker c.settle_waiting-in-None.result
    (λ e. subst (λ r. IsEnded (npm_of g.N.NpmResolver.table r) c.args.state.now new) (sym c.in-None.is)
    (settled c.if-not-state.false (subst (λ t. IsNpmSettled (Some t) c.args.state.now.npm c.args.state.now.graph new) is e)))
    c.settle_waiting-in-None.ensures.settled
