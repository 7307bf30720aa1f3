use Rattle.std.proofs.Common.{◌≡◌, subst}
use Rattle.std.specs.Prelude.{IfOk}
use Rattle.url.specs.Parts.{Parts}
use Rattle.graph_turns.specs.Machine.Outcomes.{failure_outcome}
use Rattle.open_loads.proofs.open_loads.failure_at.Goals as goal

pub returns-in-Ok : goal.returns-in-Ok
returns-in-Ok c = subst (λ (n : Parts). IfOk c.failure_outcome.result (λ o. o ≡ failure_outcome c.args.load.now.context n c.args.error)) c.in-Ok.ensures c.failure_outcome.ensures
