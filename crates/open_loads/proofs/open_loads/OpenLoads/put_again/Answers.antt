use Rattle.std.proofs.Common.{rules, ◌≡◌, Some, slice_get, sym, ap}
use Rattle.open_loads.specs.Order.OpenLoads.{OpenLoads, known_now}
use Rattle.open_loads.proofs.Order.Opening.{again_stood}
use Rattle.open_loads.proofs.open_loads.OpenLoads.put_again.Goals as goal

pub returns-clause-put : goal.returns-clause-put
returns-clause-put g c =
    let b = c.args.self.now in
    let e : slice_get b.state.loads 0 ≡ Some c.in-Some.load.now = search rules in
    λ first.
    again_stood b c.in-Some.load.now e _ c.args.asked.now first c.in_ok-question.question c.in_ok-ticket.ticket
    (c.in_ok-question.ensures (known_now b) (ap (λ (x : OpenLoads). x.known.flags) (sym c.self.view_is)))
    c.in_ok-ticket.ensures.put c.in_ok-ticket.ensures.ticket
