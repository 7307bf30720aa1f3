use Rattle.std.proofs.Common.{rules, ◌≡◌, ◌∙◌, Some, slice_get, ap, sym}
use Rattle.source_io.specs.declared.types.CacheSetting.{CacheSetting}
use Rattle.graph_turns.specs.Promise.Taken.{put_asked}
use Rattle.open_loads.specs.Order.OpenLoads.{OpenLoads, known_now}
use Rattle.open_loads.proofs.Order.Opening.{asked_stood}
use Rattle.open_loads.proofs.open_loads.OpenLoads.put_first.Goals as goal

pub returns-clause-put : goal.returns-clause-put
returns-clause-put g c =
    let b = c.args.self.now in
    let load = c.in-Some.load.now in
    let e : slice_get b.state.loads 0 ≡ Some load = search rules in
    asked_stood b load e _ c.args.asked.now c.in_ok-question.question c.in_ok-ticket.ticket
    (c.in_ok-question.ensures (known_now b) (ap (λ (x : OpenLoads). x.known.flags) (sym c.self.view_is))
    ∙ ap (λ (s : CacheSetting). put_asked s (known_now b) c.args.asked.now load.specifier load.context) c.first_setting-setting.ensures)
    c.in_ok-ticket.ensures.put c.in_ok-ticket.ensures.ticket
