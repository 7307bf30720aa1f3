use Rattle.std.proofs.Common.{◌≡◌, ◌∙◌, true, false, sym, ap}
use Rattle.graph_turns.specs.Machine.Runs.{is_second}
use Rattle.graph_turns.specs.Promise.Versions.{answer_in}
use Rattle.open_loads.specs.Order.OpenLoads.{OpenLoads}
use Rattle.open_loads.proofs.Order.Stores.{answered_first, answered_second}
use Rattle.open_loads.proofs.open_loads.OpenLoads.stored.Goals as goal

pub returns-then-is_second : goal.returns-then-is_second
returns-then-is_second g c =
    let b = c.args.self.now in
    let second : is_second b.state.run ≡ true = ap (λ (x : OpenLoads). is_second x.state.run) (sym c.self.view_is) ∙ sym c.is_second.ensures ∙ c.if-is_second.true in
    sym (answered_second b.known.store b.state.run c.args.file.now second)

pub returns-else-is_second : goal.returns-else-is_second
returns-else-is_second g c =
    let b = c.args.self.now in
    let first : is_second b.state.run ≡ false = ap (λ (x : OpenLoads). is_second x.state.run) (sym c.self.view_is) ∙ sym c.is_second.ensures ∙ c.if-is_second.false in
    c.stored.ensures ∙ ap (λ (x : OpenLoads). answer_in x.known.store c.args.file.now) c.self.view_is ∙ sym (answered_first b.known.store b.state.run c.args.file.now first)
