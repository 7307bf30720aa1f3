use Rattle.std.proofs.Common.{◌∙◌, ap}
use Rattle.turn_laws.specs.Promise.Reloads.{without_slots}
use Rattle.graph_reloads.proofs.Calls.Again.{entry_again}
use Rattle.graph_reloads.proofs.reloads.unload.Goals as goal

pub returns : goal.returns
returns c =
    entry_again c.args.dynamic c.args.graph.now c.remove_slots.new.graph c.in_ok-loads.loads.items c.args.specifiers.now c.in_ok-loads.ensures (c.remove_slots.ensures ∙ ap (without_slots c.args.graph.now) c.deref.ensures.value)
