use Rattle.std.proofs.Common.{sym, ◌∙◌}
use Rattle.graph_turns.proofs.Entering.Opens.{any_here, any_after}
use Rattle.graph_turns.proofs.state.any_opens_asset.Goals as goal
use Rattle.graph_turns.specs.Machine.Entering.{opens_asset}

pub returns-then-opens_asset : goal.returns-then-opens_asset
returns-then-opens_asset c =
    sym (c.loop-place.invariant ∙ any_here (opens_asset c.args.specifier.now) c.args.loads.now c.loop-place.place c.in-Some.load.now (sym c.in-Some.ensures) (sym c.if-opens_asset.ensures))

pub loop-place-preserved : goal.loop-place-preserved
loop-place-preserved c =
    c.loop-place.invariant ∙ any_after (opens_asset c.args.specifier.now) c.args.loads.now c.loop-place.place c.in-Some.load.now (sym c.in-Some.ensures) (sym c.if-opens_asset.ensures)
