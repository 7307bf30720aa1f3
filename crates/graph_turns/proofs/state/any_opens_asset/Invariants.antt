-- What is left decides.
use Rattle.std.proofs.Common.{◌≡◌, drop}
use Rattle.std.specs.List.{list_any}
use Rattle.graph_turns.proofs.state.any_opens_asset.Given as goal
use Rattle.graph_turns.specs.Machine.Entering.{opens_asset}

abbrev pub invariant-loop-place : goal.invariant-loop-place
invariant-loop-place l = list_any (opens_asset l.specifier) l.loads ≡ list_any (opens_asset l.specifier) (drop l.place l.loads)
