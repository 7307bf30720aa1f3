-- What is left decides.
use Rattle.std.proofs.Common.{◌≡◌, drop}
use Rattle.std.specs.List.{list_all}
use Rattle.graph_dependencies.specs.Assets.{takes_asset}
use Rattle.graph_dependencies.proofs.assets.all_assets.Given as goal

abbrev pub invariant-loop-one : goal.invariant-loop-one
invariant-loop-one l = list_all takes_asset l.imports ≡ list_all takes_asset (drop l.one-index l.imports)
