-- What segments and prunings leave of a built graph.
use Rattle.std.proofs.Common.{◌≡◌, List}
use Rattle.url.specs.Parts.{Parts}
use Rattle.graph_core.specs.declared.graph.ModuleGraph.{ModuleGraph}
use Rattle.graph_walk.specs.Prune.{Prunes}
use Rattle.graph_walk.specs.Segment.{segment_of}
use Rattle.world_file.specs.declared.input.Input.{Input}
use Rattle.program_phases.specs.Outcome.{KeepsPromise}
use Rattle.calls_program.specs.declared.call.Call.TheVariants.{Segment, Prune}
use Rattle.calls_program.specs.Called.{IsCalled}

pub segment_left : (input : Input) (roots : List Parts) (built g : ModuleGraph) → KeepsPromise input built → g ≡ segment_of built roots → IsCalled input (Segment roots) g
segment_left input roots built g promise is = (built, record { promise = promise; segment = is })

pub pruned_left : (input : Input) (built g : ModuleGraph) → KeepsPromise input built → Prunes built g → IsCalled input Prune g
pruned_left input built g promise prunes = (built, record { promise = promise; prunes = prunes })
