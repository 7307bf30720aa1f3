-- What a build over the empty graph leaves.
use Rattle.std.specs.Prelude.{◌≡◌, ℕ, Option}
use Rattle.source_sums.specs.Sums.{KnownSums}
use Rattle.metadata_store.specs.declared.store.JsrMetadataStore.{JsrMetadataStore}
use Rattle.source_io.specs.declared.types.World.{World}
use Rattle.graph_core.specs.declared.graph.ModuleGraph.{ModuleGraph}
use Rattle.graph_turns.specs.Machine.Sums.{IsTaught}
use Rattle.graph_turns.specs.Machine.Turns.{IsTurnedFrom, begun}
use Rattle.graph_turns.specs.Promise.Input.{Given}
use Rattle.graph_turns.specs.Promise.Told.{Told}

-- the graph of the turns of what is given, whatever order answers arrived in, a locker that was told their sums, a given metadata store as
-- they leave it, and as many questions as they put
abbrev pub LeavesTurns : Told → Given → ModuleGraph → Option KnownSums → Option JsrMetadataStore → ℕ → Type 0
LeavesTurns told given g now_known store put = (sums : Option KnownSums) × IsTurnedFrom told given.kind (begun told given) g sums store put × IsTaught told.known.sums sums now_known

-- all that is told, with the answers of another world
abbrev pub answered_by : Told → World → Told
answered_by told v = record told { world = v }
