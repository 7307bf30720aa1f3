-- The tool `store`: the answers that a build got, as one file.
use Rattle.std.specs.Prelude.{◌≡◌, ℕ, List, Option}
use Rattle.source_sums.specs.Sums.{KnownSums}
use Rattle.source_io.specs.declared.types.World.{World}
use Rattle.metadata_store.specs.declared.store.JsrMetadataStore.{JsrMetadataStore}
use Rattle.version_dates.specs.declared.newest_date.NewestDependencyDateOptions.{NewestDependencyDateOptions}
use Rattle.graph_core.specs.declared.graph.ModuleGraph.{ModuleGraph}
use Rattle.graph_turns.specs.Machine.Turns.{IsTurnedFrom, begun}
use Rattle.graph_turns.specs.Promise.Input.{Given}
use Rattle.graph_turns.specs.Promise.Told.{Told}
use Rattle.graph_store.specs.declared.entry.StoreEntry.{StoreEntry}
use Rattle.graph_store.specs.Named.{AreWritable}
use Rattle.graph_store.specs.Order.{HaveForms, IsRising}
use Rattle.graph_store.specs.Words.{IsStoreOf, word}
use Rattle.graph_store.specs.Worlds.{AreToldBy}
use Rattle.store_turns.specs.Answering.{Fits, IsStorable}
use Rattle.store_turns.specs.Questions.{AreAnswersTo}
use Rattle.world_file.specs.WorldRegistry.{IsLimit}
use Rattle.world_file.specs.declared.input.Input.{Input}
use Rattle.program_phases.specs.Outcome.{given_in}
use Rattle.tools_program.specs.declared.tool_report.ToolReport.{ToolReport}
use Rattle.tools_program.specs.Reports.{is_valid}
use Rattle.tools_program.specs.Told.{ButCopiesOf, told_over}

-- the bytes of a store of these entries, which rise and have the forms of their purposes; a yes where the graph is valid
pub record IsStored (entries : List StoreEntry) (g : ModuleGraph) (report : ToolReport) : Type 0 where
  pub bytes : report.bytes ≡ word entries
  pub store : AreWritable entries → IsStoreOf report.bytes entries
  pub rising : IsRising entries
  pub formed : HaveForms entries
  pub verdict : report.is_yes ≡ is_valid g

-- a graph is that of the turns of what is given, which put so many questions
abbrev pub IsTurnedBy : Told → Given → ModuleGraph → ℕ → Type 0
IsTurnedBy told given g put = (sums : Option KnownSums) × (store : Option JsrMetadataStore) × IsTurnedFrom told given.kind (begun told given) g sums store put

-- entries tell all that the build of a graph was told, and nothing else: each answers a question about a pair that some run of the build
-- reaches; and where a store can tell the world's answers, the build by each world that answers as they do leaves the same graph, but for
-- what is noted of cached copies, and puts as many questions
pub record IsStoreOfBuild (world : World) (input : Input) (entries : List StoreEntry) (g : ModuleGraph) : Type 0 where
  pub newest : NewestDependencyDateOptions
  pub limit : IsLimit input.registry.newest newest
  pub put : ℕ
  pub turned : ButCopiesOf world (λ bare. IsTurnedBy (told_over world input newest) (given_in input) bare put) g
  pub about : AreAnswersTo (told_over world input newest) (given_in input) entries
  pub alone : IsStorable world → (other : World) → Fits entries other → other.max_redirects ≡ world.max_redirects → ButCopiesOf world (λ bare. IsTurnedBy (told_over other input newest) (given_in input) bare put) g

-- the bytes of the store of the build, in which each entry tells what the world answers, where it judges no sums
abbrev pub IsStoreReport : Input → ModuleGraph → ToolReport → Type 0
IsStoreReport input g report = (entries : List StoreEntry) × IsStored entries g report × AreToldBy entries input.world × IsStoreOfBuild input.world input entries g
