-- Questions that a build puts, and entries about them.
use Rattle.std.specs.Prelude.{◌≡◌, List, Option}
use Rattle.std.specs.List.{AllByRecursion}
use Rattle.source_io.specs.declared.types.Question.{Question}
use Rattle.source_io.specs.declared.types.World.{World}
use Rattle.graph_core.specs.Graph.{new_graph}
use Rattle.graph_core.specs.declared.graph.ModuleGraph.{ModuleGraph}
use Rattle.graph_store.specs.declared.entry.StoreEntry.{StoreEntry}
use Rattle.graph_store.specs.Recorded.{Tickets, entry_for}
use Rattle.graph_turns.specs.declared.unresolved_input.LeftOver.{LeftOver}
use Rattle.graph_turns.specs.Promise.Input.{Given}
use Rattle.graph_turns.specs.Promise.Runs.{left_of}
use Rattle.graph_turns.specs.Promise.Told.{Told}
use Rattle.graph_builder.specs.Calls.Builds.{GoesBy, IsPutBy}
use Rattle.graph_builder.specs.Calls.Steps.{BuildState}
use Rattle.open_loads.specs.Order.Means.{IsTold, Means}

-- each open question is about a pair that a run of the build reaches
abbrev pub AreReached : Told → ModuleGraph → LeftOver → Tickets → Type 0
AreReached told g given tickets = AllByRecursion (λ t. IsPutBy told g given t.1) tickets

-- an entry stands under the specifier and the purpose of such a question
abbrev pub IsAbout : Told → ModuleGraph → LeftOver → StoreEntry → Type 0
IsAbout told g given e = (q : Question) × IsPutBy told g given q × (e ≡ entry_for q e.answer)

abbrev pub AreAbout : Told → ModuleGraph → LeftOver → List StoreEntry → Type 0
AreAbout told g given es = AllByRecursion (IsAbout told g given) es

-- each entry answers a question that a build of what is given, into the empty graph, puts
abbrev pub AreAnswersTo : Told → Given → List StoreEntry → Type 0
AreAnswersTo told given es = AreAbout told (new_graph given.kind) (left_of given) es

module _ {O : Type 0} where
  -- a step through a recorder leaves such questions open and such entries kept
  abbrev pub KeepsReached : Option World → Means → Tickets → List StoreEntry → BuildState O → Tickets → List StoreEntry → Type 0
  KeepsReached world means old_tickets old_es old tickets es = (told : Told) (g : ModuleGraph) (given : LeftOver) → IsTold world means told g.kind → GoesBy told g given old
      → AreReached told g given old_tickets → AreAbout told g given old_es → AreReached told g given tickets × AreAbout told g given es
