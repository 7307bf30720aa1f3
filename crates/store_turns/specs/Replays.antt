-- What a build by a store leaves of the build that left the store.
use Rattle.std.specs.Prelude.{◌≡◌, ℕ, Result, Ok, Err}
use Rattle.source_io.specs.Tickets.{IsPut}
use Rattle.graph_core.specs.declared.graph.ModuleGraph.{ModuleGraph}
use Rattle.open_loads.specs.declared.fault.BuildFault.TheVariants as fault
use Rattle.graph_store.specs.Loaders.{asked_of}
use Rattle.store_turns.specs.declared.replaying.StoredBuild.{StoredBuild}
use Rattle.store_turns.specs.declared.twice.ReplayFault.{ReplayFault}
use Rattle.store_turns.specs.declared.twice.ReplayFault.TheVariants.{Memory, NotAStore, Build}

-- there was no memory
abbrev pub IsMemory : ReplayFault → Type 0
IsMemory Memory = Unit {0}
IsMemory NotAStore = ⊥
IsMemory (Build f) = f ≡ fault.Memory

module _ {S L T U A R N C Q : Type 0} where
  -- it left this graph, and put so many questions to its loader, to which none was put before
  pub record Replays (g : ModuleGraph) (put : ℕ) (second : StoredBuild S L T U A R N C Q) : Type 0 where
    pub graph_is : second.graph ≡ g
    pub questions : IsPut put 0 (asked_of second.loader)

  -- it did, or there was no memory
  abbrev pub ReplaysOrMemory : ModuleGraph → ℕ → Result (StoredBuild S L T U A R N C Q) ReplayFault → Type 0
  ReplaysOrMemory g put (Ok second) = Replays g put second
  ReplaysOrMemory g put (Err f) = IsMemory f
