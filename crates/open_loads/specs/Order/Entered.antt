-- Open loads before the first turn, and what enters then.
use Rattle.std.specs.Prelude.{ℕ, List, []}
use Rattle.std.specs.FinMap as finite
use Rattle.registry_urls.specs.Meaning.{RegistryMeaning}
use Rattle.version_dates.specs.declared.newest_date.NewestDependencyDateOptions.{NewestDependencyDateOptions}
use Rattle.graph_core.specs.declared.graph.ModuleGraph.{ModuleGraph}
use Rattle.module_slots.specs.declared.load.Load.{Load}
use Rattle.graph_turns.specs.declared.starting.ResolvedStart.{ResolvedStart}
use Rattle.graph_turns.specs.Machine.Entering.{enter_all, resting_state}
use Rattle.graph_turns.specs.Machine.Known.{Known}
use Rattle.graph_turns.specs.Machine.Runs.{run_begun}
use Rattle.open_loads.specs.Order.Numbered.{Arranged}
use Rattle.open_loads.specs.Order.OpenLoads.{OpenLoads}
use Rattle.open_loads.specs.declared.turn_stage.Stage.TheVariants.{Idle}

-- a graph before the first turn: nothing is open or kept, and no question was queued
abbrev pub no_turns : Known → ModuleGraph → ℕ → ℕ → OpenLoads
no_turns known g redirects budget = record {
  known = known;
  state = resting_state known g;
  stage = Idle;
  behind = [];
  later = [];
  wanted = [];
  added = [];
  queue = [];
  kept = finite.empty;
  redirects = redirects;
  max_loads = budget;
  queued = 0;
  taken = 0;
}

-- roots and configured imports have entered, and the first turn has begun
abbrev pub TurnsWith : RegistryMeaning → NewestDependencyDateOptions → OpenLoads → ResolvedStart → OpenLoads → Type 0
TurnsWith registry newest t start new = Arranged registry newest (record t { state = run_begun t.state start }) new

-- loads have entered, and the first turn has begun
abbrev pub TurnsEntered : RegistryMeaning → NewestDependencyDateOptions → OpenLoads → List Load → OpenLoads → Type 0
TurnsEntered registry newest t loads new = Arranged registry newest (record t { state = enter_all t.state loads }) new
