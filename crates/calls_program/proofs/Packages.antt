-- What a build of the packages of npm leaves of a built graph, in the words of its input.
use Rattle.std.proofs.Common.{◌≡◌, ap, false}
use Rattle.graph_core.specs.declared.graph.ModuleGraph.{ModuleGraph}
use Rattle.graph_core.specs.Graph.{new_graph}
use Rattle.graph_turns.specs.declared.flags.Flags.{Flags}
use Rattle.graph_reloads.specs.Packages.{IsNpmAtNpm}
use Rattle.graph_reloads.proofs.Calls.Packages.{npm_at_npm}
use Rattle.world_file.specs.declared.input.Input.{Input}
use Rattle.program_phases.specs.Outcome.{KeepsPromise, given_in, told_of_input}
use Rattle.program_phases.specs.Sums.{flags_in}
use Rattle.calls_program.proofs.Again.{empty_of_input}
use Rattle.cache_filling.proofs.NotedLemmas.{notes_npm}
use Rattle.calls_program.specs.Called.{without_npm, without_resolutions}

-- some flags where no npm resolver is
abbrev pub without_resolver : Flags → Flags
without_resolver flags = record flags { resolves_npm = false }

-- where they are those of an input, they are those of the input without what npm answers then
pub flags_without : (input : Input) (flags : Flags) → flags ≡ flags_in input → without_resolver flags ≡ flags_in (without_npm input)
flags_without input flags are = ap without_resolver are

module _ (input : Input) (built : ModuleGraph) (promise : KeepsPromise (without_resolutions input) built) where
  -- the empty graph of its kind is that of the input's kind
  pub empty_of_bare : (g : ModuleGraph) → g ≡ new_graph built.kind → g ≡ new_graph input.kind
  empty_of_bare g empty = empty_of_input (without_resolutions input) built promise g empty

  -- each module of npm stands at a specifier of npm
  pub bare_at_npm : IsNpmAtNpm built
  bare_at_npm = λ k m at.
      npm_at_npm (told_of_input (without_resolutions input) promise.newest) (given_in (without_resolutions input)) promise.explained.bare promise.explained.holds k m
      (notes_npm _ _ promise.explained.bare built promise.explained.notes k m at)
