-- What a reload leaves of a built graph, in the words of its input.
use Rattle.std.proofs.Common.{◌≡◌, ◌∙◌, List, sym, ap, subst}
use Rattle.std.specs.Prelude.{All}
use Rattle.url.specs.Parts.{Parts}
use Rattle.version_dates.specs.declared.newest_date.NewestDependencyDateOptions.{NewestDependencyDateOptions}
use Rattle.graph_core.specs.declared.graph.ModuleGraph.{ModuleGraph}
use Rattle.graph_core.specs.Graph.{new_graph}
use Rattle.graph_turns.specs.declared.run.Run.TheVariants.{Only}
use Rattle.turn_laws.specs.Budget.Covers.{Counted, CoversFrom}
use Rattle.turn_laws.specs.Promise.Reloads.{reload_entry}
use Rattle.graph_turns.specs.Machine.Runs.{told_for}
use Rattle.turn_laws.specs.Promise.Complete.{NonePending}
use Rattle.turn_laws.specs.Promise.Reloaded.{IsReloaded, IsRenewed}
use Rattle.graph_turns.specs.Promise.Runs.{IsGrownBy}
use Rattle.world_file.specs.WorldRegistry.{IsLimit}
use Rattle.world_file.specs.declared.input.Input.{Input}
use Rattle.program_phases.specs.Outcome.{ButCopies, KeepsPromise, told_of_input}
use Rattle.program_phases.specs.Sums.{flags_in}
use Rattle.cache_filling.proofs.NotedLemmas.{notes_rest}
use Rattle.graph_builder.proofs.Calls.Copies.{none_pending_noted}
use Rattle.calls_program.specs.Called.{IsLoadedAgain, IsTurnedAgain}

module _ (input : Input) (built : ModuleGraph) (promise : KeepsPromise input built) where
  -- the empty graph of its kind is that of the input's kind
  pub empty_of_input : (g : ModuleGraph) → g ≡ new_graph built.kind → g ≡ new_graph input.kind
  empty_of_input g empty =
      empty ∙ ap new_graph (ap (λ (x : ModuleGraph). x.kind) (notes_rest _ _ promise.complete.bare built promise.complete.notes) ∙ promise.complete.holds.begins.kind_is)

  -- nothing is pending
  pub none_pending_of : NonePending built
  none_pending_of = none_pending_noted _ _ promise.complete.bare built promise.complete.notes promise.complete.holds.none_pending

  module _ (newest : NewestDependencyDateOptions) (limit : IsLimit input.registry.newest newest) (loaded given : List Parts) (same : loaded ≡ given) where
    pub again_in : (g : ModuleGraph) → ButCopies input (IsReloaded (flags_in input) built loaded) g
        → ButCopies input (λ bare. IsGrownBy bare (told_for (told_of_input input newest) Only) (reload_entry input.settings.is_dynamic built loaded)) g
        → ButCopies input (λ bare. All (IsRenewed (told_for (told_of_input input newest) Only) built loaded bare) loaded) g
        → ButCopies input (IsTurnedAgain (told_of_input input newest) built loaded) g → IsLoadedAgain input given built g
    again_in g reloaded explained renewed turned =
        subst (λ (l : List Parts). IsLoadedAgain input l built g) same (record { promise = promise; reloaded = reloaded; newest = newest; limit = limit; explained = explained; renewed = renewed; turned = turned })

    -- a list that covers what is given covers what is loaded
    pub covers_loaded : (questions : List Counted) → CoversFrom (told_for (told_of_input input newest) Only) (reload_entry input.settings.is_dynamic built given) questions → CoversFrom (told_for (told_of_input input newest) Only) (reload_entry input.settings.is_dynamic built loaded) questions
    covers_loaded questions covers = subst (λ (l : List Parts). CoversFrom (told_for (told_of_input input newest) Only) (reload_entry input.settings.is_dynamic built l) questions) (sym same) covers
