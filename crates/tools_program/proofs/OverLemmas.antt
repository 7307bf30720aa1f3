-- What is given to a build, in the words of its input, where a world of one's own answers.
use Rattle.std.proofs.Common.{◌≡◌, ◌∙◌, ℕ, ◌≤◌, Bool, List, Option, Some, None, sym, ap, subst}
use Rattle.url.specs.Parts.{Parts}
use Rattle.source_io.specs.declared.types.World.{World}
use Rattle.import_records.specs.Target.{Resolving}
use Rattle.graph_dependencies.specs.declared.graph_kind.GraphKind.{GraphKind}
use Rattle.graph_dependencies.specs.declared.referrer_imports.ReferrerImports.{ReferrerImports}
use Rattle.graph_core.specs.declared.graph.ModuleGraph.{ModuleGraph}
use Rattle.graph_core.specs.Graph.{new_graph}
use Rattle.metadata_store.specs.declared.store.JsrMetadataStore.{JsrMetadataStore}
use Rattle.source_sums.specs.Sums.{KnownSums}
use Rattle.version_dates.specs.declared.newest_date.NewestDependencyDateOptions.{NewestDependencyDateOptions}
use Rattle.turn_laws.specs.Budget.Covers.{Counted, Covers, enough}
use Rattle.turn_laws.specs.Promise.Complete.{IsComplete}
use Rattle.graph_turns.specs.Promise.Choices.{IsMade}
use Rattle.graph_turns.specs.Promise.Input.{Given, given_to}
use Rattle.graph_turns.specs.Promise.Runs.{AreStaticFirst, IsStaticFirst, left_of}
use Rattle.graph_turns.specs.Machine.Runs.{begun_over}
use Rattle.graph_turns.specs.Machine.Starting.{told_start}
use Rattle.graph_turns.specs.Machine.Turns.{IsTurned, IsTurnedFrom, begun}
use Rattle.graph_turns.specs.declared.flags.Flags.{Flags}
use Rattle.world_file.specs.WorldRegistry.{IsLimit}
use Rattle.world_file.specs.declared.input.Input.{Input}
use Rattle.program_phases.specs.Outcome.{enough_for, given_in}
use Rattle.program_phases.specs.Sums.{flags_in}
use Rattle.store_turns.specs.Builds.{LeavesTurns}
use Rattle.tools_program.specs.StoreTool.{IsTurnedBy}
use Rattle.source_io.specs.Answers.{lists_cache_info}
use Rattle.cache_filling.specs.Noted.{Noted}
use Rattle.tools_program.specs.Told.{ButCopiesOf, KeepsPromiseOver, told_over}

-- what is noted is what the world lists that is told
pub noted_over : (own : Bool) (told : Option World) (world : World) → own ≡ lists_cache_info world → told ≡ Some world → {P : ModuleGraph → Type 0} {g : ModuleGraph} → Noted own told P g → ButCopiesOf world P g
noted_over own told world caches answers {P} {g} noted =
    subst (λ (w : Option World). Noted (lists_cache_info world) w P g) answers (subst (λ (b : Bool). Noted b told P g) caches noted)

module _ (world : World) (input : Input) (newest : NewestDependencyDateOptions) (kind : GraphKind) (roots : List Parts) (imports : List ReferrerImports) (kind_is : kind ≡ input.kind) (roots_are : roots ≡ input.roots) (imports_are : imports ≡ input.imports) where
  pub given_is : given_to kind roots imports ≡ given_in input
  given_is =
      ap (λ (k : GraphKind). given_to k roots imports) kind_is
      ∙ ap (λ (r : List Parts). given_to input.kind r imports) roots_are
      ∙ ap (λ (i : List ReferrerImports). given_to input.kind input.roots i) imports_are

  -- what is given with the kind of the input
  given_of_kind : given_to input.kind roots imports ≡ given_in input
  given_of_kind =
      ap (λ (r : List Parts). given_to input.kind r imports) roots_are
      ∙ ap (λ (i : List ReferrerImports). given_to input.kind input.roots i) imports_are

  -- the graph of the turns of a build over the empty graph is that of the input
  pub turned_over : (old g : ModuleGraph) (sums : Option KnownSums) (store : Option JsrMetadataStore) (put : ℕ) → old ≡ new_graph input.kind
      → IsTurnedFrom (told_over world input newest) old.kind (begun_over (told_over world input newest).known old (told_start (told_over world input newest) (left_of (given_to kind roots imports)))) g sums store put
      → IsTurned (told_over world input newest) (given_in input) g
  turned_over old g sums store put fresh turned = (
    sums,
    store,
    put,
    subst (λ (given : Given). IsTurnedFrom (told_over world input newest) given.kind (begun (told_over world input newest) given) g sums store put) given_of_kind
        (subst (λ (x : ModuleGraph). IsTurnedFrom (told_over world input newest) x.kind (begun_over (told_over world input newest).known x (told_start (told_over world input newest) (left_of (given_to kind roots imports)))) g sums store put) fresh turned),
  )

  -- what a build of what is given leaves
  pub left_over : (g : ModuleGraph) (now_known : Option KnownSums) (store : Option JsrMetadataStore) (put : ℕ) → LeavesTurns (told_over world input newest) (given_to kind roots imports) g now_known store put → IsTurnedBy (told_over world input newest) (given_in input) g put
  left_over g now_known store put left = subst (λ (given : Given). IsTurnedBy (told_over world input newest) given g put) given_is (left.0, store, left.1)

  -- the promise of a build is that of its input
  pub promise_over : (resolving : Option Resolving) (flags : Flags) (g : ModuleGraph) → IsLimit input.registry.newest newest → resolving ≡ Some (told_over world input newest).resolving → flags ≡ flags_in input
      → ButCopiesOf world (IsComplete resolving flags (given_to kind roots imports)) g → ButCopiesOf world (IsMade (told_over world input newest) (given_to kind roots imports)) g
      → (AreStaticFirst (told_over world input newest) (given_to kind roots imports) → ButCopiesOf world (IsStaticFirst (told_over world input newest) (given_to kind roots imports)) g)
      → ButCopiesOf world (IsTurned (told_over world input newest) (given_in input)) g → KeepsPromiseOver world input g
  promise_over resolving flags g limit resolving_is flags_are complete made static turned = record {
    newest = newest;
    limit = limit;
    complete =
        subst (λ (given : Given). ButCopiesOf world (IsComplete (Some (told_over world input newest).resolving) (flags_in input) given) g) given_is
        (subst (λ (f : Flags). ButCopiesOf world (IsComplete (Some (told_over world input newest).resolving) f (given_to kind roots imports)) g) flags_are
        (subst (λ (r : Option Resolving). ButCopiesOf world (IsComplete r flags (given_to kind roots imports)) g) resolving_is complete));
    explained = subst (λ (given : Given). ButCopiesOf world (IsMade (told_over world input newest) given) g) given_is made;
    static_first = λ settled.
        subst (λ (given : Given). ButCopiesOf world (IsStaticFirst (told_over world input newest) given) g) given_is
        (static (subst (λ (given : Given). AreStaticFirst (told_over world input newest) given) (sym given_is) settled));
    turned = turned;
  }

  -- a list that covers the input covers what is given
  pub covers_over : (questions : List Counted) → Covers (told_over world input newest) (given_in input) questions → Covers (told_over world input newest) (given_to kind roots imports) questions
  covers_over questions covers = subst (λ (given : Given). Covers (told_over world input newest) given questions) (sym given_is) covers

  -- and as many questions as are enough for the input are enough for that
  pub enough_over : (g : ModuleGraph) (questions : List Counted) (most : ℕ) → g ≡ new_graph input.kind → enough_for input questions ≤ most → enough g (left_of (given_to kind roots imports)) questions ≤ most
  enough_over g questions most fresh within =
      subst (λ (x : ModuleGraph). enough x (left_of (given_to kind roots imports)) questions ≤ most) (sym fresh)
      (subst (λ (given : Given). enough (new_graph input.kind) (left_of given) questions ≤ most) (sym given_is) within)
