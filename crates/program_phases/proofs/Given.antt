-- What is given to a build, in the words of its input.
use Rattle.std.proofs.Common.{◌≡◌, ◌∙◌, ℕ, ◌≤◌, Bool, List, Option, Some, None, is_some, sym, ap, subst}
use Rattle.std.specs.Prelude.{option_map}
use Rattle.url.specs.Parts.{Parts}
use Rattle.spec_base.specs.Options.{by_option}
use Rattle.npm_resolver.specs.declared.types.NpmTable.{NpmTable}
use Rattle.cache_filling.specs.Noted.{Noted}
use Rattle.source_io.specs.Answers.{lists_cache_info}
use Rattle.source_io.specs.Loaders.{caches_in, world_told}
use Rattle.source_io.specs.declared.types.World.{World}
use Rattle.source_io.specs.declared.world_loader.WorldLoader.{WorldLoader}
use Rattle.graph_core.specs.Npm.{no_npm}
use Rattle.registry_urls.specs.Meaning.{registry_at}
use Rattle.registry_urls.specs.Names.{nv_of_url}
use Rattle.import_records.specs.Target.{Resolving}
use Rattle.graph_core.specs.declared.graph.ModuleGraph.{ModuleGraph}
use Rattle.graph_dependencies.specs.declared.graph_kind.GraphKind.{GraphKind}
use Rattle.graph_dependencies.specs.declared.referrer_imports.ReferrerImports.{ReferrerImports}
use Rattle.metadata_store.specs.declared.store.JsrMetadataStore.{JsrMetadataStore}
use Rattle.version_dates.specs.declared.newest_date.NewestDependencyDateOptions.{NewestDependencyDateOptions}
use Rattle.turn_laws.specs.Budget.Covers.{Counted, Covers, enough}
use Rattle.turn_laws.specs.Promise.Complete.{IsComplete}
use Rattle.graph_turns.specs.Promise.Choices.{IsMade}
use Rattle.graph_turns.specs.Promise.Input.{Given, given_to}
use Rattle.graph_turns.specs.Promise.Runs.{AreStaticFirst, IsStaticFirst, left_of}
use Rattle.graph_turns.specs.Machine.Runs.{begun_over}
use Rattle.graph_turns.specs.Machine.Starting.{told_start}
use Rattle.graph_turns.specs.Machine.Turns.{IsTurned, IsTurnedFrom, PutsAtLeast, PutsOver, PutsWithin, begun}
use Rattle.world_file.specs.declared.input.Input.{Input}
use Rattle.source_sums.specs.Manifests.{KnownManifests}
use Rattle.source_sums.specs.Sums.{KnownSums}
use Rattle.source_sums.specs.declared.hash_map_locker.HashMapLocker.{HashMapLocker}
use Rattle.graph_turns.specs.Machine.Known.{Known}
use Rattle.graph_turns.specs.declared.flags.Flags.{Flags}
use Rattle.graph_core.specs.Graph.{new_graph}
use Rattle.world_file.specs.WorldRegistry.{IsLimit}
use Rattle.program_phases.specs.Outcome.{ButCopies, KeepsPromise, begun_by, enough_for, given_in, told_of_input}
use Rattle.program_phases.specs.Phases.{TellsInput, resolving_by}
use Rattle.program_phases.specs.declared.world_services.Tellers.{Tellers}
use Rattle.program_phases.specs.Sums.{flags_by, flags_in, known_of, locker_manifests, locker_sums}

-- what is noted of a loader's copies is what the world lists that it tells
pub noted_in : (l : WorldLoader) (w : World) → world_told l ≡ Some w → {P : ModuleGraph → Type 0} {g : ModuleGraph} → Noted (caches_in l) (world_told l) P g → Noted (lists_cache_info w) (Some w) P g
noted_in l w is {P} {g} noted = subst (λ (x : World). Noted (lists_cache_info x) (Some x) P g) (ap (λ o. by_option o l.world (λ x. x)) is) noted

-- what tells what a world tells resolves texts as an input of that world says
pub resolves_by_input : (input : Input) (newest : NewestDependencyDateOptions) (t : Tellers) → TellsInput input t → resolving_by t ≡ (told_of_input input newest).resolving
resolves_by_input input newest t tells = λ i. record { resolver = tells.resolver i; nv_of = nv_of_url (tells.urls i) }

-- where the packages of a provider are whose registry is that of an input
pub registry_by_input : (input : Input) (newest : NewestDependencyDateOptions) (given own : Parts) → given ≡ own → own ≡ input.registry.provider.url → registry_at given ≡ (told_of_input input newest).registry
registry_by_input input newest given own same is = ap registry_at (same ∙ is)

-- the flags of settings are those of an input, in which `jsr:` specifiers stand outside of the graph as the input says
pub flags_by_input : (input : Input) (t : Tellers) (flags : Flags) → TellsInput input t → flags ≡ flags_by input.settings t.passthrough_jsr (is_some t.npm) → flags ≡ flags_in input
flags_by_input input t flags tells are =
    are ∙ ap (λ passes. flags_by input.settings passes (is_some t.npm)) tells.passthrough ∙ ap (λ (npm : Option NpmTable). flags_by input.settings input.registry.passthrough_jsr (is_some npm)) tells.npm

-- and npm answers as that says
pub npm_by_input : (input : Input) (newest : NewestDependencyDateOptions) (t : Tellers) (table : Option NpmTable) → TellsInput input t → table ≡ Some (by_option t.npm no_npm (λ x. x)) → table ≡ Some (told_of_input input newest).npm
npm_by_input input newest t table tells is = is ∙ ap (λ (npm : Option NpmTable). Some (by_option npm no_npm (λ (x : NpmTable). x))) tells.npm

-- what options with the locker and the flags of an input, and without a store, go by
pub goes_by_input : (input : Input) (given locker : Option HashMapLocker) (store : Option JsrMetadataStore) (flags : Flags) → given ≡ locker → option_map (λ l. l.remote) locker ≡ locker_sums input → option_map (λ l. l.manifests) locker ≡ locker_manifests input → store ≡ None → flags ≡ flags_in input
    → record { sums = option_map (λ l. l.remote) given; manifests = option_map (λ l. l.manifests) given; store = store; flags = flags } ≡ known_of input
goes_by_input input given locker store flags given_is sums_are manifests_are no_store flags_are =
    ap (λ (s : Option KnownSums). known_with s (option_map (λ (l : HashMapLocker). l.manifests) given) store flags) (ap (option_map (λ (l : HashMapLocker). l.remote)) given_is ∙ sums_are)
    ∙ ap (λ (m : Option KnownManifests). known_with (locker_sums input) m store flags) (ap (option_map (λ (l : HashMapLocker). l.manifests)) given_is ∙ manifests_are)
    ∙ ap (λ (x : Option JsrMetadataStore). known_with (locker_sums input) (locker_manifests input) x flags) no_store
    ∙ ap (λ (f : Flags). known_with (locker_sums input) (locker_manifests input) None f) flags_are
  where
    known_with : Option KnownSums → Option KnownManifests → Option JsrMetadataStore → Flags → Known
    known_with sums manifests store flags = record { sums = sums; manifests = manifests; store = store; flags = flags }

module _ (input : Input) (newest : NewestDependencyDateOptions) (kind : GraphKind) (roots : List Parts) (imports : List ReferrerImports) (kind_is : kind ≡ input.kind) (roots_are : roots ≡ input.roots) (imports_are : imports ≡ input.imports) where
  given_is : given_to kind roots imports ≡ given_in input
  given_is =
      ap (λ (k : GraphKind). given_to k roots imports) kind_is
      ∙ ap (λ (r : List Parts). given_to input.kind r imports) roots_are
      ∙ ap (λ (i : List ReferrerImports). given_to input.kind input.roots i) imports_are

  -- what is given with the kind of the input
  given_of_kind : given_to input.kind roots imports ≡ given_in input
  given_of_kind =
      ap (λ (r : List Parts). given_to input.kind r imports) roots_are
      ∙ ap (λ (i : List ReferrerImports). given_to input.kind input.roots i) imports_are

  -- the graph of the turns of a build over the empty graph is that of the input
  pub turned_in : (old g : ModuleGraph) (sums : Option KnownSums) (store : Option JsrMetadataStore) (put : ℕ) → old ≡ new_graph input.kind
      → IsTurnedFrom (told_of_input input newest) old.kind (begun_over (told_of_input input newest).known old (told_start (told_of_input input newest) (left_of (given_to kind roots imports)))) g sums store put
      → IsTurned (told_of_input input newest) (given_in input) g
  turned_in old g sums store put fresh turned = (
    sums,
    store,
    put,
    subst (λ (given : Given). IsTurnedFrom (told_of_input input newest) given.kind (begun (told_of_input input newest) given) g sums store put) given_of_kind
        (subst (λ (x : ModuleGraph). IsTurnedFrom (told_of_input input newest) x.kind (begun_over (told_of_input input newest).known x (told_start (told_of_input input newest) (left_of (given_to kind roots imports)))) g sums store put) fresh turned),
  )

  -- what turns put of what is given is what those of the input put
  pub within_in : (old : ModuleGraph) (most : ℕ) → old ≡ new_graph input.kind → most ≡ input.max_loads
      → PutsWithin (told_of_input input newest) old.kind (begun_over (told_of_input input newest).known old (told_start (told_of_input input newest) (left_of (given_to kind roots imports)))) most
      → PutsWithin (told_of_input input newest) input.kind (begun_by input newest) input.max_loads
  within_in old most fresh most_is within =
      subst (λ (n : ℕ). PutsWithin (told_of_input input newest) input.kind (begun_by input newest) n) most_is
      (subst (λ (given : Given). PutsWithin (told_of_input input newest) given.kind (begun (told_of_input input newest) given) most) given_of_kind
      (subst (λ (x : ModuleGraph). PutsWithin (told_of_input input newest) x.kind (begun_over (told_of_input input newest).known x (told_start (told_of_input input newest) (left_of (given_to kind roots imports)))) most) fresh within))

  pub over_in : (old : ModuleGraph) (most : ℕ) → old ≡ new_graph input.kind → most ≡ input.max_loads
      → PutsOver (told_of_input input newest) old.kind (begun_over (told_of_input input newest).known old (told_start (told_of_input input newest) (left_of (given_to kind roots imports)))) most
      → PutsOver (told_of_input input newest) input.kind (begun_by input newest) input.max_loads
  over_in old most fresh most_is over =
      subst (λ (n : ℕ). PutsOver (told_of_input input newest) input.kind (begun_by input newest) n) most_is
      (subst (λ (given : Given). PutsOver (told_of_input input newest) given.kind (begun (told_of_input input newest) given) most) given_of_kind
      (subst (λ (x : ModuleGraph). PutsOver (told_of_input input newest) x.kind (begun_over (told_of_input input newest).known x (told_start (told_of_input input newest) (left_of (given_to kind roots imports)))) most) fresh over))

  pub least_in : (old : ModuleGraph) (before now : ℕ) → old ≡ new_graph input.kind
      → PutsAtLeast (told_of_input input newest) old.kind (begun_over (told_of_input input newest).known old (told_start (told_of_input input newest) (left_of (given_to kind roots imports)))) before now
      → PutsAtLeast (told_of_input input newest) input.kind (begun_by input newest) before now
  least_in old before now fresh put =
      subst (λ (given : Given). PutsAtLeast (told_of_input input newest) given.kind (begun (told_of_input input newest) given) before now) given_of_kind
      (subst (λ (x : ModuleGraph). PutsAtLeast (told_of_input input newest) x.kind (begun_over (told_of_input input newest).known x (told_start (told_of_input input newest) (left_of (given_to kind roots imports)))) before now) fresh put)

  -- the promise of a build is that of its input
  pub promise_in : (resolving : Option Resolving) (flags : Flags) (g : ModuleGraph) → IsLimit input.registry.newest newest → resolving ≡ Some (told_of_input input newest).resolving → flags ≡ flags_in input
      → ButCopies input (IsComplete resolving flags (given_to kind roots imports)) g → ButCopies input (IsMade (told_of_input input newest) (given_to kind roots imports)) g
      → (AreStaticFirst (told_of_input input newest) (given_to kind roots imports) → ButCopies input (IsStaticFirst (told_of_input input newest) (given_to kind roots imports)) g)
      → ButCopies input (IsTurned (told_of_input input newest) (given_in input)) g → PutsWithin (told_of_input input newest) input.kind (begun_by input newest) input.max_loads → KeepsPromise input g
  promise_in resolving flags g limit resolving_is flags_are complete made static turned afforded = record {
    newest = newest;
    limit = limit;
    complete =
        subst (λ (given : Given). ButCopies input (IsComplete (Some (told_of_input input newest).resolving) (flags_in input) given) g) given_is
        (subst (λ (f : Flags). ButCopies input (IsComplete (Some (told_of_input input newest).resolving) f (given_to kind roots imports)) g) flags_are
        (subst (λ (r : Option Resolving). ButCopies input (IsComplete r flags (given_to kind roots imports)) g) resolving_is complete));
    explained = subst (λ (given : Given). ButCopies input (IsMade (told_of_input input newest) given) g) given_is made;
    static_first = λ settled. subst (λ (given : Given). ButCopies input (IsStaticFirst (told_of_input input newest) given) g) given_is (static (subst (λ (given : Given). AreStaticFirst (told_of_input input newest) given) (sym given_is) settled));
    turned = turned;
    afforded = afforded;
  }

  -- a list that covers the input covers what is given
  pub covers_given : (questions : List Counted) → Covers (told_of_input input newest) (given_in input) questions → Covers (told_of_input input newest) (given_to kind roots imports) questions
  covers_given questions covers = subst (λ (given : Given). Covers (told_of_input input newest) given questions) (sym given_is) covers

  -- and as many questions as are enough for the input are enough for that
  pub enough_given : (g : ModuleGraph) (questions : List Counted) (most : ℕ) → g ≡ new_graph input.kind → enough_for input questions ≤ most → enough g (left_of (given_to kind roots imports)) questions ≤ most
  enough_given g questions most fresh within =
      subst (λ (x : ModuleGraph). enough x (left_of (given_to kind roots imports)) questions ≤ most) (sym fresh)
      (subst (λ (given : Given). enough (new_graph input.kind) (left_of given) questions ≤ most) (sym given_is) within)
