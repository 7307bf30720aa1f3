-- What holds of a build between two calls: whatever is answered, and where a world answers.
use Rattle.std.specs.Prelude.{◌≡◌, ◌⊎◌, ℕ, nat_eq, Bool, true, false, List, All, Contains, Option, Some, None, [], map, ⊤, ◌||◌, ◌∷◌}
use Rattle.url.specs.Parts.{Parts}
use Rattle.source_io.specs.declared.types.Question.{Question}
use Rattle.import_records.specs.Target.{Resolving}
use Rattle.registry_urls.specs.Meaning.{RegistryMeaning}
use Rattle.semver_npm.specs.declared.package.PackageNv.{PackageNv}
use Rattle.slot_making.specs.declared.source.Source.{Source}
use Rattle.graph_core.specs.declared.graph.ModuleGraph.{ModuleGraph}
use Rattle.module_slots.specs.declared.load.Load.{Load}
use Rattle.module_slots.specs.declared.load.LoadContext.{LoadContext}
use Rattle.graph_core.specs.Graph.{has_slot, new_graph}
use Rattle.graph_turns.specs.declared.unresolved_input.LeftOver.{LeftOver}
use Rattle.open_loads.specs.Order.OpenLoads.{OpenLoads}
use Rattle.graph_builder.specs.declared.build_phase.Phase.TheVariants.{Unbegun}
use Rattle.open_loads.specs.declared.turn_stage.Stage.{Stage}
use Rattle.open_loads.specs.declared.turn_stage.Stage.TheVariants.{Idle, Asks, AsksAgain, Reads, Fills, Looks}
use Rattle.graph_turns.specs.declared.starting.ResolvedStart.{ResolvedStart}
use Rattle.turn_laws.specs.Budget.Asked.{HasPackage, IsKnown, NamesKnown}
use Rattle.turn_laws.specs.Promise.Complete.{IsCompleteFrom}
use Rattle.graph_turns.specs.Promise.Input.{EnteredGraph}
use Rattle.graph_turns.specs.Promise.Contents.{content_of, content_question}
use Rattle.graph_turns.specs.Promise.Told.{Told}
use Rattle.graph_turns.specs.Promise.Versions.{package_question, probe_question, version_question}
use Rattle.graph_builder.specs.Calls.Steps.{BuildState, is_begun}
use Rattle.open_loads.specs.Order.Entered.{no_turns}
use Rattle.open_loads.specs.Order.Ordered.{Drives, IsBuilding, IsInFlight, asked_at}
use Rattle.graph_turns.specs.Machine.Redirects.{HasNoCircle}
use Rattle.turn_laws.specs.Promise.Whole.{IsWholeState}
use Rattle.graph_turns.specs.Promise.Reached.{Reached, IsSame}
use Rattle.graph_turns.specs.Machine.Starting.{IsResolved, start_entry, told_start}
use Rattle.graph_turns.specs.Promise.Taken.{Found, IsAsked, NamesVersion, CountsFor, asks_again, first_setting, first_to, is_asked, put_asked}
use Rattle.graph_turns.specs.declared.question_of.Asked.{Asked}
use Rattle.graph_turns.specs.declared.flags.Flags.{Flags}
use Rattle.graph_turns.specs.declared.state.State.{State}
use Rattle.source_io.specs.declared.types.CacheSetting.TheVariants.{Reload}
use Rattle.open_loads.specs.Budget.Runs.{since, Answered, Filled, Passed, Read}
use Rattle.open_loads.specs.Order.Means.{Directions, untold}
use Rattle.graph_turns.specs.declared.later_content.LaterContent.{LaterContent}
use Rattle.open_loads.specs.Budget.Runs.Passed.{BeganAgain, LookedUp}
use Rattle.graph_turns.specs.Promise.Cached.{FitsUnyanked}
use Rattle.graph_turns.specs.Promise.Packages.{Fits, IsLookedFor}
use Rattle.turn_laws.specs.Promise.Keeps.{IsKeptBy}
use Rattle.graph_turns.specs.Promise.Runs.{InSomeRun, IsRunOf, entry_in, may_begin_again}
use Rattle.graph_turns.specs.declared.registry.RegistryFile.TheVariants.{Package, PackageAgain, Version, Probe}
use Rattle.semver_npm.specs.declared.reference.PackageReqReference.{PackageReqReference}
use Rattle.graph_turns.specs.declared.passes.Pass.{Pass}
use Rattle.graph_turns.specs.declared.waiting.WaitingPackage.{WaitingPackage}
use Rattle.graph_turns.specs.Machine.Runs.{begun_over, told_for}
use Rattle.std.specs.FinMap as finite

-- a question about a pair: the first one, with its flags and the sum under which it is asked about; the second one, which follows an
-- answer that refused the first one for its sum; that about a content that comes later; and that about the file of the version that its
-- URL names
pub data IsQuestionAbout (told : Told) (s : Parts) (c : LoadContext) : Question → Type 0 where
  first_one : {asked : Asked} → IsAsked told s c asked → IsQuestionAbout told s c (put_asked (first_setting c asked) told.known asked s c)
  second_one : {asked : Asked} → IsAsked told s c asked → asks_again asked (first_to told.world told.known asked s c) ≡ true → IsQuestionAbout told s c (put_asked Reload told.known asked s c)
  of_content : {asked : Asked} {source : Source} {l : LaterContent} → CountsFor told s c asked (Found source) → content_of s c asked source.info ≡ Some l → IsQuestionAbout told s c (content_question told.known l)
  of_version : {nv : PackageNv} → NamesVersion told s c nv → IsQuestionAbout told s c (version_question told.metadata told.registry told.known.manifests nv)

-- a question about a `jsr:` specifier: that about the file of its package, the same once more, that about the file of a version that fits,
-- and where cached versions are preferred that about the file of one in the cache that fits and isn't withdrawn
pub data IsQuestionOfPackage (told : Told) (given : EnteredGraph) (s : Parts) : Question → Type 0 where
  of_package : {r : PackageReqReference} → IsLookedFor told s r → IsQuestionOfPackage told given s (package_question told.metadata told.registry r.req.name)
  of_package_again : {r : PackageReqReference} → IsLookedFor told s r → told.asks_again ≡ true → IsQuestionOfPackage told given s (package_question Reload told.registry r.req.name)
  of_choice : {r : PackageReqReference} {nv : PackageNv} → IsLookedFor told s r → Fits told given r.req nv → IsQuestionOfPackage told given s (version_question told.metadata told.registry told.known.manifests nv)
  of_probe : {r : PackageReqReference} {nv : PackageNv} → IsLookedFor told s r → told.known.flags.prefers_cached_jsr ≡ true → FitsUnyanked told r.req nv → IsQuestionOfPackage told given s (probe_question told.registry nv)

-- a question about a reached pair: about its module, where it is asked for, or about a package
pub data IsReachedQuestion (told : Told) (given : EnteredGraph) (q : Question) : Type 0 where
  about_module : {s : Parts} {c : LoadContext} → Reached told given s c → is_asked told.known.flags s c ≡ true → IsQuestionAbout told s c q → IsReachedQuestion told given q
  about_package : {s : Parts} {c : LoadContext} → Reached told given s c → IsQuestionOfPackage told given s q → IsReachedQuestion told given q

-- the same in one of the runs of a build over a graph that was handed in
abbrev pub IsPutBy : Told → ModuleGraph → LeftOver → Question → Type 0
IsPutBy told g given q = InSomeRun told g given (λ t entry. IsReachedQuestion t entry q)

-- a ticket is that of the question about the file of a version or of a package
abbrev pub is_of_file : Stage → ℕ → Bool
is_of_file Idle t = false
is_of_file (Asks ticket asked) t = false
is_of_file (AsksAgain ticket asked first) t = false
is_of_file (Reads ticket nv at) t = nat_eq ticket t
is_of_file (Looks ticket at) t = nat_eq ticket t
is_of_file (Fills ticket) t = false

-- or is among those of the files that a pass wants
abbrev pub is_among_files : List (Option (ℕ × Parts)) → ℕ → Bool
is_among_files [] t = false
is_among_files (None ∷ ps) t = is_among_files ps t
is_among_files (Some p ∷ ps) t = nat_eq p.0 t || is_among_files ps t

abbrev pub is_file_ticket : OpenLoads → ℕ → Bool
is_file_ticket b t = is_of_file b.stage t || is_among_files b.wanted t

-- tickets in flight about one text, none of them about a file of the registry, are one ticket
abbrev pub AskedOnce : OpenLoads → Type 0
AskedOnce b = (s t : ℕ) (x y : Question) → IsInFlight b s → IsInFlight b t → is_file_ticket b s ≡ false → is_file_ticket b t ≡ false → asked_at b s ≡ Some x → asked_at b t ≡ Some y → IsSame x.specifier y.specifier → s ≡ t

-- a load of an asset of a specifier of this text is among some
abbrev pub IsAssetAmong : Parts → List Load → Type 0
IsAssetAmong s loads = (load : Load) × Contains loads load × IsSame load.specifier s × (load.context.asset ≡ true)

-- the same of what turns asked about
abbrev pub WasAsset : Parts → List Passed → Type 0
WasAsset s past = (load : Load) × (asked : Asked) × Contains past (Answered load asked) × IsSame load.specifier s × (load.context.asset ≡ true)

-- a load of an asset of this text is open, or was asked about
abbrev pub HasAsset : Parts → List Load → List Passed → Type 0
HasAsset s loads past = IsAssetAmong s loads ⊎ WasAsset s past

-- a specifier of a package waits in a pass
abbrev pub IsWaitingFor : List ℕ → WaitingPackage → Type 0
IsWaitingFor name item = item.req.name ≡ name

-- a specifier of a package waits, or stands in the pass that goes on
pub record NamesWaiting (s : State) (name : List ℕ) : Type 0 where
  pub pass : Pass
  pub goes_on : s.pass ≡ Some pass
  pub item : WaitingPackage
  pub among : Contains pass.items item ⊎ Contains (map (λ one. one.item) pass.chosen) item
  pub named : item.req.name ≡ name

-- what a turn asked about is known now: a slot or a redirect stands at a specifier, and of the file of a version it is known what was
-- answered, and that the graph knows the version, or an error stands where it lies
abbrev pub IsPassed : RegistryMeaning → State → Passed → Type 0
IsPassed registry s (Answered load asked) = IsKnown s.graph load.specifier
IsPassed registry s (Read nv) = (finite.contains_key s.files nv ≡ true) × (HasPackage s.graph nv ⊎ IsKnown s.graph (registry.package_url nv))
IsPassed registry s (LookedUp (Package name)) = NamesKnown s.graph name ⊎ NamesWaiting s name
IsPassed registry s (LookedUp (PackageAgain name)) = NamesKnown s.graph name ⊎ NamesWaiting s name
IsPassed registry s (LookedUp (Version nv)) = finite.contains_key s.files nv ≡ true
IsPassed registry s (LookedUp (Probe nv)) = NamesKnown s.graph nv.name ⊎ NamesWaiting s nv.name
IsPassed registry s (Filled l) = IsKnown s.graph l.specifier
IsPassed registry s (BeganAgain g put) = ⊤

module _ {O : Type 0} where
  -- before the first question: what is given is left over, and no turn was taken
  pub record IsWaiting (g : ModuleGraph) (given : LeftOver) (b : BuildState O) : Type 0 where
    pub left_is : b.phase ≡ Unbegun given
    pub turns_are : b.turns ≡ no_turns b.turns.known g b.turns.redirects b.turns.max_loads

  -- what is given has entered, resolved, and turns were taken; each specifier that was asked about has a slot or a redirect,
  -- and each one that is deferred was asked about as an asset, or has one
  pub record IsRunning (directions : Directions) (g : ModuleGraph) (given : LeftOver) (b : BuildState O) : Type 0 where
    pub begun : is_begun b.phase ≡ true
    pub start : ResolvedStart
    pub resolved : IsResolved directions.resolving given start
    pub building : IsBuilding None (untold directions.registry directions.newest) (begun_over b.turns.known g start) b.turns
    pub asked_known : (x : Passed) → Contains (since building.past) x → IsPassed directions.registry b.turns.state x
    pub deferred_asked : (e : Parts × LoadContext) → Contains b.turns.state.deferred e → HasAsset e.0 b.turns.state.loads building.past ⊎ IsKnown b.turns.state.graph e.0

  -- a build of what is given over a graph that was handed in without a circle, whatever was answered: a specifier has
  -- at most one question in flight, each one that is asked about has a slot, and the graph is whole
  pub record BuildsOn (directions : Directions) (g : ModuleGraph) (given : LeftOver) (b : BuildState O) : Type 0 where
    pub no_circle : HasNoCircle g
    pub phase : IsWaiting g given b ⊎ IsRunning directions g given b
    pub asked_once : AskedOnce b.turns
    pub open_stand : All (λ load. has_slot b.turns.state.graph load.specifier ≡ true) b.turns.state.loads
    pub whole : IsWholeState g b.turns.state

  -- what is given has entered, and the build drives the turns from there; in the run that goes on a slot is pending, stood so at entry, is
  -- explained or awaits its content, a redirect stood so or is explained, and loads that are open, deferred or wait are reached, as are
  -- `jsr:` specifiers that wait or stand in a pass
  pub record IsTurning (told : Told) (g : ModuleGraph) (given : LeftOver) (b : BuildState O) : Type 0 where
    pub begun : is_begun b.phase ≡ true
    pub drives : Drives told g.kind (begun_over told.known g (told_start told given)) b.turns
    pub is_run : IsRunOf told g given b.turns.state.run
    pub kept : IsKeptBy (told_for told b.turns.state.run) (entry_in told g given b.turns.state.run) b.turns.state

  -- a build of what is given over a graph that was handed in without a circle, where each answer so far was the world's
  pub record GoesBy (told : Told) (g : ModuleGraph) (given : LeftOver) (b : BuildState O) : Type 0 where
    pub no_circle : HasNoCircle g
    pub phase : IsWaiting g given b ⊎ IsTurning told g given b
    pub redirects_are : b.turns.redirects ≡ told.world.max_redirects
    pub known_is : b.turns.known ≡ told.known

-- what a build leaves that began over a graph
abbrev pub IsBuiltFrom : Flags → ModuleGraph → ResolvedStart → ModuleGraph → Type 0
IsBuiltFrom flags g start new = IsCompleteFrom flags (start_entry flags.is_dynamic g start) new

-- what a build of what is given leaves of a graph that was handed in, or where it may begin once more, of the empty one: it has the roots
-- and imports that are given behind those of that graph, nothing is pending, all that was loaded leads to a slot, and each circle of
-- redirects has one on it
pub record IsBuiltOver (resolver : Option Resolving) (flags : Flags) (old : ModuleGraph) (given : LeftOver) (new : ModuleGraph) : Type 0 where
  pub start : ResolvedStart
  pub resolved : IsResolved resolver given start
  pub built : IsBuiltFrom flags old start new ⊎ ((may_begin_again old given ≡ true) × IsBuiltFrom flags (new_graph old.kind) start new)
  pub no_circle : HasNoCircle new
