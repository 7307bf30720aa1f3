-- What stays explained of loads: as they enter first, as one is taken, and under what an open one is asked about.
use Rattle.std.proofs.Common.{◌≡◌, ℕ, List, [], ◌∷◌, Bool, true, false, Some, refl, sym, subst, inl, inr, arith, Option, Result}
use Rattle.std.specs.List.{All, Contains}
use Rattle.std.proofs.lemmas.Bool.{true≢false}
use Rattle.std.proofs.lemmas.List.Elements.{All-head, All-tail, All-nil, All-weaker, All-contains_itself}
use Rattle.std.specs.FinMap as finite
use Rattle.std.specs.FinMap.{get-empty}
use Rattle.url.specs.Parts.{Parts}
use Rattle.semver_npm.specs.Orders.{nv_cmp}
use Rattle.source_sums.specs.Sums.{KnownSums}
use Rattle.semver_npm.specs.declared.package.PackageNv.{PackageNv}
use Rattle.registry_files.specs.Kept.{Versions}
use Rattle.registry_files.specs.declared.kept_version.KeptVersion.{KeptVersion}
use Rattle.graph_errors.specs.declared.jsr_error.JsrLoadError.{JsrLoadError}
use Rattle.graph_errors.specs.declared.jsr_error.JsrLoadError.TheVariants.{UnsupportedManifestChecksum}
use Rattle.module_slots.specs.declared.load.Load.{Load}
use Rattle.module_slots.specs.declared.load.LoadContext.{LoadContext}
use Rattle.graph_turns.specs.declared.later_content.LaterContent.{LaterContent}
use Rattle.graph_turns.specs.declared.manner.Manner.{Manner}
use Rattle.graph_turns.specs.declared.manner.Manner.TheVariants.{Asks, Reads, Unread, Unsupported}
use Rattle.graph_turns.specs.declared.run.Run.{Run}
use Rattle.graph_turns.specs.declared.state.State.{State}
use Rattle.graph_turns.specs.Promise.Explains.{ComesLater}
use Rattle.graph_turns.specs.Promise.Explains.Explains.{unread_version, unsupported_sum}
use Rattle.graph_turns.specs.Promise.Input.{EnteredGraph}
use Rattle.turn_laws.specs.Promise.Keeps.{IsReachedFile, IsReachedItem, IsReachedNpm}
use Rattle.graph_turns.specs.Promise.Reached.IsRedirected.{to_name}
use Rattle.graph_turns.specs.Promise.Reached.Reached.{first, known}
use Rattle.graph_turns.specs.Machine.Held.{IsReadAt}
use Rattle.graph_turns.specs.Machine.Outcomes.{failure_outcome}
use Rattle.graph_turns.specs.Machine.Sums.{sum_in}
use Rattle.graph_turns.specs.Machine.Runs.{earlier_sums}
use Rattle.graph_turns.specs.Machine.Turns.{manner_in}
use Rattle.graph_turns.specs.Promise.Slots.{jsr_slot}
use Rattle.graph_turns.specs.Promise.Taken.{IsAsked, told_manner}
use Rattle.graph_turns.specs.Promise.Taken.HasName.{unread}
use Rattle.graph_turns.specs.declared.question_of.Asked.{Asked}
use Rattle.graph_turns.specs.Promise.Told.{Told}
use Rattle.graph_core.proofs.At.{nothing_in_empty}
use Rattle.graph_turns.proofs.Entering.Enter.Entered.{stood as found}
use Rattle.graph_turns.proofs.Entering.Manners.{told_as}
use Rattle.turn_laws.proofs.Promise.Hops.{IsOutset}
use Rattle.turn_laws.proofs.Promise.GraphKept.{kept_renamed}
use Rattle.turn_laws.proofs.Promise.Infos.{IsRead, agree, asked_free, asked_is_read, named_right}
use Rattle.turn_laws.proofs.Promise.PackagesKept.{packages_begun}
use Rattle.turn_laws.proofs.Promise.Passing.{RunBegins, RunKept}
use Rattle.graph_turns.specs.Machine.Entering.{enter, first_state, stored}
use Rattle.turn_laws.proofs.Promise.Kept.{IsReadIn, no_files, no_probes, Kept, IsAskedFor, IsReached, IsReachedWait, IsReachedImport, IsRootName, kept_plain, kept_self}

module _ (w : Told) (given : EnteredGraph) (begins : RunBegins given) where
  -- the file of its version can't be read
  pub kept_unread : (most : ℕ) (s : State) (load : Load) (name : Parts) (e : JsrLoadError) → Kept w given begins s → IsAskedFor w given begins load → IsReadIn s.files load → told_manner w load.specifier load.context ≡ Unread name e → Kept w given begins (stored most s load (failure_outcome load.context name e))
  unfolding stored
  kept_unread most s load name e kept r read manner =
      kept_plain w given begins s load load.context.«package» name (jsr_slot name load.context e) kept
      (kept_renamed w given s.contents s.graph load.specifier name kept.graph (load.specifier, load.context, r.0, refl, to_name (unread r.1 manner)))
      (load.specifier, load.context, r.0, unread_version r.1 manner)
      refl (λ root y. absurd (true≢false (sym y))) (All-nil (IsReached w given begins)) read

  -- its version has its sum in no form that is known
  pub kept_unsupported : (most : ℕ) (s : State) (load : Load) → Kept w given begins s → IsAskedFor w given begins load → IsReadIn s.files load → told_manner w load.specifier load.context ≡ Unsupported → Kept w given begins (stored most s load (failure_outcome load.context load.specifier UnsupportedManifestChecksum))
  unfolding stored
  kept_unsupported most s load kept r read manner =
      kept_self w given begins s load load.context.«package» (jsr_slot load.specifier load.context UnsupportedManifestChecksum) kept
      (load.specifier, load.context, r.0, unsupported_sum (asked_free w.known.flags load.specifier load.context r.1) manner)
      refl (λ root y. absurd (true≢false (sym y))) (All-nil (IsReached w given begins)) read

  pub kept_rest : (rest : State) (load : Load) → Kept w given begins (record rest { loads = load ∷ rest.loads }) → Kept w given begins rest × IsAskedFor w given begins load × IsReadIn rest.files load
  kept_rest rest load kept = (
    record {
      flags = kept.flags;
      graph = kept.graph;
      loads = All-tail (IsAskedFor w given begins) load rest.loads kept.loads;
      deferred = kept.deferred;
      dynamic = kept.dynamic;
      names = kept.names;
      sums = kept.sums;
      held = record { loads = All-tail (IsReadIn rest.files) load rest.loads kept.held.loads; deferred = kept.held.deferred; dynamic = kept.held.dynamic };
      files = kept.files;
      packages = kept.packages;
      answers = kept.answers;
      waiting = kept.waiting;
      npm = kept.npm;
      pass = kept.pass;
      run = kept.run;
      contents = kept.contents;
      places = kept.places;
    },
    All-head (IsAskedFor w given begins) load rest.loads kept.loads,
    All-head (IsReadIn rest.files) load rest.loads kept.held.loads,
  )

  -- before the loads enter, all stands as at entry; the run before may have found sums
  pub kept_blank : (run : Run) (sums : Option KnownSums) → RunKept w given begins.run run → ((k sum : List ℕ) → sum_in sums k ≡ Some sum → sum_in (earlier_sums run) k ≡ Some sum) → Kept w given begins (record (first_state false w.known.flags given.graph) { sums = sums; run = run })
  kept_blank run sums told earlier = record {
    flags = refl;
    graph = record { kind = refl; slots = λ k slot e. inr (inl e); redirects = λ k n e. inl e; slots_stay = λ k slot e f. inl e; redirects_stay = λ k n e. inl e };
    loads = All-nil (IsAskedFor w given begins);
    deferred = All-nil (IsReachedWait w given begins);
    dynamic = All-nil (IsReachedImport w given begins);
    names = All-nil (IsRootName w given begins);
    sums = λ k sum e. inl (earlier k sum e);
    held = record { loads = All-nil (IsReadIn no_files); deferred = All-nil (λ (e : Parts × LoadContext). IsReadAt (finite.get no_files) e.1.«package»); dynamic = All-nil (λ (e : Parts × Load). IsReadIn no_files e.1) };
    files = λ nv read e. absurd (none_read nv read e);
    packages = packages_begun w given;
    answers = record { first = λ name read e. absurd (nothing_in_empty name read e); again = λ name read e. absurd (nothing_in_empty name read e); probes = λ nv held e. absurd (none_probed nv held e) };
    waiting = All-nil (IsReachedItem w given);
    npm = All-nil (IsReachedNpm w given);
    pass = record { of_pass = tt; of_wanted = All-nil (IsReachedFile w given); sought = tt };
    run = told;
    contents = All-nil (ComesLater w given);
    places = λ l among. absurd (none_among l among);
  }
    where
      none_among : (l : LaterContent) → Contains {X = LaterContent} [] l → ⊥
      none_among l among = let below = among.1 in omega (arith, below)

      none_probed : (nv : PackageNv) (held : Bool) → finite.get no_probes nv ≡ Some held → ⊥
      none_probed nv held e = let none = get-empty {X = Bool} nv_cmp nv in cc

      none_read : (nv : PackageNv) (read : Result KeptVersion JsrLoadError) → finite.get no_files nv ≡ Some read → ⊥
      none_read nv read e = let none = get-empty {X = Result KeptVersion JsrLoadError} nv_cmp nv in cc

  pub loads_reached : All (IsReached w given begins) given.loads
  loads_reached = λ k d below. first (All-contains_itself given.loads k d below)

  -- they count in no package
  pub loads_read : (files : Versions) → All (IsReadIn files) given.loads
  loads_read files = All-weaker IsOutset (IsReadIn files) (λ load alone. subst (IsReadAt (finite.get files)) (sym alone.1) tt) given.loads begins.outset

  -- ---- under what an open load is asked about

  -- where no file is to be read for it, its manner by the files that were read so far is the told one
  told_by : (s : State) (load : Load) (m : Manner) → Kept w given begins s → IsReadIn s.files load → manner_in w.known.sums w.registry s load ≡ m → ((nv : PackageNv) → m ≡ Reads nv → ⊥) → told_manner w load.specifier load.context ≡ m
  told_by s load m kept read at never = told_as w s load m (agree w (finite.get s.files) kept.files) read at never

  pub asked_told : (s : State) (load : Load) (asked : Asked) → Kept w given begins s → IsReadIn s.files load → manner_in w.known.sums w.registry s load ≡ Asks asked → IsAsked w load.specifier load.context asked × IsRead (finite.get s.files) asked
  asked_told s load asked kept read at = (
    told_by s load (Asks asked) kept read at (λ nv e. cc),
    asked_is_read w.known.sums w.registry (finite.get s.files) load.specifier (named_right w (finite.get s.files) kept.files) load.context asked at,
  )

  pub unread_told : (s : State) (load : Load) (name : Parts) (e : JsrLoadError) → Kept w given begins s → IsReadIn s.files load → manner_in w.known.sums w.registry s load ≡ Unread name e → told_manner w load.specifier load.context ≡ Unread name e
  unread_told s load name e kept read at = told_by s load (Unread name e) kept read at (λ nv x. cc)

  pub unsupported_now : (s : State) (load : Load) → Kept w given begins s → IsReadIn s.files load → manner_in w.known.sums w.registry s load ≡ Unsupported → told_manner w load.specifier load.context ≡ Unsupported
  unsupported_now s load kept read at = told_by s load Unsupported kept read at (λ nv x. cc)
