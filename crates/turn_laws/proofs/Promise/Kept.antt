-- What stays explained, turn by turn.
use Rattle.std.proofs.Common.{◌≡◌, ℕ, ◌+◌, ◌≤◌, ◌<◌, min, List, [], ◌∷◌, ◌++◌, Bool, true, false, ◌&&◌, ◌||◌, not, if◌then◌else◌, Some, refl, sym, ap, ◌∙◌, subst, inl, inr, ⊎_elim, ◌⊎◌, arith, nat_le, Option, None, is_some}
use Rattle.std.specs.List.{All, Contains, list_any}
use Rattle.std.specs.Map.{lookup}
use Rattle.std.proofs.lemmas.Bool.{or_cases, leb-true, leb-false, true≢false}
use Rattle.std.proofs.lemmas.List.Elements.{All-push, All-head, All-tail, All-nil, All-cons, All-weaker, All-contains_itself, Contains-append_left, Contains-push, Contains-push_cases}
use Rattle.std.specs.FinMap as finite
use Rattle.indexmap.specs.IndexMap.{insert_entry}
use Rattle.indexmap.specs.IndexSet.{insert_key}
use Rattle.url.specs.Parts.{Parts}
use Rattle.spec_base.specs.Options.{by_option}
use Rattle.spec_base.specs.Specifier.{same_specifier, specifier_text}
use Rattle.module_info.specs.declared.types.ModuleInfo.{ModuleInfo}
use Rattle.source_sums.specs.Sums.{KnownSums}
use Rattle.graph_dependencies.specs.declared.graph_kind.GraphKind.{GraphKind}
use Rattle.semver_npm.specs.declared.package.PackageNv.{PackageNv}
use Rattle.registry_files.specs.Kept.{Versions}
use Rattle.graph_errors.specs.declared.errors.ModuleErrorKind.TheVariants.{Load as LoadFails}
use Rattle.graph_errors.specs.declared.errors.ModuleLoadError.TheVariants.{Jsr, Npm}
use Rattle.semver_npm.specs.declared.npm_error.NpmLoadError.TheVariants.{PackageReqReferenceParse}
use Rattle.graph_errors.specs.declared.jsr_error.JsrLoadError.TheVariants.{PackageFormat, RedirectInPackage, UnsupportedManifestChecksum}
use Rattle.graph_core.specs.declared.graph.ModuleGraph.{ModuleGraph}
use Rattle.module_slots.specs.declared.load.Load.{Load}
use Rattle.module_slots.specs.declared.load.LoadContext.{LoadContext}
use Rattle.module_slots.specs.declared.slot.ModuleSlot.{ModuleSlot}
use Rattle.module_slots.specs.declared.slot.ModuleSlot.TheVariants.{Module as Stands, Err as Failed, Pending}
use Rattle.graph_core.specs.Edges.{loads_of}
use Rattle.graph_errors.specs.Errors.{error_of, missing_error, redirects_error}
use Rattle.graph_core.specs.Graph.{redirect_at}
use Rattle.slot_making.specs.Made.{Making, made_slot}
use Rattle.module_slots.specs.Slots.{failed_slot, is_asset_slot, is_pending}
use Rattle.slot_making.specs.declared.source.Source.{Source}
use Rattle.graph_turns.specs.declared.later_content.LaterContent.{LaterContent}
use Rattle.graph_turns.specs.declared.dependencies.Note.{Note}
use Rattle.graph_turns.specs.declared.outcome.Outcome.{Outcome}
use Rattle.graph_turns.specs.declared.outcome.Outcome.TheVariants.{To}
use Rattle.graph_turns.specs.declared.run.Run.{Run}
use Rattle.graph_turns.specs.declared.state.State.{State}
use Rattle.graph_turns.specs.Promise.Contents.{content_of}
use Rattle.graph_turns.specs.Promise.Explains.{Awaits, NamesLead, EndsThere, IsExplained, ComesLater, IsSourceSum, refusal_error}
use Rattle.graph_turns.specs.Promise.Explains.Explains.{made, outside, at_hand, missing, refused as refused_answer, redirected as redirected_in, unsupported_sum, ended, no_package as no_package_named, no_npm_package as no_npm_package_named, passed_through as stands_outside, built_in, forbidden_asset}
use Rattle.graph_turns.specs.Promise.Explains.NamesLead.{here, onward, redirected_at}
use Rattle.graph_turns.specs.Promise.Forbidden.{forbidden}
use Rattle.graph_turns.specs.Promise.Input.{EnteredGraph}
use Rattle.turn_laws.specs.Promise.Keeps.{IsReachedItem, IsReachedNpm}
use Rattle.graph_turns.specs.Promise.Reached.{IsRedirected, Reached, IsSame, as_root, in_package}
use Rattle.graph_turns.specs.Promise.Reached.IsRedirected.{to_name}
use Rattle.graph_turns.specs.Promise.Reached.Reached.{first, known, named, exported, hopped, edge, marked}
use Rattle.graph_turns.specs.Promise.Reached.IsEdge.{from}
use Rattle.graph_turns.specs.Machine.Probing.{Probed}
use Rattle.graph_turns.specs.Machine.Held.{IsHeld, IsReadAt}
use Rattle.graph_turns.specs.Machine.Outcomes.{failed_outcome, outcome_of}
use Rattle.graph_turns.specs.Machine.Redirects.{redirected_end, leads_back, moved, onward_at, renamed, unknown_at}
use Rattle.graph_turns.specs.Machine.Sums.{sum_in}
use Rattle.graph_turns.specs.Machine.Runs.{earlier_sums}
use Rattle.graph_turns.specs.Machine.Turns.{waited_loads, waited_imports, deferred_entered, dynamic_entered}
use Rattle.graph_core.specs.Npm.{npm_waiting_at}
use Rattle.graph_turns.specs.Machine.Waiting.{waiting_at}
use Rattle.graph_turns.specs.Promise.Slots.{external_slot, jsr_slot, node_slot}
use Rattle.graph_turns.specs.Promise.Taken.{Taken, Found, Outside, AtHand, Onward, Absent, Refused, IsAsked, CountsFor, HasName, HasModuleName, info_for, is_asked, is_unasked, name_of, taken_answer}
use Rattle.graph_turns.specs.Promise.Taken.HasName.{answered}
use Rattle.graph_turns.specs.declared.question_of.Asked.{Asked}
use Rattle.graph_turns.specs.Promise.Told.{Told, making_of}
use Rattle.graph_core.proofs.At.{nothing_in_empty, text_of_same, same_of_text}
use Rattle.graph_turns.proofs.Entering.Enter.{Entered, Edged, how_entered, how_edged}
use Rattle.graph_turns.proofs.Entering.Enter.Entered.{refused, waits, stood as found, unstated, node, no_package, no_npm_package, passed_through, stays, awaits, opens, resolves}
use Rattle.graph_turns.proofs.Entering.Enter.Edged.{queues, enters}
use Rattle.graph_turns.proofs.Entering.Loads.{Queued, how_queued, put_import, put_by}
use Rattle.graph_turns.proofs.Entering.Loads.Queued.{stood as queue_stood, put as queue_put}
use Rattle.turn_laws.proofs.Entering.Made.{made_final, made_inside, makes}
use Rattle.turn_laws.proofs.Entering.Placed.{how_placed}
use Rattle.graph_turns.proofs.Entering.Rested.{still_enter}
use Rattle.turn_laws.proofs.Entering.Sums.{sum_added}
use Rattle.turn_laws.proofs.Leading.Circles.{kept_redirect as kept_redirect_of}
use Rattle.graph_turns.proofs.Leading.Follow.{follow_keeps, onward_parts}
use Rattle.graph_turns.proofs.Leading.Ways.{put_at}
use Rattle.turn_laws.proofs.Promise.Hops.{edge_begins, edges_in_package}
use Rattle.turn_laws.proofs.Promise.GraphKept.{GraphKept, IsAccounted, kept_marked, kept_more, kept_moved, kept_open, kept_placed, kept_put, kept_renamed, packages_moved, packages_placed, packages_renamed, renamed_self}
use Rattle.turn_laws.proofs.Promise.Infos.{AreRight, ByInfo, IsRead, info_asked, source_info, unsupported_told}
use Rattle.turn_laws.proofs.Promise.PackagesKept.{PackagesKept}
use Rattle.turn_laws.proofs.Promise.Passing.{AnswersKept, PassKept, RunBegins, RunKept}
use Rattle.turn_laws.proofs.Promise.Places.{HasPlace, HavePlaces, place_more, place_placed, place_there, places_as, places_moved, places_open, places_put, places_renamed}
use Rattle.turn_laws.proofs.Promise.Sound.{marked as with_mark_of_node}
use Rattle.turn_laws.proofs.Promise.Storing.{not_used}
use Rattle.graph_turns.specs.Machine.Entering.{Waits, Imports, deferred_with, enter, enter_all, enter_edge, enter_edges, edges_from, hop, is_module, is_outside, names_with, placed, placed_at, queued, redirected, redirects_ended, stored, stored_at, sums_by, with_content, with_mark, is_end}

-- what holds of all that waits and of one more
pub deferred_all : (P : Parts × LoadContext → Type 0) (es : Waits) (s : Parts) (c : LoadContext) → All P es → P (s, c) → All P (deferred_with es s c)
deferred_all P es s c all p = by (is_some (lookup (same_specifier s) es)) refl
  where
    last : (es : Waits) → All P es → is_some (lookup (same_specifier s) es) ≡ false → All P (insert_entry same_specifier es s c)
    last [] all none = All-cons P (s, c) [] p all
    last (e ∷ es) all none = by_same (same_specifier s e.0) none (last es (All-tail P e es all))
      where
        by_same : (b : Bool) → is_some (if b then Some e.1 else lookup (same_specifier s) es) ≡ false → (is_some (lookup (same_specifier s) es) ≡ false → All P (insert_entry same_specifier es s c)) → All P (if b then (e.0, c) ∷ es else e ∷ insert_entry same_specifier es s c)
        by_same true none rest = absurd (true≢false none)
        by_same false none rest = All-cons P e _ (All-head P e es all) (rest none)

    by : (b : Bool) → is_some (lookup (same_specifier s) es) ≡ b → All P (if b then es else insert_entry same_specifier es s c)
    by true t = all
    by false f = last es all f

asked_by : (b c : Bool) → b ≡ false → c ≡ false → not b && not c ≡ true
asked_by true c e f = absurd (true≢false e)
asked_by false true e f = absurd (true≢false f)
asked_by false false e f = refl

-- what holds of imports that wait and of one more
put_all : (Q : Load → Type 0) (es : Imports) (s : Parts) (load : Load) → All (λ (e : Parts × Load). Q e.1) es → Q load → All (λ (e : Parts × Load). Q e.1) (put_import es s load)
put_all Q [] s load all r = All-cons (λ (e : Parts × Load). Q e.1) (s, load) [] r all
put_all Q (e ∷ es) s load all r = put_by s load e es (All (λ (x : Parts × Load). Q x.1))
    (λ t. All-cons (λ (x : Parts × Load). Q x.1) (e.0, load) es r (All-tail (λ (x : Parts × Load). Q x.1) e es all))
    (λ f. All-cons (λ (x : Parts × Load). Q x.1) e _ (All-head (λ (x : Parts × Load). Q x.1) e es all) (put_all Q es s load (All-tail (λ (x : Parts × Load). Q x.1) e es all) r))

queued_all : (Q : Load → Type 0) (es : Imports) (load : Load) (new : Imports) → Queued es load new → All (λ (e : Parts × Load). Q e.1) es → Q load → All (λ (e : Parts × Load). Q e.1) new
queued_all Q es load new (queue_stood e) all r = all
queued_all Q es load new queue_put all r = put_all Q es load.specifier load all r

-- a source makes no module outside of the graph
made_within : (making : Making) (source : Source) (c : LoadContext) → is_outside (made_slot making source c) ≡ false
made_within making source c = makes (λ v. is_outside v ≡ false) (λ e other. refl) (λ m. refl) (λ m. refl) (λ m. refl) making source c

-- no sum stands yet
pub no_sums : (b : Bool) (k sum : List ℕ) → sum_in (if b then Some finite.empty else None) k ≡ Some sum → ⊥
no_sums true k sum e = nothing_in_empty k sum e
no_sums false k sum e = let wrong : None ≡ Some sum = e in cc

-- nothing was asked about files
abbrev pub no_files : Versions
no_files = finite.empty

abbrev pub no_probes : Probed
no_probes = finite.empty

-- the file of the version was read that a load counts in, where it does
abbrev pub IsReadIn : Versions → Load → Type 0
IsReadIn files load = IsReadAt (finite.get files) load.context.«package»

module _ (w : Told) (given : EnteredGraph) (begins : RunBegins given) where
  abbrev pub IsReached : Load → Type 0
  IsReached load = Reached w given load.specifier load.context

  -- an open load is reached and asked for
  abbrev pub IsAskedFor : Load → Type 0
  IsAskedFor load = IsReached load × (is_asked w.known.flags load.specifier load.context ≡ true)

  -- what waits is reached
  abbrev pub IsReachedWait : Parts × LoadContext → Type 0
  IsReachedWait e = Reached w given e.0 e.1

  abbrev pub IsReachedImport : Parts × Load → Type 0
  IsReachedImport e = IsReached e.1

  -- the name of a module that a root's answer gave
  abbrev pub IsRootName : Parts → Type 0
  IsRootName n = (s : Parts) × (c : LoadContext) × Reached w given s c × (c.is_root ≡ true) × HasModuleName w s c n

  -- the run before found a sum, or it is that of a source
  abbrev pub IsFoundSum : Run → List ℕ → List ℕ → Type 0
  IsFoundSum run k sum = (sum_in (earlier_sums run) k ≡ Some sum) ⊎ IsSourceSum w given k sum

  pub record Kept (s : State) : Type 0 where
    pub flags : s.flags ≡ w.known.flags
    pub graph : GraphKept w given s.contents s.graph
    pub loads : All IsAskedFor s.loads
    pub deferred : All IsReachedWait s.deferred
    pub dynamic : All IsReachedImport s.dynamic
    pub names : All IsRootName s.root_names
    -- each sum that this run found is that of the source of a module that was made there
    pub sums : (k sum : List ℕ) → sum_in s.sums k ≡ Some sum → IsFoundSum s.run k sum
    -- each package that a load counts in was read, and each version file that was asked about is the world's
    pub held : IsHeld s
    pub files : AreRight w (finite.get s.files)
    -- so is each package file
    pub answers : AnswersKept w given s.packages s.reloaded s.probed
    pub packages : PackagesKept w given s.graph.packages
    -- each `jsr:` specifier that waits is reached, and those of the pass are
    pub waiting : All (IsReachedItem w given) s.waiting
    -- so is each `npm:` specifier that waits for the end
    pub npm : All (IsReachedNpm w given) s.npm
    pub pass : PassKept w given s.packages s.files s.wanted s.pass
    pub run : RunKept w given begins.run s.run
    -- each content that comes later is one of a reached pair, whose module stands
    pub contents : All (ComesLater w given) s.contents
    pub places : HavePlaces w given s.contents s.graph

  pub kept_over : (s : State) (g : ModuleGraph) → GraphKept w given s.contents g → HavePlaces w given s.contents g → PackagesKept w given g.packages → Kept s → Kept (record s { graph = g })
  kept_over s g graph places packages kept = record {
    flags = kept.flags;
    graph = graph;
    loads = kept.loads;
    deferred = kept.deferred;
    dynamic = kept.dynamic;
    names = kept.names;
    sums = kept.sums;
    held = record { loads = kept.held.loads; deferred = kept.held.deferred; dynamic = kept.held.dynamic };
    files = kept.files;
    packages = packages;
    answers = kept.answers;
    waiting = kept.waiting;
    npm = kept.npm;
    pass = kept.pass;
    run = kept.run;
    contents = kept.contents;
    places = places;
  }

  -- whatever is noted
  pub kept_beside : (s : State) (notes : List Note) → Kept s → Kept (record s { notes = notes })
  kept_beside s notes kept = record {
    flags = kept.flags;
    graph = kept.graph;
    loads = kept.loads;
    deferred = kept.deferred;
    dynamic = kept.dynamic;
    names = kept.names;
    sums = kept.sums;
    held = record { loads = kept.held.loads; deferred = kept.held.deferred; dynamic = kept.held.dynamic };
    files = kept.files;
    packages = kept.packages;
    answers = kept.answers;
    waiting = kept.waiting;
    npm = kept.npm;
    pass = kept.pass;
    run = kept.run;
    contents = kept.contents;
    places = kept.places;
  }

  -- ---- entering

  -- a known redirect is followed under the same context
  led_on : (ls : List LaterContent) (g : ModuleGraph) (c : LoadContext) (x t : Parts) → GraphKept w given ls g → Reached w given x c → redirect_at g x ≡ Some t → Reached w given t c
  led_on ls g c x t kept r e = ⊎_elim (λ stood. known r stood) (λ by. named r by.2 (sym by.3) by.4) (kept.redirects (specifier_text x) t e)

  -- the end of known redirects is reached under the same context
  pub followed : (ls : List LaterContent) (g : ModuleGraph) (s : Parts) (c : LoadContext) → GraphKept w given ls g → Reached w given s c → Reached w given (redirected_end g s) c
  followed ls g s c kept r = follow_keeps g (λ x. Reached w given x c) (λ x t reached e. led_on ls g c x t kept reached (onward_parts g x t e).1) (finite.len g.redirects) (s ∷ []) s r

  -- an explained slot that isn't at hand alone stands at a specifier
  pub kept_slot_at : (s : State) (at : Parts) (v : ModuleSlot) → IsExplained w given (specifier_text at) v → is_pending v ≡ false → is_asset_slot v ≡ false → Kept s → Kept (record s { graph = put_at s.graph (specifier_text at) v })
  kept_slot_at s at v is final inside kept = kept_over s (put_at s.graph (specifier_text at) v)
      (kept_put w given s.contents s.graph (specifier_text at) v kept.graph (inl is) final inside)
      (places_put w given s.contents s.graph (specifier_text at) v (inl is) final inside kept.places)
      kept.packages
      kept

  pub kept_enter : (s : State) (load : Load) → Kept s → IsReached load → IsReadIn s.files load → Kept (enter s load)
  kept_enter s load kept r read = by_entered (enter s load) (how_entered s load)
    where
      at : Parts
      at = redirected_end s.graph load.specifier

      reached : Reached w given (redirected_end s.graph load.specifier) load.context
      reached = followed s.contents s.graph load.specifier load.context kept.graph r

      by_entered : (u : State) → Entered s load.context (redirected_end s.graph load.specifier) u → Kept u
      by_entered u (refused {kind} e) =
          kept_slot_at s at (failed_slot kind) (at, load.context, reached, forbidden_asset (subst (λ f. forbidden f at load.context ≡ Some kind) kept.flags e)) refl refl kept
      by_entered u (waits h v) = record {
        flags = kept.flags;
        graph = kept.graph;
        loads = kept.loads;
        deferred = deferred_all IsReachedWait s.deferred at load.context kept.deferred reached;
        dynamic = kept.dynamic;
        names = kept.names;
        sums = kept.sums;
        held = record {
          loads = kept.held.loads;
          deferred = deferred_all (λ (e : Parts × LoadContext). IsReadAt (finite.get s.files) e.1.«package») s.deferred at load.context kept.held.deferred read;
          dynamic = kept.held.dynamic;
        };
        files = kept.files;
        packages = kept.packages;
        answers = kept.answers;
        waiting = kept.waiting;
        npm = kept.npm;
        pass = kept.pass;
        run = kept.run;
        contents = kept.contents;
        places = kept.places;
      }
      by_entered u (found {notes} h) = kept_beside s notes kept
      by_entered u (stays {notes} j h) = kept_beside s notes kept
      by_entered u (no_package {e} free h j n) =
          kept_slot_at s at (jsr_slot at load.context (PackageFormat e)) (at, load.context, reached, no_package_named j (subst (λ f. forbidden f at load.context ≡ None) kept.flags free) n) refl refl kept
      by_entered u (no_npm_package {e} free h j n) =
          kept_slot_at s at (Failed (error_of (LoadFails at load.context.range (Npm (PackageReqReferenceParse e))))) (at, load.context, reached, no_npm_package_named j (subst (λ f. forbidden f at load.context ≡ None) kept.flags free) n) refl refl kept
      by_entered u (passed_through {notes} free h j n p) =
          kept_beside (record s { graph = put_at s.graph (specifier_text at) (external_slot at false) }) notes
          (kept_slot_at s at (external_slot at false)
          (at, load.context, reached, stands_outside j (subst (λ f. forbidden f at load.context ≡ None) kept.flags free) n (subst (λ f. f.passthrough_jsr ≡ true) kept.flags p))
          refl refl kept)
      by_entered u (awaits {notes} {r} free h j n p) = record {
        flags = kept.flags;
        graph = kept.graph;
        loads = kept.loads;
        deferred = kept.deferred;
        dynamic = kept.dynamic;
        names = kept.names;
        sums = kept.sums;
        held = record { loads = kept.held.loads; deferred = kept.held.deferred; dynamic = kept.held.dynamic };
        files = kept.files;
        packages = kept.packages;
        answers = kept.answers;
        waiting = All-push (IsReachedItem w given) s.waiting (waiting_at at r load.context) kept.waiting record {
          reached = reached;
          looked_for = record { jsr = j; named = n; stays_in = subst (λ f. f.passthrough_jsr ≡ false) kept.flags p };
          allowed = subst (λ f. forbidden f at load.context ≡ None) kept.flags free;
        };
        npm = kept.npm;
        pass = kept.pass;
        run = kept.run;
        contents = kept.contents;
        places = kept.places;
      }
      by_entered u (resolves {notes} {r} free h j f n) = record {
        flags = kept.flags;
        graph = kept.graph;
        loads = kept.loads;
        deferred = kept.deferred;
        dynamic = kept.dynamic;
        names = kept.names;
        sums = kept.sums;
        held = record { loads = kept.held.loads; deferred = kept.held.deferred; dynamic = kept.held.dynamic };
        files = kept.files;
        packages = kept.packages;
        answers = kept.answers;
        waiting = kept.waiting;
        npm = All-push (IsReachedNpm w given) s.npm (npm_waiting_at at r load.context) kept.npm record {
          reached = reached;
          names_npm = j;
          resolves = subst (λ f. f.resolves_npm ≡ true) kept.flags f;
          named = n;
          allowed = subst (λ f. forbidden f at load.context ≡ None) kept.flags free;
        };
        pass = kept.pass;
        run = kept.run;
        contents = kept.contents;
        places = kept.places;
      }
      by_entered u (unstated {kind} free h e) =
          let of_version = unsupported_told w (finite.get s.files) kept.files at load.context kind read e in
          let is : IsExplained w given (specifier_text at) (jsr_slot at load.context UnsupportedManifestChecksum) = (at, load.context, reached, unsupported_sum (subst (λ f. forbidden f at load.context ≡ None) kept.flags free) of_version.0) in
          kept_slot_at s at (failed_slot kind) (subst (λ k. IsExplained w given (specifier_text at) (failed_slot k)) (sym of_version.1) is) refl refl kept
      by_entered u (node h n) =
          let is : IsExplained w given (specifier_text at) (node_slot at) = (at, load.context, reached, built_in n) in
          let there = put_at s.graph (specifier_text at) (node_slot at) in
          kept_over s (with_mark_of_node there)
          (kept_marked w given s.contents there (kept_put w given s.contents s.graph (specifier_text at) (node_slot at) kept.graph (inl is) refl refl))
          (places_as w given s.contents there (with_mark_of_node there) refl (places_put w given s.contents s.graph (specifier_text at) (node_slot at) (inl is) refl refl kept.places))
          kept.packages
          kept
      by_entered u (opens free h n) = record {
        flags = kept.flags;
        graph = kept_open w given s.contents s.graph (specifier_text at) load.context kept.graph h;
        loads = All-push IsAskedFor s.loads _ kept.loads (reached, asked_by (is_unasked w.known.flags at) (is_some (forbidden w.known.flags at load.context)) (subst (λ f. is_unasked f at ≡ false) kept.flags n) (ap is_some (subst (λ f. forbidden f at load.context ≡ None) kept.flags free)));
        deferred = kept.deferred;
        dynamic = kept.dynamic;
        names = kept.names;
        sums = kept.sums;
        held = record { loads = All-push (IsReadIn s.files) s.loads _ kept.held.loads read; deferred = kept.held.deferred; dynamic = kept.held.dynamic };
        files = kept.files;
        packages = kept.packages;
        answers = kept.answers;
        waiting = kept.waiting;
        npm = kept.npm;
        pass = kept.pass;
        run = kept.run;
        contents = kept.contents;
        places = places_open w given s.contents s.graph (specifier_text at) load.context h kept.places;
      }

  pub kept_enter_all : (s : State) (loads : List Load) → Kept s → All IsReached loads → All (IsReadIn s.files) loads → Kept (enter_all s loads)
  unfolding enter_all
  kept_enter_all s [] kept r read = kept
  kept_enter_all s (load ∷ loads) kept r read =
      kept_enter_all (enter s load) loads (kept_enter s load kept (All-head IsReached load loads r) (All-head (IsReadIn s.files) load loads read)) (All-tail IsReached load loads r)
      (subst (λ f. All (IsReadIn f) loads) (sym (still_enter s load).files) (All-tail (IsReadIn s.files) load loads read))

  -- a name of this text among the names that roots' answers gave
  root_found : (load : Load) (names : List Parts) → All IsRootName names → list_any (same_specifier load.specifier) names ≡ true → (n : Parts) × IsRootName n × (same_specifier load.specifier n ≡ true)
  root_found load [] all e = absurd (true≢false (sym e))
  root_found load (n ∷ ns) all e = by_same (root_found load ns (All-tail IsRootName n ns all)) (same_specifier load.specifier n) refl
    where
      by_same : (list_any (same_specifier load.specifier) ns ≡ true → (m : Parts) × IsRootName m × (same_specifier load.specifier m ≡ true)) → (b : Bool) → same_specifier load.specifier n ≡ b → (m : Parts) × IsRootName m × (same_specifier load.specifier m ≡ true)
      by_same rest true t = (n, All-head IsRootName n ns all, t)
      by_same rest false f = rest (sym (ap (λ b. b || list_any (same_specifier load.specifier) ns) f) ∙ e)

  -- a name that a root's answer gave counts as a root
  pub marked_reached : (names : List Parts) (load : Load) → All IsRootName names → IsReached load → IsReached (with_mark names load)
  marked_reached names load all r = by load.context.is_root refl (list_any (same_specifier load.specifier) names) refl
    where
      by : (a : Bool) → load.context.is_root ≡ a → (b : Bool) → list_any (same_specifier load.specifier) names ≡ b → IsReached (with_mark names load)
      by true a b e = subst (λ x. Reached w given load.specifier (record load.context { is_root = x })) (a ∙ sym (ap (λ x. x || list_any (same_specifier load.specifier) names) a)) r
      by false a false e = subst (λ x. Reached w given load.specifier (record load.context { is_root = x })) (a ∙ sym (ap (λ x. x || list_any (same_specifier load.specifier) names) a ∙ e)) r
      by false a true e =
          let found = root_found load names all e in
          let root_name = found.1 in
          let here : Reached w given load.specifier (as_root load.context) = marked r root_name.2 root_name.3 root_name.4 (sym (text_of_same load.specifier found.0 found.2)) in
          subst (λ x. Reached w given load.specifier (record load.context { is_root = x })) (sym (ap (λ x. x || list_any (same_specifier load.specifier) names) a ∙ e)) here

  pub kept_edge : (s : State) (load : Load) → Kept s → IsReached load → IsReadIn s.files load → Kept (enter_edge s load)
  kept_edge s load kept r read = by_edged (enter_edge s load) (how_edged s load)
    where
      by_edged : (u : State) → Edged s load u → Kept u
      by_edged u (queues p f) = record {
        flags = kept.flags;
        graph = kept.graph;
        loads = kept.loads;
        deferred = kept.deferred;
        dynamic = queued_all IsReached s.dynamic load (queued s.dynamic load) (how_queued s.dynamic load) kept.dynamic r;
        names = kept.names;
        sums = kept.sums;
        held = record { loads = kept.held.loads; deferred = kept.held.deferred; dynamic = queued_all (IsReadIn s.files) s.dynamic load (queued s.dynamic load) (how_queued s.dynamic load) kept.held.dynamic read };
        files = kept.files;
        packages = kept.packages;
        answers = kept.answers;
        waiting = kept.waiting;
        npm = kept.npm;
        pass = kept.pass;
        run = kept.run;
        contents = kept.contents;
        places = kept.places;
      }
      by_edged u enters = kept_enter s (with_mark s.root_names load) kept (marked_reached s.root_names load kept.names r) read

  files_edge : (s : State) (load : Load) (u : State) → Edged s load u → u.files ≡ s.files
  files_edge s load u (queues p f) = refl
  files_edge s load u enters = (still_enter s (with_mark s.root_names load)).files

  kept_edges : (s : State) (loads : List Load) → Kept s → All IsReached loads → All (IsReadIn s.files) loads → Kept (enter_edges s loads)
  unfolding enter_edges
  kept_edges s [] kept r read = kept
  kept_edges s (load ∷ loads) kept r read =
      kept_edges (enter_edge s load) loads (kept_edge s load kept (All-head IsReached load loads r) (All-head (IsReadIn s.files) load loads read)) (All-tail IsReached load loads r)
      (subst (λ f. All (IsReadIn f) loads) (sym (files_edge s load (enter_edge s load) (how_edged s load))) (All-tail (IsReadIn s.files) load loads read))

  -- ---- where no load is open

  pub waits_reached : (es : Waits) → All IsReachedWait es → All IsReached (waited_loads es)
  waits_reached [] all = All-nil IsReached
  waits_reached (e ∷ es) all = All-cons IsReached _ (waited_loads es) (All-head IsReachedWait e es all) (waits_reached es (All-tail IsReachedWait e es all))

  waits_read : (files : Versions) (es : Waits) → All (λ (e : Parts × LoadContext). IsReadAt (finite.get files) e.1.«package») es → All (IsReadIn files) (waited_loads es)
  waits_read files [] all = All-nil (IsReadIn files)
  waits_read files (e ∷ es) all = All-cons (IsReadIn files) _ (waited_loads es)
      (All-head (λ (x : Parts × LoadContext). IsReadAt (finite.get files) x.1.«package») e es all)
      (waits_read files es (All-tail (λ (x : Parts × LoadContext). IsReadAt (finite.get files) x.1.«package») e es all))

  pub imports_reached : (names : List Parts) (es : Imports) → All IsRootName names → All IsReachedImport es → All IsReached (waited_imports names es)
  imports_reached names [] roots all = All-nil IsReached
  imports_reached names (e ∷ es) roots all = All-cons IsReached _ (waited_imports names es) (marked_reached names e.1 roots (All-head IsReachedImport e es all)) (imports_reached names es roots (All-tail IsReachedImport e es all))

  imports_read : (files : Versions) (names : List Parts) (es : Imports) → All (λ (e : Parts × Load). IsReadIn files e.1) es → All (IsReadIn files) (waited_imports names es)
  imports_read files names [] all = All-nil (IsReadIn files)
  imports_read files names (e ∷ es) all = All-cons (IsReadIn files) _ (waited_imports names es)
      (All-head (λ (x : Parts × Load). IsReadIn files x.1) e es all)
      (imports_read files names es (All-tail (λ (x : Parts × Load). IsReadIn files x.1) e es all))

  pub kept_deferred : (s : State) → Kept s → Kept (deferred_entered s)
  unfolding deferred_entered
  kept_deferred s kept = kept_enter_all (record s { deferred = [] }) (waited_loads s.deferred)
      record {
        flags = kept.flags;
        graph = kept.graph;
        loads = kept.loads;
        deferred = All-nil IsReachedWait;
        dynamic = kept.dynamic;
        names = kept.names;
        sums = kept.sums;
        held = record { loads = kept.held.loads; deferred = All-nil (λ (e : Parts × LoadContext). IsReadAt (finite.get s.files) e.1.«package»); dynamic = kept.held.dynamic };
        files = kept.files;
        packages = kept.packages;
        answers = kept.answers;
        waiting = kept.waiting;
        npm = kept.npm;
        pass = kept.pass;
        run = kept.run;
        contents = kept.contents;
        places = kept.places;
      }
      (waits_reached s.deferred kept.deferred)
      (waits_read s.files s.deferred kept.held.deferred)

  pub kept_dynamic : (s : State) → Kept s → Kept (dynamic_entered s)
  unfolding dynamic_entered
  kept_dynamic s kept = kept_enter_all (record s { dynamic = []; is_dynamic = true }) (waited_imports s.root_names s.dynamic)
      record {
        flags = kept.flags;
        graph = kept.graph;
        loads = kept.loads;
        deferred = kept.deferred;
        dynamic = All-nil IsReachedImport;
        names = kept.names;
        sums = kept.sums;
        held = record { loads = kept.held.loads; deferred = kept.held.deferred; dynamic = All-nil (λ (e : Parts × Load). IsReadIn s.files e.1) };
        files = kept.files;
        packages = kept.packages;
        answers = kept.answers;
        waiting = kept.waiting;
        npm = kept.npm;
        pass = kept.pass;
        run = kept.run;
        contents = kept.contents;
        places = kept.places;
      }
      (imports_reached s.root_names s.dynamic kept.names kept.dynamic)
      (imports_read s.files s.root_names s.dynamic kept.held.dynamic)

  -- ---- names that lead back

  first_hops : {load : Load} → Contains given.loads load → load.context.hops ≡ 0
  first_hops {load} among = subst (λ (x : Load). x.context.hops ≡ 0) among.2 (begins.outset among.0 load among.1).0

  pub reached_hops : {s : Parts} {c : LoadContext} → Reached w given s c → c.hops ≤ w.world.max_redirects
  reached_hops (first {load} h) = let none : load.context.hops ≡ 0 = first_hops h in omega arith
  reached_hops (known r e) = reached_hops r
  reached_hops (named r e same has) = reached_hops r
  reached_hops (exported r is) = reached_hops r
  reached_hops (hopped r e same takes none) = omega arith
  reached_hops (edge r is) = let none = edge_begins is in omega arith
  reached_hops (marked r q e h same) = reached_hops r

  names_push : {n x s t : Parts} {c : LoadContext} → NamesLead w given n x → Reached w given s c → specifier_text s ≡ specifier_text x → IsRedirected w given s c t → NamesLead w given n t
  names_push (here same) r e has = onward (same ∙ sym e) r has (here refl)
  names_push (onward same q h rest) r e has = onward same q h (names_push rest r e has)
  names_push (redirected_at same q h rest) r e has = redirected_at same q h (names_push rest r e has)

  -- a redirect that stood at entry leads on too
  names_stood : {n x t : Parts} {c : LoadContext} → NamesLead w given n x → Reached w given x c → redirect_at given.graph x ≡ Some t → NamesLead w given n t
  names_stood (here same) r e = redirected_at same r e (here refl)
  names_stood (onward same q h rest) r e = onward same q h (names_stood rest r e)
  names_stood (redirected_at same q h rest) r e = redirected_at same q h (names_stood rest r e)

  names_end : {n d s : Parts} → NamesLead w given n d → IsSame d s → NamesLead w given n s
  names_end (here same) e = here (same ∙ e)
  names_end (onward same q h rest) e = onward same q h (names_end rest e)
  names_end (redirected_at same q h rest) e = redirected_at same q h (names_end rest e)

  pub names_back : (ls : List LaterContent) (g : ModuleGraph) (s n : Parts) (c : LoadContext) → GraphKept w given ls g → Reached w given n c → leads_back g s n ≡ true → NamesLead w given n s
  names_back ls g s n c kept r back =
      let u = unknown_at g s in
      let lead : NamesLead w given n (redirected_end u n) × Reached w given (redirected_end u n) c =
      follow_keeps u (λ x. NamesLead w given n x × Reached w given x c) step (finite.len u.redirects) (n ∷ []) n (here refl, r) in
      names_end lead.0 (text_of_same (redirected_end u n) s back)
    where
      step : (x t : Parts) → NamesLead w given n x × Reached w given x c → onward_at (unknown_at g s) x ≡ Some t → NamesLead w given n t × Reached w given t c
      step x t so_far e =
          let at : redirect_at g x ≡ Some t = kept_redirect_of g (specifier_text s) (specifier_text x) t (onward_parts (unknown_at g s) x t e).1 in
          (⊎_elim (λ stood. names_stood so_far.0 so_far.1 stood) (λ by. names_push so_far.0 by.2 by.3 by.4) (kept.redirects (specifier_text x) t at), led_on ls g c x t kept so_far.1 at)

  -- outside of packages a redirect is a name
  pub onward_name : (s n : Parts) (asked : Asked) → asked.held ≡ None → name_of s asked (Onward n) ≡ Some n
  onward_name s n asked none = ap (λ (o : Option PackageNv). by_option o (Some n) (λ nv. None)) none

  -- where a redirect ends
  pub ends_there : (most : ℕ) (s : State) (load : Load) (asked : Asked) (n : Parts) → most ≡ w.world.max_redirects → GraphKept w given s.contents s.graph → IsReached load → CountsFor w load.specifier load.context asked (Onward n) → asked.held ≡ None → is_end most s load n ≡ true → EndsThere w given load.specifier load.context n
  ends_there most s load asked n is kept r takes none t = ⊎_elim
      (λ used. inl (let below = reached_hops r in let above = leb-true most load.context.hops used in omega arith))
      (λ back. inr (names_back s.contents s.graph load.specifier n load.context kept (named r r refl (to_name (answered takes (onward_name load.specifier n asked none)))) back))
      (or_cases (nat_le most load.context.hops) (leads_back s.graph load.specifier n) t)

  -- ---- storing

  -- the edges that a graph of the entry's kind follows from a slot
  abbrev edges_given : ModuleSlot → LoadContext → List Load
  edges_given slot c = edges_from given.graph.kind w.known.flags.skip_dynamic_deps slot c

  -- the followed edges of a module that was made are reached
  pub edges_reached : (s : Parts) (c : LoadContext) (asked : Asked) (source : Source) (slot : ModuleSlot) → CountsFor w s c asked (Found source) → Reached w given s c → made_slot (making_of w given.graph.kind) source c ≡ slot → All IsReached (edges_given slot (in_package asked.held c))
  edges_reached s c asked source (Stands m) takes r is = λ k d below. edge r (from takes is (All-contains_itself (loads_of given.graph.kind w.known.flags.skip_dynamic_deps m (in_package asked.held c)) k d below))
  edges_reached s c asked source (Failed err) takes r is = All-nil IsReached
  edges_reached s c asked source (Pending asset) takes r is = All-nil IsReached

  -- a module outside of the graph has no edges
  pub outside_alone : (n : Parts) (asset : Bool) (c : LoadContext) → All IsReached (edges_given (external_slot n asset) c)
  unfolding loads_of
  outside_alone n asset c = All-nil IsReached

  -- the edges of a slot that counts in a version whose file was read
  pub edges_read : (files : Versions) (kind : GraphKind) (skip : Bool) (v : ModuleSlot) (held : Option PackageNv) (c : LoadContext) → IsReadAt (finite.get files) held → All (IsReadIn files) (edges_from kind skip v (in_package held c))
  edges_read files kind skip v held c read =
      All-weaker (λ (load : Load). load.context.«package» ≡ held) (IsReadIn files) (λ load e. subst (IsReadAt (finite.get files)) (sym e) read)
      (edges_from kind skip v (in_package held c)) (edges_in_package kind skip v (in_package held c))

  -- what names roots' answers gave
  pub named_roots : (s : State) (c : LoadContext) (name : Parts) (slot : ModuleSlot) → All IsRootName s.root_names → (c.is_root ≡ true → is_module slot ≡ true → IsRootName name) → All IsRootName (names_with s.root_names c name slot)
  named_roots s c name slot all new = by c.is_root refl (is_module slot) refl
    where
      put : IsRootName name → (b : Bool) → All IsRootName (if b then s.root_names else s.root_names ++ name ∷ [])
      put r true = all
      put r false = All-push IsRootName s.root_names name all r

      by_names : Bool → List Parts
      by_names b = if b then insert_key same_specifier s.root_names name else s.root_names

      by : (x : Bool) → c.is_root ≡ x → (y : Bool) → is_module slot ≡ y → All IsRootName (names_with s.root_names c name slot)
      by true r true m = subst (All IsRootName) (sym (ap (λ b. by_names (b && is_module slot)) r ∙ ap by_names m)) (put (new r m) (list_any (same_specifier name) s.root_names))
      by true r false m = subst (All IsRootName) (sym (ap (λ b. by_names (b && is_module slot)) r ∙ ap by_names m)) all
      by false r y m = subst (All IsRootName) (sym (ap (λ b. by_names (b && is_module slot)) r)) all

  -- a sum is kept outside of packages alone
  sums_named : (run : Run) (held : Option PackageNv) (sums : Option KnownSums) (name : Parts) (slot : ModuleSlot) → ((k sum : List ℕ) → sum_in sums k ≡ Some sum → IsFoundSum run k sum) → (held ≡ None → IsExplained w given (specifier_text name) slot) → (k sum : List ℕ) → sum_in (sums_by held sums name slot) k ≡ Some sum → IsFoundSum run k sum
  sums_named run None sums name slot old is k sum e = ⊎_elim (old k sum) (λ new. inr (slot, subst (λ z. IsExplained w given z slot) (sym new.0) (is refl), new.1)) (sum_added None sums name slot k sum e)
  sums_named run (Some nv) sums name slot old is k sum e = old k sum e

  -- a slot stands at its name, and these contents are to come
  pub kept_named : (s : State) (ls : List LaterContent) (load : Load) (held : Option PackageNv) (name : Parts) (slot : ModuleSlot) → Kept s → GraphKept w given ls (renamed s.graph load.specifier name) → IsAccounted w given ls (specifier_text name) slot → is_pending slot ≡ false → (load.context.is_root ≡ true → is_module slot ≡ true → IsRootName name) → (held ≡ None → IsExplained w given (specifier_text name) slot) → All (ComesLater w given) ls → HavePlaces w given ls (placed (renamed s.graph load.specifier name) name slot) → Kept (placed_at (record s { contents = ls }) load held name slot)
  kept_named s ls load held name slot kept graph is final roots plain later places = record {
    flags = kept.flags;
    graph = kept_placed w given ls (renamed s.graph load.specifier name) name slot _ (how_placed (renamed s.graph load.specifier name) name slot) graph is final;
    loads = kept.loads;
    deferred = kept.deferred;
    dynamic = kept.dynamic;
    names = named_roots s load.context name slot kept.names roots;
    sums = sums_named s.run held s.sums name slot kept.sums plain;
    held = record { loads = kept.held.loads; deferred = kept.held.deferred; dynamic = kept.held.dynamic };
    files = kept.files;
    packages = subst (PackagesKept w given) (sym (packages_placed (renamed s.graph load.specifier name) name slot ∙ packages_renamed s.graph load.specifier name)) kept.packages;
    answers = kept.answers;
    waiting = kept.waiting;
    npm = kept.npm;
    pass = kept.pass;
    run = kept.run;
    contents = later;
    places = places;
  }

  kept_at : (s : State) (ls : List LaterContent) (load : Load) (held : Option PackageNv) (name : Parts) (slot : ModuleSlot) → Kept s → Kept (placed_at (record s { contents = ls }) load held name slot) → All IsReached (edges_given slot (in_package held load.context)) → IsReadAt (finite.get s.files) held → Kept (stored_at (record s { contents = ls }) load held name slot)
  kept_at s ls load held name slot kept now edges read =
      kept_edges (placed_at (record s { contents = ls }) load held name slot) (edges_from s.graph.kind s.flags.skip_dynamic_deps slot (in_package held load.context)) now
      (subst (λ x. All IsReached (edges_from x s.flags.skip_dynamic_deps slot (in_package held load.context))) (sym kept.graph.kind)
      (subst (λ f. All IsReached (edges_from given.graph.kind f slot (in_package held load.context))) (ap (λ f. f.skip_dynamic_deps) (sym kept.flags)) edges))
      (edges_read s.files s.graph.kind s.flags.skip_dynamic_deps slot held load.context read)

  -- an explained slot, with no content to come
  pub kept_plain : (s : State) (load : Load) (held : Option PackageNv) (name : Parts) (slot : ModuleSlot) → Kept s → GraphKept w given s.contents (renamed s.graph load.specifier name) → IsExplained w given (specifier_text name) slot → is_pending slot ≡ false → (load.context.is_root ≡ true → is_module slot ≡ true → IsRootName name) → All IsReached (edges_given slot (in_package held load.context)) → IsReadAt (finite.get s.files) held → Kept (stored_at s load held name slot)
  kept_plain s load held name slot kept graph is final roots edges read =
      kept_at s s.contents load held name slot kept
      (kept_named s s.contents load held name slot kept graph (inl is) final roots (λ none. is) kept.contents
      (λ l among. place_placed w given s.contents (renamed s.graph load.specifier name) name slot _ (how_placed (renamed s.graph load.specifier name) name slot) (inl is) final (specifier_text l.specifier) (places_renamed w given s.contents s.graph load.specifier name kept.places l among)))
      edges read

  -- a slot at the asked specifier itself
  pub kept_self : (s : State) (load : Load) (held : Option PackageNv) (slot : ModuleSlot) → Kept s → IsExplained w given (specifier_text load.specifier) slot → is_pending slot ≡ false → (load.context.is_root ≡ true → is_module slot ≡ true → IsRootName load.specifier) → All IsReached (edges_given slot (in_package held load.context)) → IsReadAt (finite.get s.files) held → Kept (stored_at s load held load.specifier slot)
  kept_self s load held slot kept is final roots edges read =
      kept_plain s load held load.specifier slot kept (subst (GraphKept w given s.contents) (sym (renamed_self s.graph load.specifier load.specifier (same_of_text load.specifier load.specifier refl))) kept.graph) is final roots edges read

  -- a module by its info, whose content comes later
  module _ (s : State) (load : Load) (asked : Asked) (source : Source) (kept : Kept s) (r : IsReached load) (takes : CountsFor w load.specifier load.context asked (Found source)) (read : IsRead (finite.get s.files) asked) (by : ByInfo load.specifier (info_for load.context asked) source) where
    abbrev its_content : LaterContent
    its_content = record { specifier = load.specifier; context = load.context; checksum = asked.checksum }

    abbrev now_contents : List LaterContent
    now_contents = s.contents ++ its_content ∷ []

    abbrev its_slot : ModuleSlot
    its_slot = made_slot (making_of w given.graph.kind) source load.context

    its_later : ComesLater w given its_content
    its_later = record { asked = asked; source = source; reached = r; takes = takes; comes = ap (content_of load.specifier load.context asked) by.has }

    awaits_it : Awaits w given now_contents (specifier_text source.name) its_slot
    awaits_it = record {
      later = its_content;
      among = Contains-push s.contents its_content;
      is_later = record { asked = asked; source = source; reached = r; takes = takes; comes = ap (content_of load.specifier load.context asked) by.has };
      named = ap specifier_text (sym by.name);
      slot_is = refl;
    }

    final_slot : is_pending its_slot ≡ false
    final_slot = made_final (making_of w given.graph.kind) source load.context

    more_then : (l : LaterContent) → Contains s.contents l → Contains now_contents l
    more_then l among = Contains-append_left s.contents (its_content ∷ []) l among

    name_of_it : HasName w load.specifier load.context source.name
    name_of_it = answered takes refl

    places_then : HavePlaces w given now_contents (placed (renamed s.graph load.specifier source.name) source.name its_slot)
    places_then = λ l among. ⊎_elim
        (λ old. place_placed w given now_contents g source.name its_slot _ (how_placed g source.name its_slot) (inr awaits_it) final_slot (specifier_text l.specifier) (place_more w given s.contents now_contents g (specifier_text l.specifier) more_then (places_renamed w given s.contents s.graph load.specifier source.name kept.places l old)))
        (λ same. subst (λ (x : LaterContent). HasPlace w given now_contents (placed g source.name its_slot) (specifier_text x.specifier)) same (subst (HasPlace w given now_contents (placed g source.name its_slot)) (ap specifier_text by.name) here_now))
        (Contains-push_cases s.contents its_content l among)
      where
        g : ModuleGraph
        g = renamed s.graph load.specifier source.name

        here_now : HasPlace w given now_contents (placed g source.name its_slot) (specifier_text source.name)
        here_now = place_there w given now_contents g source.name its_slot _ (how_placed g source.name its_slot) (made_inside (making_of w given.graph.kind) source load.context) (made_within (making_of w given.graph.kind) source load.context) (inr awaits_it) final_slot

    kept_by_info : Kept (stored_at (record s { contents = now_contents }) load asked.held source.name its_slot)
    kept_by_info =
        kept_at s now_contents load asked.held source.name its_slot kept
        (kept_named s now_contents load asked.held source.name its_slot kept
        (kept_more w given s.contents now_contents (renamed s.graph load.specifier source.name) more_then (kept_renamed w given s.contents s.graph load.specifier source.name kept.graph (load.specifier, load.context, r, refl, to_name name_of_it)))
        (inr awaits_it)
        final_slot
        (λ root y. (load.specifier, load.context, r, root, (asked, Found source, takes, refl)))
        (λ none. absurd (let wrong : None ≡ Some by.info = sym (read.plain none) ∙ info_asked load.context asked by.info by.given in cc))
        (All-push (ComesLater w given) s.contents its_content kept.contents its_later)
        places_then)
        (edges_reached load.specifier load.context asked source its_slot takes r refl)
        read.held

  kept_found : (most : ℕ) (s : State) (load : Load) (asked : Asked) (source : Source) → Kept s → IsReached load → CountsFor w load.specifier load.context asked (Found source) → IsRead (finite.get s.files) asked → Kept (stored most s load (outcome_of (making_of w given.graph.kind) load.specifier load.context asked (Found source)))
  unfolding stored
  kept_found most s load asked source kept r takes read = ⊎_elim
      (λ none. subst (λ (o : Option ModuleInfo). Kept (stored_at (with_content s (content_of load.specifier load.context asked o)) load asked.held source.name (made_slot (making_of w given.graph.kind) source load.context))) (sym none)
      (kept_plain s load asked.held source.name (made_slot (making_of w given.graph.kind) source load.context) kept
      (kept_renamed w given s.contents s.graph load.specifier source.name kept.graph (load.specifier, load.context, r, refl, to_name (answered takes refl)))
      (load.specifier, load.context, r, made takes none)
      (made_final (making_of w given.graph.kind) source load.context)
      (λ root y. (load.specifier, load.context, r, root, (asked, Found source, takes, refl)))
      (edges_reached load.specifier load.context asked source (made_slot (making_of w given.graph.kind) source load.context) takes r refl)
      read.held))
      (λ by. subst (λ (o : Option ModuleInfo). Kept (stored_at (with_content s (content_of load.specifier load.context asked o)) load asked.held source.name (made_slot (making_of w given.graph.kind) source load.context))) (sym by.has)
      (kept_by_info s load asked source kept r takes read by))
      (source_info w.world w.known asked load.specifier load.context source takes.is)

  kept_given : (most : ℕ) (s : State) (load : Load) (asked : Asked) (t : Taken) → most ≡ w.world.max_redirects → taken_answer w.world w.known asked load.specifier load.context ≡ t → Kept s → IsAskedFor load → IsReadIn s.files load → IsAsked w load.specifier load.context asked → IsRead (finite.get s.files) asked → Kept (stored most s load (outcome_of (making_of w given.graph.kind) load.specifier load.context asked t))
  unfolding stored
  kept_given most s load asked (Found source) m is kept r came under read = kept_found most s load asked source kept r.0 (record { asked_for = r.1; under = under; is = is }) read
  kept_given most s load asked (Outside n) m is kept r came under read =
      let takes : CountsFor w load.specifier load.context asked (Outside n) = record { asked_for = r.1; under = under; is = is } in
      kept_plain s load asked.held n (external_slot n false) kept
      (kept_renamed w given s.contents s.graph load.specifier n kept.graph (load.specifier, load.context, r.0, refl, to_name (answered takes refl)))
      (load.specifier, load.context, r.0, outside takes)
      refl
      (λ root y. (load.specifier, load.context, r.0, root, (asked, Outside n, takes, refl)))
      (outside_alone n false (in_package asked.held load.context))
      read.held
  kept_given most s load asked AtHand m is kept r came under read =
      let takes : CountsFor w load.specifier load.context asked AtHand = record { asked_for = r.1; under = under; is = is } in
      kept_self s load asked.held (external_slot load.specifier load.context.asset) kept
      (load.specifier, load.context, r.0, at_hand takes)
      refl
      (λ root y. (load.specifier, load.context, r.0, root, (asked, AtHand, takes, refl)))
      (outside_alone load.specifier load.context.asset (in_package asked.held load.context))
      read.held
  kept_given most s load asked Absent m is kept r came under read =
      kept_self s load asked.held (Failed (missing_error load.specifier load.context.range)) kept (load.specifier, load.context, r.0, missing {asked = asked} (record { asked_for = r.1; under = under; is = is })) refl (λ root y. absurd (true≢false (sym y))) (All-nil IsReached) read.held
  kept_given most s load asked (Refused e) m is kept r came under read =
      kept_self s load asked.held (Failed (refusal_error load.specifier load.context asked e)) kept (load.specifier, load.context, r.0, refused_answer {asked = asked} (record { asked_for = r.1; under = under; is = is })) refl (λ root y. absurd (true≢false (sym y))) (All-nil IsReached) read.held
  kept_given most s load asked (Onward n) m is kept r came under read = by_held asked.held refl
    where
      takes : CountsFor w load.specifier load.context asked (Onward n)
      takes = record { asked_for = r.1; under = under; is = is }

      by_end : asked.held ≡ None → (b : Bool) → is_end most s load n ≡ b → Kept (if b then redirects_ended s load else redirected s load n)
      by_end none true t =
          kept_slot_at s load.specifier (Failed (redirects_error load.specifier load.context.range)) (load.specifier, load.context, r.0, ended takes none (ends_there most s load asked n m kept.graph r.0 takes none t)) refl refl kept
      by_end none false f =
          let within : load.context.hops < most = leb-false most load.context.hops (not_used _ _ f) in
          let hops : min (load.context.hops + 1) w.world.max_redirects ≡ load.context.hops + 1 = omega arith in
          kept_enter (record s { graph = moved s.graph load.specifier n }) (record { specifier = n; context = hop load.context; is_type = false })
          (kept_over s _
          (kept_moved w given s.contents s.graph load.specifier n kept.graph (load.specifier, load.context, r.0, refl, to_name (answered takes (onward_name load.specifier n asked none))))
          (places_moved w given s.contents s.graph load.specifier n kept.places)
          (subst (PackagesKept w given) (sym (packages_moved s.graph load.specifier n)) kept.packages)
          kept)
          (subst (λ h. Reached w given n (record load.context { hops = h })) hops (hopped r.0 r.0 refl takes none))
          came

      by_held : (h : Option PackageNv) → asked.held ≡ h → Kept (stored most s load (by_option h (To n) (λ nv. failed_outcome load.specifier load.context (Some nv) (Jsr (RedirectInPackage n)))))
      by_held None none = by_end none (is_end most s load n) refl
      by_held (Some nv) at =
          kept_self s load (Some nv) (jsr_slot load.specifier load.context (RedirectInPackage n)) kept (load.specifier, load.context, r.0, redirected_in takes at) refl (λ root y. absurd (true≢false (sym y))) (All-nil IsReached)
          (subst (IsReadAt (finite.get s.files)) at read.held)

  -- ---- loads that fail without a question

  -- what a world's answer gives is kept
  pub kept_stored : (most : ℕ) (s : State) (load : Load) (asked : Asked) (o : Outcome) → most ≡ w.world.max_redirects → o ≡ outcome_of (making_of w given.graph.kind) load.specifier load.context asked (taken_answer w.world w.known asked load.specifier load.context) → Kept s → IsAskedFor load → IsReadIn s.files load → IsAsked w load.specifier load.context asked → IsRead (finite.get s.files) asked → Kept (stored most s load o)
  kept_stored most s load asked o m is kept r came under read = subst (λ x. Kept (stored most s load x)) (sym is) (kept_given most s load asked (taken_answer w.world w.known asked load.specifier load.context) m refl kept r came under read)
