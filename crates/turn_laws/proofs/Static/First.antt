-- Static before dynamic: what static imports lead to is what static imports give.
use Rattle.std.proofs.Common.{◌≡◌, ℕ, zero, suc, ◌<◌, List, [], ◌∷◌, ◌++◌, map, length, get_or, Bool, true, false, ◌&&◌, if◌then◌else◌, Option, None, Some, is_some, refl, sym, ap, ◌∙◌, subst, inl, inr, ⊎_elim, ◌⊎◌, arith}
use Rattle.std.specs.Prelude.{flat_map}
use Rattle.std.specs.List.{Contains}
use Rattle.std.specs.Option.{unwrap_or}
use Rattle.std.proofs.lemmas.Bool.{true≢false}
use Rattle.std.proofs.lemmas.List.Elements.{All-nil}
use Rattle.std.specs.FinMap as finite
use Rattle.url.specs.Parts.{Parts}
use Rattle.spec_base.specs.Specifier.{specifier_text}
use Rattle.spec_base.specs.declared.position.Range.{Range}
use Rattle.source_sums.specs.Sums.{KnownSums}
use Rattle.graph_dependencies.specs.declared.dependency.Dependency.{Dependency}
use Rattle.graph_dependencies.specs.declared.dependency.TypesDependency.{TypesDependency}
use Rattle.graph_dependencies.specs.declared.graph_import.GraphImport.{GraphImport}
use Rattle.graph_dependencies.specs.declared.graph_kind.GraphKind.{GraphKind}
use Rattle.graph_errors.specs.declared.resolution.Resolution.TheVariants.{Ok as Leads}
use Rattle.graph_errors.specs.declared.resolution.ResolutionResolved.{ResolutionResolved}
use Rattle.graph_core.specs.declared.graph.ModuleGraph.{ModuleGraph}
use Rattle.module_slots.specs.declared.load.Load.{Load}
use Rattle.module_slots.specs.declared.load.LoadContext.{LoadContext}
use Rattle.module_slots.specs.declared.slot.JsModule.{JsModule}
use Rattle.module_slots.specs.declared.slot.Module.{Module}
use Rattle.module_slots.specs.declared.slot.Module.TheVariants.{Js, Json, Wasm, Npm, Node, External}
use Rattle.module_slots.specs.declared.slot.ModuleSlot.{ModuleSlot}
use Rattle.module_slots.specs.declared.slot.ModuleSlot.TheVariants.{Module as Stands}
use Rattle.graph_core.specs.Edges.{both_edges, edge_context, edge_of, edges_by, edges_of, import_context, import_edges, import_loads, loads_of, source_map_edges, types_context, types_edge}
use Rattle.graph_core.specs.Graph.{new_graph}
use Rattle.module_slots.specs.Modules.{module_dependencies}
use Rattle.graph_turns.specs.declared.flags.Flags.{Flags}
use Rattle.graph_turns.specs.declared.next.Next.TheVariants.{Restart}
use Rattle.graph_turns.specs.declared.run.Earlier.{Earlier}
use Rattle.graph_turns.specs.declared.run.Run.{Run}
use Rattle.graph_turns.specs.declared.run.Run.TheVariants.{Only, First as FirstRun, Due, Second}
use Rattle.graph_turns.specs.declared.starting.ResolvedStart.{ResolvedStart}
use Rattle.graph_turns.specs.declared.state.State.{State}
use Rattle.graph_turns.specs.Machine.Entering.{first_state, resting_state}
use Rattle.graph_turns.specs.Machine.Next.{next_of}
use Rattle.graph_turns.specs.Machine.Runs.{begins_anew, begun_again, begun_over, earlier_sums, found_by, is_due, restarted, told_for}
use Rattle.graph_turns.specs.Machine.Starting.{start_entered, told_start}
use Rattle.graph_turns.specs.Machine.Sums.{sum_in}
use Rattle.graph_turns.specs.Machine.Turns.{IsIdle, turn, turn_by, turns}
use Rattle.graph_turns.specs.Promise.Input.{Given, Start, fresh_entry, root_context, root_load, start_of}
use Rattle.graph_turns.specs.Promise.Runs.{AreStaticFirst, IsStaticFirst, left_of}
use Rattle.graph_turns.specs.Promise.Static.{IsMet, IsTarget, IsSettledStatically, StaticFirst}
use Rattle.graph_turns.specs.Promise.Static.IsMet.{root, imported, redirected, depended, typed}
use Rattle.graph_turns.specs.Promise.Static.IsTarget.{code, type}
use Rattle.graph_turns.specs.Promise.Told.{Told}
use Rattle.graph_core.proofs.At.{nothing_in_empty}
use Rattle.graph_turns.proofs.Entering.Loads.{HasLoad, HasText, has_load_left, has_load_right, roots_due}
use Rattle.graph_turns.proofs.Entering.Next.{IsOutside, how_next, turn_as}
use Rattle.graph_turns.proofs.Entering.Rested.{still_started}
use Rattle.turn_laws.proofs.Leading.Circles.{new_no_circle}
use Rattle.graph_turns.proofs.Leading.Ends.{stands}
use Rattle.turn_laws.proofs.Leading.Paths.{Path}
use Rattle.turn_laws.proofs.Leading.Paths.Path.{stay, go}
use Rattle.turn_laws.proofs.Promise.Kept.{Kept, kept_enter_all, no_sums}
use Rattle.turn_laws.proofs.Promise.KeptLoads.{kept_blank, loads_reached, loads_read}
use Rattle.turn_laws.proofs.Promise.KeptTurns.{IsRunFrom, begins_or, begins_over, first_is, found_kept, never_due, run_begun_of, told_stage}
use Rattle.turn_laws.proofs.Promise.KeptTurns.IsRunFrom.{only, first, second}
use Rattle.turn_laws.proofs.Promise.Passing.{IsStage, RunBegins, RunKept}
use Rattle.turn_laws.proofs.Promise.Passing.IsStage.{same, due as due_again}
use Rattle.turn_laws.proofs.Promise.Sound.{Lead, Sound, nothing}
use Rattle.turn_laws.proofs.Promise.SoundBegun.{sound_started}
use Rattle.turn_laws.proofs.Static.Part.{IsStatic, part_enter_all, static_part}
use Rattle.turn_laws.proofs.Static.ReachedStatically.{IsStaticItem, IsStaticWait, static_enter_all}
use Rattle.turn_laws.proofs.Static.Turns.{First, InPhase, Later, later_of, phase_next, starts_all}

-- ---- targets among loads

has_flat : {X : Type 0} (f : X → List Load) (q : List ℕ) (xs : List X) (k : ℕ) (d : X) → k < length xs → HasLoad q (f (get_or xs k d)) → HasLoad q (flat_map f xs)
has_flat f q [] k d below h = absurd (omega arith)
has_flat f q (x ∷ xs) zero d below h = has_load_left q (f x) (flat_map f xs) h
has_flat f q (x ∷ xs) (suc k) d below h = has_load_right q (f x) (flat_map f xs) (has_flat f q xs k d (omega arith) h)

has_among : {X : Type 0} (f : X → List Load) (q : List ℕ) (xs : List X) (x : X) → Contains xs x → HasLoad q (f x) → HasLoad q (flat_map f xs)
has_among f q xs x among h = has_flat f q xs among.0 x among.1 (subst (λ y. HasLoad q (f y)) (sym among.2) h)

target_has : (F : Range → LoadContext) (d : Dependency) (t : Parts) → IsTarget d t → HasLoad (specifier_text t) (both_edges F d)
target_has F d t (code {r} e) = has_load_left (specifier_text r.specifier) (edge_of F false d.maybe_code) (edge_of F true d.maybe_type) (subst (λ x. HasLoad (specifier_text r.specifier) (edge_of F false x)) (sym e) (inl refl))
target_has F d t (type {r} e) = has_load_right (specifier_text r.specifier) (edge_of F false d.maybe_code) (edge_of F true d.maybe_type) (subst (λ x. HasLoad (specifier_text r.specifier) (edge_of F true x)) (sym e) (inl refl))

-- that of a static dependency is among the followed edges where dynamic ones are left out
static_has : (c : LoadContext) (ds : List (List ℕ × Dependency)) (d : List ℕ × Dependency) (t : Parts) → Contains ds d → d.1.is_dynamic ≡ false → IsTarget d.1 t → HasLoad (specifier_text t) (edges_of true c ds)
static_has c ds d t among static target =
    has_among (λ (d : List ℕ × Dependency). edges_by true c d.1) (specifier_text t) ds d among
    (subst (λ b. HasLoad (specifier_text t) (if b && true then [] else both_edges (edge_context c d.1) d.1)) (sym static) (target_has (edge_context c d.1) d.1 t target))

depended_has : (kind : GraphKind) (m : Module) (c : LoadContext) (ds : List (List ℕ × Dependency)) (d : List ℕ × Dependency) (t : Parts) → module_dependencies m ≡ Some ds → Contains ds d → d.1.is_dynamic ≡ false → IsTarget d.1 t → HasLoad (specifier_text t) (loads_of kind true m c)
unfolding loads_of
depended_has kind (Js m) c ds d t is among static target =
    has_load_left (specifier_text t) (source_map_edges kind m c ++ edges_of true c m.dependencies) (types_edge c m.maybe_types_dependency)
    (has_load_right (specifier_text t) (source_map_edges kind m c) (edges_of true c m.dependencies)
    (static_has c m.dependencies d t (subst (λ (o : Option (List (List ℕ × Dependency))). Contains (unwrap_or o []) d) (sym is) among) static target))
depended_has kind (Wasm m) c ds d t is among static target =
    static_has c m.dependencies d t (subst (λ (o : Option (List (List ℕ × Dependency))). Contains (unwrap_or o []) d) (sym is) among) static target
depended_has kind (Json m) c ds d t is among static target = absurd (cc)
depended_has kind (Npm m) c ds d t is among static target = absurd (cc)
depended_has kind (Node m) c ds d t is among static target = absurd (cc)
depended_has kind (External m) c ds d t is among static target = absurd (cc)

typed_has : (kind : GraphKind) (m : JsModule) (c : LoadContext) (t : TypesDependency) (r : ResolutionResolved) → m.maybe_types_dependency ≡ Some t → t.dependency ≡ Leads r → HasLoad (specifier_text r.specifier) (loads_of kind true (Js m) c)
unfolding loads_of
typed_has kind m c t r e leads = has_load_right (specifier_text r.specifier) (source_map_edges kind m c ++ edges_of true c m.dependencies) (types_edge c m.maybe_types_dependency)
    (subst (λ x. HasLoad (specifier_text r.specifier) (types_edge c x)) (sym e) (subst (λ x. HasLoad (specifier_text r.specifier) (edge_of (types_context c) true x)) (sym leads) (inl refl)))

imported_has : (dynamic : Bool) (imports : List (Parts × GraphImport)) (i : Parts × GraphImport) (d : List ℕ × Dependency) (t : Parts) → Contains imports i → Contains i.1.dependencies d → IsTarget d.1 t → HasLoad (specifier_text t) (import_loads dynamic imports)
imported_has dynamic imports i d t among inside target =
    has_among (λ (i : Parts × GraphImport). import_edges dynamic i.1.dependencies) (specifier_text t) imports i among
    (has_among (λ (d : List ℕ × Dependency). both_edges (import_context dynamic) d.1) (specifier_text t) i.1.dependencies d inside (target_has (import_context dynamic) d.1 t target))

has_text_at : (ss : List Parts) (k : ℕ) (d : Parts) → k < length ss → HasText (specifier_text (get_or ss k d)) ss
has_text_at [] k d below = absurd (omega arith)
has_text_at (s ∷ ss) zero d below = inl refl
has_text_at (s ∷ ss) (suc k) d below = inr (has_text_at ss k d (omega arith))

contains_text : (ss : List Parts) (s : Parts) → Contains ss s → HasText (specifier_text s) ss
contains_text ss s among = subst (λ (x : Parts). HasText (specifier_text x) ss) among.2 (has_text_at ss among.0 s among.1)

both_one : {X : Type 0} (o : Option X) (x y : X) → o ≡ Some x → o ≡ Some y → x ≡ y
both_one o x y e f = let both : Some x ≡ Some y = sym e ∙ f in cc

some_there : {X : Type 0} (o : Option X) → is_some o ≡ true → (x : X) × (o ≡ Some x)
some_there (Some x) t = (x, refl)
some_there None t = absurd (true≢false (sym t))

module _ (told : Told) (given : Given) (begins : RunBegins (fresh_entry told given)) (settled : IsSettledStatically told given) (s : State) (later : Later told given begins settled s) where
  -- a slot at a text that led to a slot stood
  stood_by : {x d : List ℕ} (v : ModuleSlot) → Path later.old x d → stands later.old d ≡ true → finite.get s.graph.slots x ≡ Some v → finite.get later.old.slots x ≡ Some v
  stood_by v (stay {x = x}) t e =
      let there = some_there (finite.get later.old.slots x) t in
      let now = later.past.slots x there.0 there.1 in
      there.1 ∙ ap Some (both_one (finite.get s.graph.slots x) there.0 v now e)
  stood_by v (go {x = x} {t = n} h e r) t f = absurd (true≢false (sym (ap is_some f) ∙ later.past.away x n e h))

  -- a redirect without a slot leads on to where it led
  led_on : {x d : List ℕ} (t : Parts) → Path later.old x d → stands later.old d ≡ true → stands s.graph x ≡ false → finite.get s.graph.redirects x ≡ Some t → Lead later.old nothing (specifier_text t)
  led_on t (stay {x = x}) here none e =
      let there = some_there (finite.get later.old.slots x) here in
      absurd (true≢false (sym (ap is_some (later.past.slots x there.0 there.1)) ∙ none))
  led_on t (go {x = x} {d = d} {t = n} h e r) here none f =
      let same : n ≡ t = both_one (finite.get s.graph.redirects x) n t (later.past.redirects x n e) f in
      record { end = d; way = subst (λ (y : Parts). Path later.old (specifier_text y) d) same r; slot = inl here }

  lead_stands : {x : List ℕ} (l : Lead later.old nothing x) → stands later.old l.end ≡ true
  lead_stands l = ⊎_elim (λ t. t) (λ b. absurd b) l.slot

  met_lead : {x : Parts} → IsMet s.graph x → Lead later.old nothing (specifier_text x)
  met_lead (root {s = x} among) =
      let dynamic = told.known.flags.is_dynamic in
      let start = start_of told.resolving given in
      let text : HasText (specifier_text x) start.roots = subst (λ (b : Start). HasText (specifier_text x) b.roots) later.sound.given (contains_text s.graph.roots x among) in
      later.base.start_leads (specifier_text x) (has_load_left (specifier_text x) (map (root_load dynamic) start.roots) (import_loads dynamic start.imports) (roots_due (root_load dynamic) (λ s. refl) (specifier_text x) start.roots text))
  met_lead (imported {i} {d} {t} among inside target) =
      let dynamic = told.known.flags.is_dynamic in
      let start = start_of told.resolving given in
      later.base.start_leads (specifier_text t) (has_load_right (specifier_text t) (map (root_load dynamic) start.roots) (import_loads dynamic start.imports)
      (subst (λ (b : Start). HasLoad (specifier_text t) (import_loads dynamic b.imports)) later.sound.given (imported_has dynamic s.graph.imports i d t among inside target)))
  met_lead (redirected {s = x} {t = t} met none e) = let l = met_lead met in led_on t l.way (lead_stands l) none e
  met_lead (depended {s = x} {t = t} {m = m} {ds = ds} {d = d} met e is among static target) =
      let l = met_lead met in
      later.base.edges_lead (specifier_text x) (specifier_text t) m (root_context false) (stood_by (Stands m) l.way (lead_stands l) e) (depended_has later.old.kind m (root_context false) ds d t is among static target)
  met_lead (typed {s = x} {m = m} {t = t} {r = r} met e has leads) =
      let l = met_lead met in
      later.base.edges_lead (specifier_text x) (specifier_text r.specifier) (Js m) (root_context false) (stood_by (Stands (Js m)) l.way (lead_stands l) e) (typed_has later.old.kind m (root_context false) t r has leads)

  pub static_later : StaticFirst told given s.graph
  static_later x slot met e = let l = met_lead met in later.base.explained (specifier_text x) slot (stood_by slot l.way (lead_stands l) e)

-- ---- runs

module _ (told : Told) (given : Given) (begins : RunBegins (fresh_entry told given)) (settled : IsSettledStatically told given) where
  -- a run begins in the static phase
  first_started : (run : Run) (sums : Option KnownSums) → RunKept told (fresh_entry told given) begins.run run → ((k sum : List ℕ) → sum_in sums k ≡ Some sum → sum_in (earlier_sums run) k ≡ Some sum)
      → First told given begins settled (start_entered (record (first_state false told.known.flags (new_graph given.kind)) { sums = sums; run = run }) (told_start told (left_of given)))
  unfolding start_entered
  first_started run sums by earlier =
      let o = fresh_entry told given in
      let start = told_start told (left_of given) in
      let s : State = record (first_state false told.known.flags (new_graph given.kind)) { sums = sums; run = run } in
      let t : State = record s { graph = o.graph } in
      let blank = kept_blank told o begins run sums by earlier in
      let still = still_started s start in
      record {
        kept = kept_enter_all told o begins t o.loads blank (loads_reached told o begins) (loads_read told o begins t.files);
        sound = sound_started ⊥ s start refl refl refl refl (new_no_circle given.kind);
        phase = still.is_dynamic ∙ settled.begins;
        statically = static_enter_all told given begins t o.loads blank (loads_reached told o begins) (loads_read told o begins t.files)
            (starts_all IsStatic told.known.flags.is_dynamic (start_of told.resolving given) (λ x. settled.begins) (λ x range y. settled.begins))
            record { slots = λ k v e. absurd (nothing_in_empty k v e); loads = All-nil IsStatic; deferred = All-nil IsStaticWait; waiting = All-nil IsStaticItem; items = tt; chosen = tt };
        part = subst (Sound o ⊥ nothing nothing []) (sym (part_enter_all t o.loads)) (sound_started ⊥ (static_part s) start refl refl refl refl (new_no_circle given.kind));
        none_comes = still.contents;
      }

module _ (told : Told) (given : Given) (settled : AreStaticFirst told given) where
  abbrev start : ResolvedStart
  start = told_start told (left_of given)

  abbrev g : ModuleGraph
  g = new_graph given.kind

  abbrev fresh_begins : (run : Run) → RunBegins (fresh_entry (told_for told run) given)
  fresh_begins run = begins_over told.known.flags.is_dynamic (new_graph given.kind) (told_start told (left_of given)) run

  abbrev settled_in : (run : Run) → IsRunFrom told (new_graph given.kind) (told_start told (left_of given)) run → IsSettledStatically (told_for told run) given
  settled_in run is = settled run (run_begun_of told (new_graph given.kind) (left_of given) run is)

  -- the phase of the run that goes on
  record PhaseInRun (s : State) : Type 0 where
    begun : Run
    is_run : IsRunFrom told (new_graph given.kind) (told_start told (left_of given)) begun
    phase : InPhase (told_for told begun) given (fresh_begins begun) (settled_in begun is_run) s

  phase_begun : PhaseInRun (begun_over told.known g start)
  phase_begun = by (begins_anew g start.roots start.imports) refl
    where
      at : Bool → State
      at b = start_entered (if b then record (resting_state told.known (new_graph given.kind)) { run = FirstRun (told_start told (left_of given)) } else resting_state told.known (new_graph given.kind)) (told_start told (left_of given))

      no_sum : Option KnownSums
      no_sum = if is_some told.known.sums then Some finite.empty else None

      by : (b : Bool) → begins_anew (new_graph given.kind) (told_start told (left_of given)).roots (told_start told (left_of given)).imports ≡ b → PhaseInRun (at b)
      by true t = record {
        begun = FirstRun start;
        is_run = first t;
        phase = inl (first_started (told_for told (FirstRun start)) given (fresh_begins (FirstRun start)) (settled_in (FirstRun start) (first t)) (FirstRun start) no_sum
            (record { asks = refl; serves = refl; stage = same; lacks = λ d. absurd (true≢false (sym d)) })
            (λ k sum e. absurd (no_sums (is_some told.known.sums) k sum e)));
      }
      by false f = record {
        begun = Only;
        is_run = only f;
        phase = inl (first_started (told_for told Only) given (fresh_begins Only) (settled_in Only (only f)) Only no_sum
            (record { asks = refl; serves = refl; stage = same; lacks = λ d. absurd (true≢false (sym d)) })
            (λ k sum e. absurd (no_sums (is_some told.known.sums) k sum e)));
      }

  kept_in : (run : Run) (is : IsRunFrom told (new_graph given.kind) (told_start told (left_of given)) run) (s : State) → InPhase (told_for told run) given (fresh_begins run) (settled_in run is) s → Kept (told_for told run) (fresh_entry (told_for told run) given) (fresh_begins run) s
  kept_in run is s p = ⊎_elim (λ early. early.kept) (λ later. later.kept) p

  -- once more
  phase_second : (s : State) → begins_anew (new_graph given.kind) (told_start told (left_of given)).roots (told_start told (left_of given)).imports ≡ true → s.run ≡ Due (told_start told (left_of given)) → Kept (told_for told (FirstRun (told_start told (left_of given)))) (fresh_entry told given) (fresh_begins (FirstRun (told_start told (left_of given)))) s → PhaseInRun (restarted s)
  phase_second s t is kept =
      let e : Earlier = found_by s in
      let second_run : IsRunFrom told (new_graph given.kind) (told_start told (left_of given)) (Second e) = second t (kept.run.lacks (ap is_due is)) (found_kept (told_for told (FirstRun start)) (fresh_entry told given) (fresh_begins (FirstRun start)) s (ap earlier_sums is) kept) in
      subst PhaseInRun (sym again_is) record {
        begun = Second e;
        is_run = second_run;
        phase = inl (first_started (told_for told (Second e)) given (fresh_begins (Second e)) (settled_in (Second e) second_run) (Second e) s.sums
            (record { asks = refl; serves = refl; stage = same; lacks = λ d. absurd (true≢false (sym d)) })
            (λ k sum x. x));
      }
    where
      again_is : restarted s ≡ start_entered (record (first_state false told.known.flags (new_graph given.kind)) { sums = s.sums; run = Second (found_by s) }) (told_start told (left_of given))
      again_is =
          ap (begun_again s) is
          ∙ ap (λ (f : Flags). start_entered (record (first_state false f (new_graph s.graph.kind)) { sums = s.sums; run = Second (found_by s) }) (told_start told (left_of given))) kept.flags
          ∙ ap (λ (k : GraphKind). start_entered (record (first_state false told.known.flags (new_graph k)) { sums = s.sums; run = Second (found_by s) }) (told_start told (left_of given))) kept.graph.kind

  phase_again : (s : State) → is_due s.run ≡ true → PhaseInRun s → PhaseInRun (restarted s)
  phase_again s d k = by s.run refl (kept_in k.begun k.is_run s k.phase).run.stage
    where
      by : (run : Run) → s.run ≡ run → IsStage k.begun run → PhaseInRun (restarted s)
      by run is same = absurd (true≢false (sym d ∙ ap is_due is ∙ never_due told g start k.begun k.is_run))
      by run is (due_again {start = x} began) =
          let one = first_is told g start k.begun x k.is_run began in
          phase_second s one.0 (is ∙ ap Due one.2)
          (subst (λ r. Kept (told_for told r) (fresh_entry (told_for told r) given) (fresh_begins r) s) one.1 (kept_in k.begun k.is_run s k.phase))

  -- any turn
  phase_turn : (s : State) → PhaseInRun s → PhaseInRun (turn told given.kind s)
  phase_turn s k = ⊎_elim
      (λ no. record {
        begun = k.begun;
        is_run = k.is_run;
        phase = subst (InPhase (told_for told k.begun) given (fresh_begins k.begun) (settled_in k.begun k.is_run)) (sym same_turn)
            (phase_next (told_for told k.begun) given (fresh_begins k.begun) (settled_in k.begun k.is_run) s (next_of s) (how_next s) no k.phase);
      })
      (λ again. subst PhaseInRun (sym (turn_as told given.kind s Restart again.0)) (phase_again s again.1 k))
      (begins_or s (next_of s) (how_next s))
    where
      same_turn : turn told given.kind s ≡ turn_by (told_for told k.begun) given.kind s (next_of s)
      same_turn =
          turn_as told given.kind s (next_of s) refl
          ∙ ap (λ t. turn_by t given.kind s (next_of s)) (told_stage told k.begun s.run (kept_in k.begun k.is_run s k.phase).run.stage)

  phase_turns : (n : ℕ) (s : State) → PhaseInRun s → PhaseInRun (turns told given.kind n s)
  unfolding turns
  phase_turns zero s k = k
  phase_turns (suc n) s k = phase_turn (turns told given.kind n s) (phase_turns n s k)

  outside_of : (s : State) → IsIdle s → IsOutside s
  outside_of s i = record { calm = record { no_note = i.none_noted; no_load = i.none_open; no_file = i.none_wanted; not_due = i.none_due }; no_pass = i.none_passing }

  -- the graph that turns leave has static before dynamic
  pub static_turned : (n : ℕ) → IsIdle (turns told given.kind n (begun_over told.known (new_graph given.kind) (told_start told (left_of given)))) → IsStaticFirst told given (turns told given.kind n (begun_over told.known (new_graph given.kind) (told_start told (left_of given)))).graph
  static_turned n idle =
      let s = turns told given.kind n (begun_over told.known g start) in
      let k = phase_turns n (begun_over told.known g start) phase_begun in
      let t = told_for told k.begun in
      let later = ⊎_elim (λ early. later_of t given (fresh_begins k.begun) (settled_in k.begun k.is_run) s early (outside_of s idle) idle.none_waiting) (λ later. later) k.phase in
      record {
        run = k.begun;
        is_run = run_begun_of told g (left_of given) k.begun k.is_run;
        holds = static_later t given (fresh_begins k.begun) (settled_in k.begun k.is_run) s later;
      }
