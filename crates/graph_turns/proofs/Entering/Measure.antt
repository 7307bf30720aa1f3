-- That what goes on without an answer comes to an end, and how long that takes: a number that each such step lessens.
use Rattle.std.proofs.Common.{◌≡◌, ◌⊎◌, ℕ, suc, zero, ◌+◌, ◌≤◌, ◌<◌, List, [], ◌∷◌, ◌++◌, length, Bool, true, false, ◌||◌, not, if◌then◌else◌, Option, None, Some, is_some, IfSome, option_map, Ok, refl, sym, ap, ◌∙◌, subst, inl, inr, arith, fold, ◌&&◌, ⊎_elim, ◌-◌}
use Rattle.std.proofs.lemmas.List.Elements.{All-cons, All-head, All-nil, All-push, All-tail}
use Rattle.std.specs.List.{All, list_any}
use Rattle.url.specs.Parts.{Parts}
use Rattle.spec_base.specs.Options.{by_option, has_text}
use Rattle.spec_base.specs.Specifier.{specifier_text, same_specifier}
use Rattle.semver_npm.specs.declared.package.PackageNv.{PackageNv}
use Rattle.version_dates.specs.declared.newest_date.NewestDependencyDateOptions.{NewestDependencyDateOptions}
use Rattle.metadata_store.specs.declared.store.JsrMetadataStore.{JsrMetadataStore}
use Rattle.registry_urls.specs.Meaning.{RegistryMeaning}
use Rattle.registry_files.specs.Answers.{FileAnswer}
use Rattle.registry_files.specs.declared.kept_version.KeptVersion.{KeptVersion}
use Rattle.graph_errors.specs.declared.jsr_error.JsrLoadError.{JsrLoadError}
use Rattle.module_slots.specs.declared.load.Load.{Load}
use Rattle.module_slots.specs.declared.load.LoadContext.{LoadContext}
use Rattle.graph_turns.specs.declared.exports.Export.{Export}
use Rattle.graph_turns.specs.declared.passes.Chosen.{Chosen}
use Rattle.graph_turns.specs.declared.passes.Pass.{Pass}
use Rattle.graph_turns.specs.declared.registry.RegistryFile.TheVariants.{Version, PackageAgain, Probe}
use Rattle.graph_turns.specs.declared.run.Run.{Run}
use Rattle.graph_turns.specs.declared.run.Run.TheVariants.{Only, First, Due, Second}
use Rattle.graph_turns.specs.declared.state.State.{State}
use Rattle.graph_turns.specs.declared.waiting.WaitingPackage.{WaitingPackage}
use Rattle.graph_turns.specs.Machine.Probing.{probes}
use Rattle.graph_turns.specs.Machine.Entering.{deferred_with, enter, enter_all, is_pending_asset_at, is_shut, opens_asset, waits_for_asset, with_node}
use Rattle.graph_turns.specs.Machine.Known.{Known}
use Rattle.graph_turns.specs.Machine.Redirects.{redirected_end}
use Rattle.graph_turns.specs.Promise.Packages.{export_of}
use Rattle.graph_turns.specs.Promise.Versions.{answer_in, kept_of}
use Rattle.graph_turns.proofs.Entering.Covered.{In, GraphIn, FailedAt, failed_shut, failed_not_pending, failed_stands, is_failed, fresh, graph_put, graph_same, led_fresh, led_in}
use Rattle.graph_turns.proofs.Entering.Enter.{Entered, how_entered}
use Rattle.graph_turns.proofs.Entering.Enter.Entered.{refused, waits, stood, unstated, node, no_package, no_npm_package, passed_through, stays, awaits, opens, resolves}
use Rattle.graph_turns.proofs.Entering.Lessens.{Below, Ending, Lex, lex_ends, number_ends}
use Rattle.graph_turns.proofs.Entering.Lessens.Lex.{first, second}
use Rattle.graph_turns.proofs.Entering.Silent.{silently, silently_by, wanted_silently}
use Rattle.graph_turns.specs.declared.choosing.Verdict.TheVariants.{Fails, Gets}
use Rattle.graph_errors.specs.declared.errors.ModuleErrorKind.{ModuleErrorKind}
use Rattle.graph_core.specs.declared.graph.ModuleGraph.{ModuleGraph}
use Rattle.module_slots.specs.declared.slot.ModuleSlot.{ModuleSlot}
use Rattle.graph_turns.specs.declared.dependencies.Note.{Note}
use Rattle.graph_turns.specs.declared.next.Next.TheVariants.{Load as ALoad, Notes, Restart, Wanted}
use Rattle.graph_errors.specs.declared.jsr_error.JsrLoadError.TheVariants.{PackageFormat, PackageNotFound, PackageReqNotFound}
use Rattle.semver_npm.specs.declared.npm_error.NpmLoadError.TheVariants.{PackageReqReferenceParse}
use Rattle.module_slots.specs.declared.slot.ModuleSlot.TheVariants.{Pending}
use Rattle.graph_turns.specs.declared.registry.RegistryFile.{RegistryFile}
use Rattle.graph_turns.specs.declared.starting.ResolvedStart.{ResolvedStart}
use Rattle.graph_turns.specs.declared.choosing.Verdict.{Verdict}
use Rattle.std.proofs.lemmas.Bool.{cases_eq, or_cases}
use Rattle.graph_turns.specs.Promise.Slots.{external_slot, node_slot}
use Rattle.module_slots.specs.Slots.{failed_slot}
use Rattle.graph_core.specs.Graph.{has_slot, slot_at, with_slot}
use Rattle.graph_turns.proofs.Entering.Judged.{how_judged, Judges}
use Rattle.indexmap.specs.IndexMap.{insert_entry}
use Rattle.graph_turns.specs.Machine.Runs.{is_due, known_for, wanted_again}
use Rattle.graph_turns.specs.Machine.Choosing.{judged, judged_by, with_choice}
use Rattle.graph_turns.specs.Machine.Next.{next_in, next_of, where_any}
use Rattle.graph_turns.specs.Machine.Waiting.{notes_added, waiting_at, with_noted}
use Rattle.graph_turns.specs.Machine.Passes.{pass_begun, versions_asked, versions_asked_in}
use Rattle.graph_turns.specs.Machine.RegistryFiles.{wanted_kept}
use Rattle.pkg_records.specs.Kept.{with_dependency}
use Rattle.std.specs.FinMap as finite
use Rattle.graph_errors.specs.declared.errors.ModuleLoadError.TheVariants.{Jsr, Npm}
use Rattle.graph_errors.specs.declared.errors.ModuleErrorKind.TheVariants.{Load as LoadFails}
use Rattle.graph_turns.proofs.Entering.Judged.Judges.{asks_again, looks, restarts, unmet, gets, unread, unasked}
use Rattle.graph_turns.proofs.Entering.Next.{IsCalm}
use Rattle.std.specs.Map.{lookup}

-- ---- how many steps there are

module _ (known : Known) (registry : RegistryMeaning) (newest : NewestDependencyDateOptions) (most : ℕ) where
  -- steps without an answer come to an end
  pub data Ends : State → Type 0 where
    stops : {s : State} → silently known registry newest most s ≡ None → Ends s
    goes : {s u : State} → silently known registry newest most s ≡ Some u → Ends u → Ends s

  unfoldable pub steps : {s : State} → Ends s → ℕ
  steps (stops e) = zero
  steps (goes e r) = suc (steps r)

  pub steps_same : {s t : State} → s ≡ t → (a : Ends s) (b : Ends t) → steps a ≡ steps b
  unfolding steps
  steps_same is (stops e) (stops f) = refl
  steps_same is (stops e) (goes {u = v} f r) = absurd (let wrong : None ≡ Some v = sym e ∙ (ap (silently known registry newest most) is ∙ f) in cc)
  steps_same is (goes {u = u} e r) (stops f) = absurd (let wrong : Some u ≡ None = sym e ∙ (ap (silently known registry newest most) is ∙ f) in cc)
  steps_same is (goes {u = u} e r) (goes {u = v} f q) =
      let same : u ≡ v = let both : Some u ≡ Some v = sym e ∙ (ap (silently known registry newest most) is ∙ f) in cc in
      ap suc (steps_same same r q)

-- ---- what a state is covered by

-- where exports of a version lead is in a list
abbrev pub ExportsIn : List Parts → KeptVersion → Type 0
ExportsIn ps v = (name : List ℕ) (e : Export) (to : Parts) → export_of v name ≡ Ok e → e.to ≡ Some to → In ps to

abbrev pub IsItemIn : List Parts → WaitingPackage → Type 0
IsItemIn ps item = In ps item.specifier

pub record IsPassIn (ps : List Parts) (p : Pass) : Type 0 where
  pub items : All (IsItemIn ps) p.items
  pub chosen : All (λ (one : Chosen). IsItemIn ps one.item) p.chosen

-- all that may come is in a list, and what was redirected_end on is known
pub record Held (ps : List Parts) (done : List (List ℕ)) (s : State) : Type 0 where
  pub graph : GraphIn ps done s.graph
  pub loads : All (λ (load : Load). In ps load.specifier) s.loads
  pub deferred : All (λ (e : Parts × LoadContext). In ps e.0) s.deferred
  pub dynamic : All (λ (e : Parts × Load). In ps e.1.specifier) s.dynamic
  pub waiting : All (IsItemIn ps) s.waiting
  pub passing : IfSome s.pass (IsPassIn ps)
  pub files : (nv : PackageNv) (v : KeptVersion) → finite.get s.files nv ≡ Some (Ok v) → ExportsIn ps v

-- the same of a given store
abbrev pub StoreIn : RegistryMeaning → Option JsrMetadataStore → List Parts → Type 0
StoreIn registry store ps = (nv : PackageNv) (answer : FileAnswer) (v : KeptVersion) → answer_in store (Version nv) ≡ Some answer → kept_of registry nv answer ≡ Ok v → ExportsIn ps v

-- ---- ranks

abbrev pub run_rank : Run → ℕ
run_rank Only = 0
run_rank (First start) = 2
run_rank (Due start) = 1
run_rank (Second e) = 0

abbrev pub place_rank : Option Pass → ℕ
place_rank None = 0
place_rank (Some p) = if p.is_entering then 1 else 2 + length p.items

abbrev pub four : ℕ → ℕ
four n = n + n + (n + n)

abbrev pub place : State → ℕ
place s = four (length s.waiting) + place_rank s.pass

-- some specifier was redirected_end on already
abbrev pub is_led : List (List ℕ) → WaitingPackage → Bool
is_led done item = has_text done (specifier_text item.specifier)

abbrev pub any_led : List (List ℕ) → List WaitingPackage → Bool
any_led done items = list_any (is_led done) items

abbrev pub pass_led : List (List ℕ) → Option Pass → Bool
pass_led done None = false
pass_led done (Some p) = any_led done p.items || list_any (λ (one : Chosen). is_led done one.item) p.chosen

abbrev pub weight : List Parts → List (List ℕ) → State → ℕ
weight ps done s = four (fresh ps done) + ((if any_led done s.waiting then 2 else 0) + (if pass_led done s.pass then 1 else 0))

abbrev pub Rank : Type 0
Rank = ℕ × (ℕ × (ℕ × (ℕ × (ℕ × (ℕ × (ℕ × ℕ))))))

abbrev pub rank : List Parts → List (List ℕ) → State → Rank
rank ps done s = (run_rank s.run, (weight ps done s, (length s.dynamic, (length s.deferred, (length s.loads, (place s, (length s.wanted, length s.notes)))))))

abbrev Less2 : ℕ × ℕ → ℕ × ℕ → Type 0
Less2 = Lex Below Below

abbrev Less3 : ℕ × (ℕ × ℕ) → ℕ × (ℕ × ℕ) → Type 0
Less3 = Lex Below Less2

abbrev Less4 : ℕ × (ℕ × (ℕ × ℕ)) → ℕ × (ℕ × (ℕ × ℕ)) → Type 0
Less4 = Lex Below Less3

abbrev Less5 : ℕ × (ℕ × (ℕ × (ℕ × ℕ))) → ℕ × (ℕ × (ℕ × (ℕ × ℕ))) → Type 0
Less5 = Lex Below Less4

abbrev Less6 : ℕ × (ℕ × (ℕ × (ℕ × (ℕ × ℕ)))) → ℕ × (ℕ × (ℕ × (ℕ × (ℕ × ℕ)))) → Type 0
Less6 = Lex Below Less5

abbrev Less7 : ℕ × (ℕ × (ℕ × (ℕ × (ℕ × (ℕ × ℕ))))) → ℕ × (ℕ × (ℕ × (ℕ × (ℕ × (ℕ × ℕ))))) → Type 0
Less7 = Lex Below Less6

abbrev pub Less : Rank → Rank → Type 0
Less = Lex Below Less7

ends2 : (p : ℕ × ℕ) → Ending Less2 p
ends2 p = lex_ends Below Below number_ends p.0 (number_ends p.0) p.1

ends3 : (p : ℕ × (ℕ × ℕ)) → Ending Less3 p
ends3 p = lex_ends Below Less2 ends2 p.0 (number_ends p.0) p.1

ends4 : (p : ℕ × (ℕ × (ℕ × ℕ))) → Ending Less4 p
ends4 p = lex_ends Below Less3 ends3 p.0 (number_ends p.0) p.1

ends5 : (p : ℕ × (ℕ × (ℕ × (ℕ × ℕ)))) → Ending Less5 p
ends5 p = lex_ends Below Less4 ends4 p.0 (number_ends p.0) p.1

ends6 : (p : ℕ × (ℕ × (ℕ × (ℕ × (ℕ × ℕ))))) → Ending Less6 p
ends6 p = lex_ends Below Less5 ends5 p.0 (number_ends p.0) p.1

ends7 : (p : ℕ × (ℕ × (ℕ × (ℕ × (ℕ × (ℕ × ℕ)))))) → Ending Less7 p
ends7 p = lex_ends Below Less6 ends6 p.0 (number_ends p.0) p.1

pub rank_ends : (p : Rank) → Ending Less p
rank_ends p = lex_ends Below Less7 ends7 p.0 (number_ends p.0) p.1

-- a number that isn't more goes first
not_more : {B : Type 0} (less : B → B → Type 0) (p q : ℕ × B) → p.0 ≤ q.0 → less p.1 q.1 → Lex Below less p q
not_more less p q le rest = ⊎_elim (λ lt. first lt) (λ same. second same rest) (lt_or_same p.0 q.0 le)
  where
    lt_or_same : (m n : ℕ) → m ≤ n → (m < n) ⊎ (m ≡ n)
    lt_or_same m n le = ⊎_elim inr (λ ne. inl (omega (arith, le, ne))) (cases_eq m n)

-- ---- what one load that enters leaves

any_push : {A : Type 0} (p : A → Bool) (xs : List A) (x : A) → list_any p (xs ++ x ∷ []) ≡ true → (list_any p xs ≡ true) ⊎ (p x ≡ true)
any_push p [] x e = ⊎_elim inr (λ f. absurd cc) (or_cases (p x) false e)
any_push p (y ∷ ys) x e = ⊎_elim
    (λ t. inl (ap (λ b. b || list_any p ys) t))
    (λ r. ⊎_elim (λ a. inl (or_right (p y) (list_any p ys) a)) inr (any_push p ys x r))
    (or_cases (p y) (list_any p (ys ++ x ∷ [])) e)
  where
    or_right : (a b : Bool) → b ≡ true → (a || b) ≡ true
    or_right true b e = refl
    or_right false b e = e

insert_more : (es : List (Parts × LoadContext)) (s : Parts) (c : LoadContext) → length (insert_entry same_specifier es s c) ≤ length es + 1
insert_more [] s c = omega arith
insert_more (e ∷ es) s c = by (same_specifier s e.0) (insert_more es s c)
  where
    by : (b : Bool) → length (insert_entry same_specifier es s c) ≤ length es + 1 → length (if b then (e.0, c) ∷ es else e ∷ insert_entry same_specifier es s c) ≤ suc (length es) + 1
    by true r = omega arith
    by false r = omega arith

deferred_more : (es : List (Parts × LoadContext)) (s : Parts) (c : LoadContext) → length (deferred_with es s c) ≤ length es + 1
deferred_more es s c = by (is_some (lookup (same_specifier s) es)) (insert_more es s c)
  where
    by : (b : Bool) → length (insert_entry same_specifier es s c) ≤ length es + 1 → length (if b then es else insert_entry same_specifier es s c) ≤ length es + 1
    by true r = omega arith
    by false r = r

module _ (ps : List Parts) (done : List (List ℕ)) where
  insert_in : (es : List (Parts × LoadContext)) (s : Parts) (c : LoadContext) → In ps s → All (λ (e : Parts × LoadContext). In ps e.0) es → All (λ (e : Parts × LoadContext). In ps e.0) (insert_entry same_specifier es s c)
  insert_in [] s c i held = All-cons (λ (e : Parts × LoadContext). In ps e.0) (s, c) [] i (All-nil (λ (e : Parts × LoadContext). In ps e.0))
  insert_in (e ∷ es) s c i held = by (same_specifier s e.0) (insert_in es s c i (All-tail (λ (x : Parts × LoadContext). In ps x.0) e es held))
    where
      now : In ps e.0
      now = All-head (λ (x : Parts × LoadContext). In ps x.0) e es held

      by : (b : Bool) → All (λ (x : Parts × LoadContext). In ps x.0) (insert_entry same_specifier es s c) → All (λ (x : Parts × LoadContext). In ps x.0) (if b then (e.0, c) ∷ es else e ∷ insert_entry same_specifier es s c)
      by true r = All-cons (λ (x : Parts × LoadContext). In ps x.0) (e.0, c) es now (All-tail (λ (x : Parts × LoadContext). In ps x.0) e es held)
      by false r = All-cons (λ (x : Parts × LoadContext). In ps x.0) e (insert_entry same_specifier es s c) now r

  deferred_in : (es : List (Parts × LoadContext)) (s : Parts) (c : LoadContext) → In ps s → All (λ (e : Parts × LoadContext). In ps e.0) es → All (λ (e : Parts × LoadContext). In ps e.0) (deferred_with es s c)
  deferred_in es s c i held = by (is_some (lookup (same_specifier s) es))
    where
      by : (b : Bool) → All (λ (x : Parts × LoadContext). In ps x.0) (if b then es else insert_entry same_specifier es s c)
      by true = held
      by false = insert_in es s c i held

  -- what stays as loads enter, and how few more are deferred; no specifier waits anew that was redirected_end on
  pub record Came (more : ℕ) (s u : State) : Type 0 where
    pub held : Held ps done u
    pub run : u.run ≡ s.run
    pub dynamic : u.dynamic ≡ s.dynamic
    pub pass : u.pass ≡ s.pass
    pub wanted : u.wanted ≡ s.wanted
    pub few : length u.deferred ≤ length s.deferred + more
    pub none_led : any_led done u.waiting ≡ true → any_led done s.waiting ≡ true

  pub came_both : (m k n : ℕ) (s t u : State) → m + k ≤ n → Came m s t → Came k t u → Came n s u
  came_both m k n s t u few a b = record {
    held = b.held;
    run = b.run ∙ a.run;
    dynamic = b.dynamic ∙ a.dynamic;
    pass = b.pass ∙ a.pass;
    wanted = b.wanted ∙ a.wanted;
    few = let x = a.few in let y = b.few in omega (arith, x, y, few);
    none_led = λ redirected_end. a.none_led (b.none_led redirected_end);
  }

  -- the graph alone has changed
  graph_alone : (s : State) (g : ModuleGraph) → GraphIn ps done g → Held ps done s → Held ps done (record s { graph = g })
  graph_alone s g now held = record { graph = now; loads = held.loads; deferred = held.deferred; dynamic = held.dynamic; waiting = held.waiting; passing = held.passing; files = held.files }

  came_graph : (s : State) (g : ModuleGraph) → GraphIn ps done g → Held ps done s → Came 0 s (record s { graph = g })
  came_graph s g now held = record { held = graph_alone s g now held; run = refl; dynamic = refl; pass = refl; wanted = refl; few = omega arith; none_led = λ redirected_end. redirected_end }

  pub came_same : (s : State) → Held ps done s → Came 0 s s
  came_same s held = record { held = held; run = refl; dynamic = refl; pass = refl; wanted = refl; few = omega arith; none_led = λ redirected_end. redirected_end }

  module _ (s : State) (c : LoadContext) (at : Parts) (held : Held ps done s) (is_in : In ps at ⊎ FailedAt s.graph (specifier_text at)) (never_led : has_slot s.graph at ≡ false → has_text done (specifier_text at) ≡ false) where
    -- where no error stands, it is in the list
    in_list : is_failed (slot_at s.graph at) ≡ false → In ps at
    in_list none = ⊎_elim (λ i. i) (λ failed. absurd (let wrong : true ≡ false = sym failed ∙ none in cc)) is_in

    by_failed : (P : Type 0) → (is_failed (slot_at s.graph at) ≡ false → P) → (is_failed (slot_at s.graph at) ≡ true → P) → P
    by_failed P open_there error_there = by (is_failed (slot_at s.graph at)) refl
      where
        by : (b : Bool) → is_failed (slot_at s.graph at) ≡ b → P
        by true e = error_there e
        by false e = open_there e

    open_in : is_shut (slot_at s.graph at) c ≡ false → is_failed (slot_at s.graph at) ≡ false
    open_in free = by_failed (is_failed (slot_at s.graph at) ≡ false) (λ e. e) (λ e. absurd (let wrong : true ≡ false = sym (failed_shut (slot_at s.graph at) c e) ∙ free in cc))

    put_open : (v : ModuleSlot) → is_shut (slot_at s.graph at) c ≡ false → GraphIn ps done (with_slot s.graph at v)
    put_open v free = graph_put ps done s.graph (specifier_text at) v (λ failed. absurd (let wrong : true ≡ false = sym failed ∙ open_in free in cc)) held.graph

    put_error : (kind : ModuleErrorKind) → GraphIn ps done (with_slot s.graph at (failed_slot kind))
    put_error kind = graph_put ps done s.graph (specifier_text at) (failed_slot kind) (λ failed. refl) held.graph

    not_failed : waits_for_asset s c at ≡ true → is_failed (slot_at s.graph at) ≡ false
    not_failed wait = by_failed (is_failed (slot_at s.graph at) ≡ false) (λ e. e) (λ e. absurd (let none : waits_for_asset s c at ≡ false = ap (λ b. not c.asset && (b && list_any (opens_asset at) s.loads)) (failed_not_pending (slot_at s.graph at) e) ∙ and_false (not c.asset) in cc))
      where
        and_false : (b : Bool) → b && false ≡ false
        and_false true = refl
        and_false false = refl

    no_slot : has_slot s.graph at ≡ false → is_failed (slot_at s.graph at) ≡ false
    no_slot none = by_failed (is_failed (slot_at s.graph at) ≡ false) (λ e. e) (λ e. absurd (let wrong : true ≡ false = sym (failed_stands (slot_at s.graph at) e) ∙ none in cc))

    module _ (more : ℕ) (room : waits_for_asset s c at ≡ true → 1 ≤ more) where
      -- the graph alone has changed, and what is noted
      only : (notes : List Note) (g : ModuleGraph) → GraphIn ps done g → Came more s (record s { notes = notes; graph = g })
      only notes g now = record {
        held = record { graph = now; loads = held.loads; deferred = held.deferred; dynamic = held.dynamic; waiting = held.waiting; passing = held.passing; files = held.files };
        run = refl;
        dynamic = refl;
        pass = refl;
        wanted = refl;
        few = omega arith;
        none_led = λ redirected_end. redirected_end;
      }

      came_entered : (u : State) → Entered s c at u → Came more s u
      came_entered u (refused {kind = kind} f) = only s.notes (with_slot s.graph at (failed_slot kind)) (put_error kind)
      came_entered u (unstated {kind = kind} f h e) = only s.notes (with_slot s.graph at (failed_slot kind)) (put_error kind)
      came_entered u (no_package {e = e} f h j named) = only s.notes (with_slot s.graph at (failed_slot (LoadFails at c.range (Jsr (PackageFormat e))))) (put_error (LoadFails at c.range (Jsr (PackageFormat e))))
      came_entered u (no_npm_package {e = e} f h j named) = only s.notes (with_slot s.graph at (failed_slot (LoadFails at c.range (Npm (PackageReqReferenceParse e))))) (put_error (LoadFails at c.range (Npm (PackageReqReferenceParse e))))
      came_entered u (node h n) = only s.notes (with_node s.graph at) (graph_same ps done (with_slot s.graph at (node_slot at)) (with_node s.graph at) refl refl (put_open (node_slot at) h))
      came_entered u (stood {notes = notes} h) = only notes s.graph held.graph
      came_entered u (stays {notes = notes} j h) = only notes s.graph held.graph
      came_entered u (passed_through {notes = notes} f h j named p) = only notes (with_slot s.graph at (external_slot at false)) (put_open (external_slot at false) h)
      came_entered u (waits {notes = notes} h w) = record {
        held = record { graph = held.graph; loads = held.loads; deferred = deferred_in s.deferred at c (in_list (not_failed w)) held.deferred; dynamic = held.dynamic; waiting = held.waiting; passing = held.passing; files = held.files };
        run = refl;
        dynamic = refl;
        pass = refl;
        wanted = refl;
        few = let one = deferred_more s.deferred at c in let some = room w in omega (arith, one, some);
        none_led = λ redirected_end. redirected_end;
      }
      came_entered u (awaits {notes = notes} {r = r} f free j named p) = record {
        held = record { graph = held.graph; loads = held.loads; deferred = held.deferred; dynamic = held.dynamic; waiting = All-push (IsItemIn ps) s.waiting (waiting_at at r c) held.waiting (in_list (no_slot free)); passing = held.passing; files = held.files };
        run = refl;
        dynamic = refl;
        pass = refl;
        wanted = refl;
        few = omega arith;
        none_led = λ redirected_end. ⊎_elim (λ before. before) (λ (now : has_text done (specifier_text at) ≡ true). absurd (let wrong : true ≡ false = sym now ∙ never_led free in cc)) (any_push (is_led done) s.waiting (waiting_at at r c) redirected_end);
      }
      came_entered u (resolves {notes = notes} f h j o named) = record {
        held = record { graph = held.graph; loads = held.loads; deferred = held.deferred; dynamic = held.dynamic; waiting = held.waiting; passing = held.passing; files = held.files };
        run = refl;
        dynamic = refl;
        pass = refl;
        wanted = refl;
        few = omega arith;
        none_led = λ redirected_end. redirected_end;
      }
      came_entered u (opens {notes = notes} f h asked) = record {
        held = record { graph = put_open (Pending c.asset) h; loads = All-push (λ (load : Load). In ps load.specifier) s.loads (record { specifier = at; context = c; is_type = false }) held.loads (in_list (open_in h)); deferred = held.deferred; dynamic = held.dynamic; waiting = held.waiting; passing = held.passing; files = held.files };
        run = refl;
        dynamic = refl;
        pass = refl;
        wanted = refl;
        few = omega arith;
        none_led = λ redirected_end. redirected_end;
      }

  -- one load enters
  pub came_enter : (more : ℕ) (s : State) (load : Load) → (waits_for_asset s load.context (redirected_end s.graph load.specifier) ≡ true → 1 ≤ more) → In ps load.specifier → Held ps done s → Came more s (enter s load)
  came_enter more s load room is_in held =
      came_entered s load.context (redirected_end s.graph load.specifier) held (led_in ps done s.graph load.specifier held.graph (inl is_in)) (led_fresh ps done s.graph load.specifier held.graph) more room (enter s load) (how_entered s load)

  pub came_all : (s : State) (loads : List Load) → All (λ (load : Load). In ps load.specifier) loads → Held ps done s → Came (length loads) s (enter_all s loads)
  unfolding enter_all
  came_all s [] within held = came_same s held
  came_all s (load ∷ loads) within held =
      let one = came_enter 1 s load (λ w. omega arith) (All-head (λ (x : Load). In ps x.specifier) load loads within) held in
      came_both 1 (length loads) (suc (length loads)) s (enter s load) (enter_all (enter s load) loads) (omega arith) one (came_all (enter s load) loads (All-tail (λ (x : Load). In ps x.specifier) load loads within) one.held)

  -- where none is open, the first one doesn't wait
  pub came_first : (s : State) (load : Load) (loads : List Load) → s.loads ≡ [] → All (λ (x : Load). In ps x.specifier) (load ∷ loads) → Held ps done s → Came (length loads) s (enter_all s (load ∷ loads))
  unfolding enter_all
  came_first s load loads none within held =
      let one = came_enter 0 s load (λ w. absurd (none_opens w)) (All-head (λ (x : Load). In ps x.specifier) load loads within) held in
      came_both 0 (length loads) (length loads) s (enter s load) (enter_all (enter s load) loads) (omega arith) one (came_all (enter s load) loads (All-tail (λ (x : Load). In ps x.specifier) load loads within) one.held)
    where
      two_false : (a b : Bool) → a && (b && false) ≡ false
      two_false true true = refl
      two_false true false = refl
      two_false false b = refl

      none_opens : waits_for_asset s load.context (redirected_end s.graph load.specifier) ≡ true → ⊥
      none_opens w = let no : waits_for_asset s load.context (redirected_end s.graph load.specifier) ≡ false = ap (λ (ls : List Load). not load.context.asset && (is_pending_asset_at (slot_at s.graph (redirected_end s.graph load.specifier)) && list_any (opens_asset (redirected_end s.graph load.specifier)) ls)) none ∙ two_false (not load.context.asset) (is_pending_asset_at (slot_at s.graph (redirected_end s.graph load.specifier))) in cc

-- ---- one step

-- packages get dependencies: slots and redirects stay
module _ (registry : RegistryMeaning) where
  noted_slots : (notes : List Note) (g : ModuleGraph) → (fold (with_noted registry) g notes).slots ≡ g.slots
  noted_slots [] g = refl
  noted_slots (note ∷ notes) g = noted_slots notes (with_noted registry g note) ∙ by (registry.nv_of note.referrer)
    where
      by : (o : Option PackageNv) → (by_option o g (λ nv. record g { packages = with_dependency g.packages nv note.dependency })).slots ≡ g.slots
      by None = refl
      by (Some nv) = refl

  noted_redirects : (notes : List Note) (g : ModuleGraph) → (fold (with_noted registry) g notes).redirects ≡ g.redirects
  noted_redirects [] g = refl
  noted_redirects (note ∷ notes) g = noted_redirects notes (with_noted registry g note) ∙ by (registry.nv_of note.referrer)
    where
      by : (o : Option PackageNv) → (by_option o g (λ nv. record g { packages = with_dependency g.packages nv note.dependency })).redirects ≡ g.redirects
      by None = refl
      by (Some nv) = refl

pub weight_less : (few many a b : ℕ) (x y z w : Bool) → few < many → four few + ((if x then 2 else 0) + (if y then 1 else 0)) < four many + ((if z then 2 else 0) + (if w then 1 else 0))
weight_less few many a b x y z w lt = let two = at_most_two x in let one = at_most_one y in omega (arith, lt, two, one)
  where
    at_most_two : (v : Bool) → (if v then 2 else 0) ≤ 2
    at_most_two true = omega arith
    at_most_two false = omega arith

    at_most_one : (v : Bool) → (if v then 1 else 0) ≤ 1
    at_most_one true = omega arith
    at_most_one false = omega arith

pub flag_le : (n : ℕ) (x y : Bool) → (x ≡ true → y ≡ true) → (if x then n else 0) ≤ (if y then n else 0)
flag_le n true y le = let is = le refl in let same : (if y then n else 0) ≡ n = ap (λ (b : Bool). if b then n else 0) is in omega (arith, same)
flag_le n false y le = omega arith

-- the weight isn't more where no specifier more was redirected_end on
pub weight_le : (ps : List Parts) (done : List (List ℕ)) (s u : State) → (any_led done u.waiting ≡ true → any_led done s.waiting ≡ true) → (pass_led done u.pass ≡ true → pass_led done s.pass ≡ true) → weight ps done u ≤ weight ps done s
weight_le ps done s u waiting_led passes =
    let first_part = flag_le 2 (any_led done u.waiting) (any_led done s.waiting) waiting_led in
    let second_part = flag_le 1 (pass_led done u.pass) (pass_led done s.pass) passes in
    omega (arith, first_part, second_part)

module _ (known : Known) (registry : RegistryMeaning) (newest : NewestDependencyDateOptions) (most : ℕ) (ps : List Parts) (done : List (List ℕ)) where
  -- what a step leads to: an end, a run that begins once more, or less
  pub data Onward (s u : State) : Type 0 where
    stopped : silently known registry newest most u ≡ None → Onward s u
    again : run_rank u.run < run_rank s.run → Onward s u
    less : {now : List (List ℕ)} → Held ps now u → Less (rank ps now u) (rank ps done s) → Onward s u

  -- less, where the run and what stands before stay
  pub less_rest : (s u : State) → Held ps done u → u.run ≡ s.run → weight ps done u ≤ weight ps done s → Less6 (rank ps done u).1.1 (rank ps done s).1.1 → Onward s u
  less_rest s u held run le rest = less held (second (ap run_rank run) (not_more Less6 (rank ps done u).1 (rank ps done s).1 le rest))

  -- less, where loads stay
  pub less_place : (s u : State) → Held ps done u → u.run ≡ s.run → weight ps done u ≤ weight ps done s → u.dynamic ≡ s.dynamic → u.deferred ≡ s.deferred → u.loads ≡ s.loads → Less3 (rank ps done u).1.1.1.1.1 (rank ps done s).1.1.1.1.1 → Onward s u
  less_place s u held run le dynamic_is deferred_is loads_are rest = less_rest s u held run le (second (ap length dynamic_is) (second (ap length deferred_is) (second (ap length loads_are) rest)))

  -- ---- notes

  pub by_notes : (s : State) (note : Note) (others : List Note) → s.notes ≡ note ∷ others → Held ps done s → Onward s (notes_added registry s)
  by_notes s note others here held =
      let now : Held ps done (notes_added registry s) = record {
        graph = graph_same ps done s.graph (fold (with_noted registry) s.graph s.notes) (noted_slots registry s.notes s.graph) (noted_redirects registry s.notes s.graph) held.graph;
        loads = held.loads;
        deferred = held.deferred;
        dynamic = held.dynamic;
        waiting = held.waiting;
        passing = held.passing;
        files = held.files;
      } in
      let count : length s.notes ≡ suc (length others) = ap length here in
      less_place s (notes_added registry s) now refl (omega arith) refl refl refl (second refl (second refl (omega (arith, count))))

  -- ---- passes

  begin_place : (s : State) (first_waits : WaitingPackage) (others : List WaitingPackage) → s.pass ≡ None → s.waiting ≡ first_waits ∷ others → place (pass_begun s) < place s
  begin_place s first_waits others none here =
      let count : length s.waiting ≡ suc (length others) = ap length here in
      let before : place_rank s.pass ≡ 0 = ap place_rank none in
      omega (arith, count, before)

  pub by_waiting : (s : State) (first_waits : WaitingPackage) (others : List WaitingPackage) → s.pass ≡ None → s.waiting ≡ first_waits ∷ others → Held ps done s → Onward s (pass_begun s)
  by_waiting s first_waits others none here held =
      let now : Held ps done (pass_begun s) = record {
        graph = held.graph;
        loads = held.loads;
        deferred = held.deferred;
        dynamic = held.dynamic;
        waiting = All-nil (IsItemIn ps);
        passing = record { items = held.waiting; chosen = All-nil (λ (c : Chosen). IsItemIn ps c.item) };
        files = held.files;
      } in
      less_place s (pass_begun s) now refl (lighter (any_led done s.waiting) refl) refl refl refl (first (begin_place s first_waits others none here))
    where
      lighter : (b : Bool) → any_led done s.waiting ≡ b → weight ps done (pass_begun s) ≤ weight ps done s
      lighter true redirected_end =
          let now : ◌≡◌ {A = ℕ} (if (any_led done s.waiting || false) then 1 else 0) 1 = ap (λ (b : Bool). if (b || false) then 1 else 0) redirected_end in
          let before : ◌≡◌ {A = ℕ} (if any_led done s.waiting then 2 else 0) 2 = ap (λ (b : Bool). if b then 2 else 0) redirected_end in
          omega (arith, now, before)
      lighter false redirected_end =
          let now : ◌≡◌ {A = ℕ} (if (any_led done s.waiting || false) then 1 else 0) 0 = ap (λ (b : Bool). if (b || false) then 1 else 0) redirected_end in
          omega (arith, now)

  pub by_versions : (s : State) (p : Pass) → s.pass ≡ Some p → p.is_entering ≡ false → p.items ≡ [] → Held ps done s → Onward s (versions_asked s)
  by_versions s p goes_on not_yet none held = subst (Onward s) (sym (ap (versions_asked_in s) goes_on)) (
      let passing : IsPassIn ps p = subst (λ (o : Option Pass). IfSome o (IsPassIn ps)) goes_on held.passing in
      let now : Held ps done (versions_asked_in s (Some p)) = record {
        graph = held.graph;
        loads = held.loads;
        deferred = held.deferred;
        dynamic = held.dynamic;
        waiting = held.waiting;
        passing = record { items = passing.items; chosen = passing.chosen };
        files = held.files;
      } in
      let before : place_rank s.pass ≡ 2 + length p.items = ap place_rank goes_on ∙ ap (λ (b : Bool). if b then 1 else 2 + length p.items) not_yet in
      less_place s (versions_asked_in s (Some p)) now refl (weight_le ps done s (versions_asked_in s (Some p)) (λ redirected_end. redirected_end) (λ redirected_end. ap (pass_led done) goes_on ∙ redirected_end)) refl refl refl
      (first (omega (arith, before))))

  -- an item leaves the pass
  module _ (s : State) (p : Pass) (one : WaitingPackage) (others : List WaitingPackage) (goes_on : s.pass ≡ Some p) (not_yet : p.is_entering ≡ false) (items : p.items ≡ one ∷ others) (held : Held ps done s) where
    passing_now : IsPassIn ps p
    passing_now = subst (λ (o : Option Pass). IfSome o (IsPassIn ps)) goes_on held.passing

    items_in : All (IsItemIn ps) (one ∷ others)
    items_in = subst (All (IsItemIn ps)) items passing_now.items

    item_in : In ps one.specifier
    item_in = All-head (IsItemIn ps) one others items_in

    fewer_items : (chosen : List Chosen) → place (record s { pass = Some (record p { items = others; chosen = chosen }) }) < place s
    fewer_items chosen =
        let before : place_rank s.pass ≡ 2 + length p.items = ap place_rank goes_on ∙ ap (λ (b : Bool). if b then 1 else 2 + length p.items) not_yet in
        let after : place_rank (Some (record p { items = others; chosen = chosen })) ≡ 2 + length others = ap (λ (b : Bool). if b then 1 else 2 + length others) not_yet in
        let count : length p.items ≡ suc (length others) = ap length items in
        omega (arith, before, after, count)

    led_before : pass_led done (Some p) ≡ true → pass_led done s.pass ≡ true
    led_before redirected_end = ap (pass_led done) goes_on ∙ redirected_end

    or_swap : (a b c : Bool) → b || (c || a) ≡ true → (a || b) || c ≡ true
    or_swap true b c e = refl
    or_swap false true c e = refl
    or_swap false false true e = refl
    or_swap false false false e = e

    or_last : (a b c : Bool) → (b ≡ true) ⊎ (c ≡ true) → a || (b || c) ≡ true
    or_last true b c e = refl
    or_last false true c e = refl
    or_last false false c (inl e) = absurd cc
    or_last false false c (inr e) = e

    led_of_item : pass_led done (Some p) ≡ ((is_led done one || any_led done others) || list_any (λ (c : Chosen). is_led done c.item) p.chosen)
    led_of_item = ap (λ (xs : List WaitingPackage). any_led done xs || list_any (λ (c : Chosen). is_led done c.item) p.chosen) items

    by_gets : (nv : PackageNv) (yanked : Bool) → Onward s (judged_by s p one others (Gets nv yanked))
    by_gets nv yanked =
        let now : Held ps done (judged_by s p one others (Gets nv yanked)) = record {
          graph = graph_same ps done s.graph (with_choice s.graph one.req nv yanked) refl refl held.graph;
          loads = held.loads;
          deferred = held.deferred;
          dynamic = held.dynamic;
          waiting = held.waiting;
          passing = record { items = All-tail (IsItemIn ps) one others items_in; chosen = All-push (λ (c : Chosen). IsItemIn ps c.item) p.chosen (record { item = one; nv = nv }) passing_now.chosen item_in };
          files = held.files;
        } in
        less_place s (judged_by s p one others (Gets nv yanked)) now refl
        (weight_le ps done s (judged_by s p one others (Gets nv yanked)) (λ redirected_end. redirected_end) (λ redirected_end. led_before (led_of_item ∙ still_led redirected_end)))
        refl refl refl (first (fewer_items (p.chosen ++ record { item = one; nv = nv } ∷ [])))
      where
        still_led : any_led done others || list_any (λ (c : Chosen). is_led done c.item) (p.chosen ++ record { item = one; nv = nv } ∷ []) ≡ true → (is_led done one || any_led done others) || list_any (λ (c : Chosen). is_led done c.item) p.chosen ≡ true
        still_led redirected_end = ⊎_elim
            (λ rest. or_swap (is_led done one) (any_led done others) (list_any (λ (c : Chosen). is_led done c.item) p.chosen) (ap (λ (b : Bool). b || (list_any (λ (c : Chosen). is_led done c.item) p.chosen || is_led done one)) rest))
            (λ chosen. ⊎_elim
            (λ before. or_swap (is_led done one) (any_led done others) (list_any (λ (c : Chosen). is_led done c.item) p.chosen) (or_last (any_led done others) (list_any (λ (c : Chosen). is_led done c.item) p.chosen) (is_led done one) (inl before)))
            (λ now. or_swap (is_led done one) (any_led done others) (list_any (λ (c : Chosen). is_led done c.item) p.chosen) (or_last (any_led done others) (list_any (λ (c : Chosen). is_led done c.item) p.chosen) (is_led done one) (inr now)))
            (any_push (λ (c : Chosen). is_led done c.item) p.chosen (record { item = one; nv = nv }) chosen))
            (or_cases (any_led done others) (list_any (λ (c : Chosen). is_led done c.item) (p.chosen ++ record { item = one; nv = nv } ∷ [])) redirected_end)

    by_fails : (e : JsrLoadError) → Onward s (judged_by s p one others (Fails e))
    by_fails e =
        let now : Held ps done (judged_by s p one others (Fails e)) = record {
          graph = graph_put ps done s.graph (specifier_text one.specifier) (failed_slot (LoadFails one.specifier one.context.range (Jsr e))) (λ failed. refl) held.graph;
          loads = held.loads;
          deferred = held.deferred;
          dynamic = held.dynamic;
          waiting = held.waiting;
          passing = record { items = All-tail (IsItemIn ps) one others items_in; chosen = passing_now.chosen };
          files = held.files;
        } in
        less_place s (judged_by s p one others (Fails e)) now refl
        (weight_le ps done s (judged_by s p one others (Fails e)) (λ redirected_end. redirected_end) (λ redirected_end. led_before (led_of_item ∙ or_first (is_led done one) (any_led done others) (list_any (λ (c : Chosen). is_led done c.item) p.chosen) redirected_end)))
        refl refl refl (first (fewer_items p.chosen))
      where
        or_first : (a b c : Bool) → b || c ≡ true → (a || b) || c ≡ true
        or_first true b c e = refl
        or_first false b c e = e

    by_restarts : (start : ResolvedStart) → s.run ≡ First start → Onward s (record s { run = wanted_again s.run })
    by_restarts start is =
        let now : Held ps done (record s { run = wanted_again s.run }) = record { graph = held.graph; loads = held.loads; deferred = held.deferred; dynamic = held.dynamic; waiting = held.waiting; passing = held.passing; files = held.files } in
        let before : run_rank s.run ≡ 2 = ap run_rank is in
        let after : run_rank (wanted_again s.run) ≡ 1 = ap (λ (r : Run). run_rank (wanted_again r)) is in
        less now (first (omega (arith, before, after)))

    -- a file that no store has
    by_unstored : IsCalm s → (file : RegistryFile) (files : List RegistryFile) → ((store : Option JsrMetadataStore) → answer_in store file ≡ None) → Onward s (record s { wanted = s.wanted ++ file ∷ files })
    by_unstored calm file files none = stopped (silent_as ∙ ap (option_map (wanted_kept registry asks)) (none (known_for known s.run).store))
      where
        asks : State
        asks = record s { wanted = s.wanted ++ file ∷ files }

        wants : asks.wanted ≡ file ∷ files
        wants = ap (λ (before : List RegistryFile). before ++ file ∷ files) calm.no_file

        comes : next_of asks ≡ Wanted
        comes =
            ap (λ (ns : List Note). where_any ns Notes (where_any asks.loads ALoad (where_any asks.wanted Wanted (if is_due asks.run then Restart else next_in asks asks.pass)))) calm.no_note
            ∙ (ap (λ (ls : List Load). where_any ls ALoad (where_any asks.wanted Wanted (if is_due asks.run then Restart else next_in asks asks.pass))) calm.no_load
            ∙ ap (λ (fs : List RegistryFile). where_any fs Wanted (if is_due asks.run then Restart else next_in asks asks.pass)) wants)

        silent_as : silently known registry newest most asks ≡ option_map (wanted_kept registry asks) (answer_in (known_for known s.run).store file)
        silent_as = ap (silently_by (known_for known asks.run) registry newest most asks) comes ∙ ap (wanted_silently (known_for known asks.run) registry asks) wants

    none_again : (name : List ℕ) (store : Option JsrMetadataStore) → answer_in store (PackageAgain name) ≡ None
    none_again name None = refl
    none_again name (Some own) = refl

    none_probed : (nv : PackageNv) (store : Option JsrMetadataStore) → answer_in store (Probe nv) ≡ None
    none_probed nv None = refl
    none_probed nv (Some own) = refl

    pub by_item : IsCalm s → Onward s (judged newest s)
    by_item calm = let how = how_judged newest s p one others goes_on items in subst (Onward s) (sym how.is) (by_verdict how.verdict how.by)
      where
        by_verdict : (v : Verdict) → Judges newest s p one others v → Onward s (judged_by s p one others v)
        by_verdict v (asks_again file over none only_one not_again) = by_unstored calm (PackageAgain one.req.name) [] (none_again one.req.name)
        by_verdict v (looks {nv = nv} {nvs = nvs} file are) = by_unstored calm (Probe nv) (probes nvs) (none_probed nv)
        by_verdict v (restarts {start = start} file over none is) = by_restarts start is
        by_verdict v (unmet {e = e} file over none so) = by_fails (PackageReqNotFound e)
        by_verdict v (gets {yanked = yanked} {version = version} file over is) = by_gets (record { name = one.req.name; version = version }) yanked
        by_verdict v (unread {e = e} file) = by_fails e
        by_verdict v (unasked file) = by_fails (PackageNotFound one.req.name)
