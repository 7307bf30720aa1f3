-- A graph in which the `npm:` specifiers that waited have got their slots: what is new in it, what stays, and where redirects lead.
use Rattle.std.proofs.Common.{◌≡◌, ◌≢◌, ℕ, List, [], ◌∷◌, ◌++◌, map, Bool, true, false, cond, not, Option, None, Some, is_some, Result, Ok, Err, get_or, if◌then◌else◌, refl, sym, ap, ◌∙◌, subst, inl, inr, ◌⊎◌, ⊎_elim}
use Rattle.std.specs.Prelude.{filter, All, Contains, ⊤}
use Rattle.std.specs.FinMap as finite
use Rattle.std.proofs.lemmas.Bool.{cases_Bool, true≢false}
use Rattle.std.proofs.lemmas.List.{map-append}
use Rattle.std.proofs.lemmas.List.Elements.{All-append, All-contains, All-contains_itself, All-filter, All-head, All-map, filter_passes}
use Rattle.url.specs.Parts.{Parts}
use Rattle.spec_base.specs.Shown.{text_cmp}
use Rattle.spec_base.specs.Specifier.{specifier_text}
use Rattle.spec_base.specs.declared.refusal.Fault.{Fault}
use Rattle.npm_resolver.specs.declared.types.NpmTable.{NpmTable}
use Rattle.semver_npm.specs.declared.reference.NpmPackageReqReference.{NpmPackageReqReference}
use Rattle.graph_dependencies.specs.declared.graph_kind.GraphKind.{GraphKind}
use Rattle.graph_errors.specs.declared.errors.ModuleErrorKind.TheVariants.{Load as LoadFails}
use Rattle.graph_errors.specs.declared.errors.ModuleLoadError.TheVariants.{Npm as NpmFails}
use Rattle.graph_core.specs.Edges.{loads_of}
use Rattle.graph_core.specs.Graph.{has_slot, with_slot}
use Rattle.module_slots.specs.Slots.{is_asset_slot, is_pending}
use Rattle.graph_core.specs.declared.graph.ModuleGraph.{ModuleGraph}
use Rattle.module_slots.specs.declared.load.LoadContext.{LoadContext}
use Rattle.module_slots.specs.declared.slot.Module.{Module}
use Rattle.module_slots.specs.declared.slot.Module.TheVariants.{Npm}
use Rattle.module_slots.specs.declared.slot.ModuleSlot.{ModuleSlot}
use Rattle.module_slots.specs.declared.slot.ModuleSlot.TheVariants.{Module as Stands, Pending}
use Rattle.graph_core.proofs.At.{cases_text, put_same, put_other}
use Rattle.module_slots.specs.declared.npm_load.NpmLoad.{NpmLoad}
use Rattle.graph_turns.specs.declared.state.State.{State}
use Rattle.graph_turns.specs.Machine.Npm.{ended_graph, IsEnded}
use Rattle.graph_core.specs.Npm.{asks_npm_graph, dynamic_npm, npm_order, npm_put, npm_put_all, npm_settled, npm_told, static_npm, told_npm, told_npm_graph, told_npm_results, with_npm_graph, IsNpmSettled, NpmResult, npm_result, npm_slot, told_npm_slot}
use Rattle.graph_turns.specs.Machine.Npm.IsEnded.{as_it_is, settled}
use Rattle.graph_turns.specs.Promise.Explains.{Explains, IsExplained}
use Rattle.graph_turns.specs.Promise.Explains.Explains.{npm_resolved}
use Rattle.graph_turns.specs.Promise.Input.{EnteredGraph, starts}
use Rattle.turn_laws.specs.Promise.Keeps.{IsReachedNpm}
use Rattle.graph_turns.specs.Promise.Told.{Told}
use Rattle.graph_turns.proofs.Entering.Loads.{HasLoad}
use Rattle.turn_laws.proofs.Entering.Placed.{not_pending}
use Rattle.graph_turns.proofs.Leading.Ends.{stands}
use Rattle.turn_laws.proofs.Leading.Paths.{End, Lead, path_slot}
use Rattle.graph_turns.proofs.Leading.Ways.{put_at, slot_put}
use Rattle.turn_laws.proofs.Promise.Sound.{HasNpm, IsAlone, end_as, end_put, failed_alone, has_npm_left, lead_over, lead_put, nothing, stands_put}
use Rattle.npm_settling.proofs.EndLemmas.{each_given}
use Rattle.turn_laws.proofs.Promise.SoundEnds.{contains_later}

-- ---- the slots that they get

-- none is pending
pub npm_final : (s : Parts) (c : LoadContext) (r : NpmPackageReqReference) (said : NpmResult) → is_pending (npm_slot s c r said) ≡ false
npm_final s c r (Ok v) = refl
npm_final s c r (Err e) = refl

-- none is one of a module that is at hand alone
pub npm_plain : (s : Parts) (c : LoadContext) (r : NpmPackageReqReference) (said : NpmResult) → is_asset_slot (npm_slot s c r said) ≡ false
npm_plain s c r (Ok v) = refl
npm_plain s c r (Err e) = refl

-- none has edges
pub npm_alone : (s : Parts) (c : LoadContext) (r : NpmPackageReqReference) (said : NpmResult) → IsAlone (npm_slot s c r said)
unfolding loads_of
npm_alone s c r (Ok v) m kind skip d k e h =
    let one : Npm (record { specifier = s; pkg_req_ref = r }) ≡ m = cc in
    subst (λ (x : Module). HasLoad k (loads_of kind skip x d)) (sym one) h
npm_alone s c r (Err e) m kind skip d k is h = failed_alone (LoadFails s c.range (NpmFails e)) m kind skip d k is h

abbrev pub text_at : NpmLoad × NpmResult → List ℕ
text_at e = specifier_text e.0.specifier

abbrev pub slot_for : NpmLoad × NpmResult → ModuleSlot
slot_for e = npm_slot e.0.specifier e.0.context e.0.reference e.1

-- ---- one gets its slot

-- a slot stands there, or it gets its own
put_cases : (g : ModuleGraph) (e : NpmLoad × NpmResult) → ((stands g (text_at e) ≡ true) × (npm_put g e ≡ g)) ⊎ ((stands g (text_at e) ≡ false) × (npm_put g e ≡ put_at g (text_at e) (slot_for e)))
put_cases g e = ⊎_elim
    (λ t. inl (t, ap (λ b. if b then g else put_at g (text_at e) (slot_for e)) t))
    (λ f. inr (f, ap (λ b. if b then g else put_at g (text_at e) (slot_for e)) f))
    (cases_Bool (stands g (text_at e)))

module _ (g : ModuleGraph) (e : NpmLoad × NpmResult) (P : ModuleGraph → Type 0) where
  by_put : (stands g (text_at e) ≡ true → P g) → (stands g (text_at e) ≡ false → P (put_at g (text_at e) (slot_for e))) → P (npm_put g e)
  by_put stays puts = ⊎_elim (λ a. subst P (sym a.1) (stays a.0)) (λ a. subst P (sym a.1) (puts a.0)) (put_cases g e)

-- a graph without its slots, and without the result of the graph of all packages
abbrev pub bare : ModuleGraph → ModuleGraph
bare g = record g { slots = finite.empty; npm_dep_graph_result = Ok tt }

bare_put : (g : ModuleGraph) (e : NpmLoad × NpmResult) → bare (npm_put g e) ≡ bare g
bare_put g e = by_put g e (λ u. bare u ≡ bare g) (λ t. refl) (λ f. refl)

some_stands : (o : Option ModuleSlot) (v : ModuleSlot) → o ≡ Some v → is_some o ≡ true
some_stands o v e = ap is_some e

put_still : (g : ModuleGraph) (e : NpmLoad × NpmResult) (k : List ℕ) (v : ModuleSlot) → finite.get g.slots k ≡ Some v → finite.get (npm_put g e).slots k ≡ Some v
put_still g e k v is = by_put g e (λ u. finite.get u.slots k ≡ Some v) (λ t. is)
    (λ f. ⊎_elim
    (λ same. absurd (true≢false (sym (some_stands (finite.get g.slots k) v is) ∙ ap (stands g) same ∙ f)))
    (λ ne. put_other g.slots (text_at e) (slot_for e) k ne ∙ is)
    (cases_text k (text_at e)))

put_from : (g : ModuleGraph) (e : NpmLoad × NpmResult) (k : List ℕ) (v : ModuleSlot) → finite.get (npm_put g e).slots k ≡ Some v → (finite.get g.slots k ≡ Some v) ⊎ ((k ≡ text_at e) × (v ≡ slot_for e))
put_from g e k v = by_put g e (λ u. finite.get u.slots k ≡ Some v → (finite.get g.slots k ≡ Some v) ⊎ ((k ≡ text_at e) × (v ≡ slot_for e))) (λ t is. inl is)
    (λ f is. ⊎_elim
    (λ same. inr (same, (let there = subst (λ z. finite.get (finite.insert g.slots (text_at e) (slot_for e)) z ≡ Some v) same is in let put = put_same g.slots (text_at e) (slot_for e) in cc)))
    (λ ne. inl (sym (put_other g.slots (text_at e) (slot_for e) k ne) ∙ is))
    (cases_text k (text_at e)))

put_stands : (g : ModuleGraph) (e : NpmLoad × NpmResult) → stands (npm_put g e) (text_at e) ≡ true
put_stands g e = by_put g e (λ u. stands u (text_at e) ≡ true) (λ t. t) (λ f. slot_put g (text_at e) (slot_for e))

put_keeps : (g : ModuleGraph) (e : NpmLoad × NpmResult) (k : List ℕ) → stands g k ≡ true → stands (npm_put g e) k ≡ true
put_keeps g e k there = by_put g e (λ u. stands u k ≡ true) (λ t. there) (λ f. stands_put g (text_at e) (slot_for e) k there)

put_ends : (g : ModuleGraph) (e : NpmLoad × NpmResult) (x : List ℕ) → End g x → End (npm_put g e) x
put_ends g e x end = by_put g e (λ u. End u x) (λ t. end) (λ f. end_put g (text_at e) (slot_for e) x end)

put_lead : (g : ModuleGraph) (e : NpmLoad × NpmResult) (items : List NpmLoad) (x : List ℕ) → Lead g (λ k. HasNpm k (e.0 ∷ items)) x → Lead (npm_put g e) (λ k. HasNpm k items) x
put_lead g e items x lead = by_put g e (λ u. Lead u (λ k. HasNpm k items) x)
    (λ t. record {
      end = lead.end;
      way = lead.way;
      slot = ⊎_elim inl (λ l. ⊎_elim (λ same. inl (ap (stands g) same ∙ t)) inr l) lead.slot;
    })
    (λ f. lead_put g (text_at e) (slot_for e) (λ k. HasNpm k (e.0 ∷ items)) (λ k. HasNpm k items) x (λ k ne l. ⊎_elim (λ same. absurd (ne same)) (λ r. r) l) lead)

-- ---- all get theirs

bare_all : (results : List (NpmLoad × NpmResult)) (g : ModuleGraph) → bare (npm_put_all g results) ≡ bare g
bare_all [] g = refl
bare_all (e ∷ results) g = bare_all results (npm_put g e) ∙ bare_put g e

still_all : (results : List (NpmLoad × NpmResult)) (g : ModuleGraph) (k : List ℕ) (v : ModuleSlot) → finite.get g.slots k ≡ Some v → finite.get (npm_put_all g results).slots k ≡ Some v
still_all [] g k v is = is
still_all (e ∷ results) g k v is = still_all results (npm_put g e) k v (put_still g e k v is)

-- a slot of one of these results
abbrev pub IsNew : List (NpmLoad × NpmResult) → List ℕ → ModuleSlot → Type 0
IsNew results k v = (e : NpmLoad × NpmResult) × Contains results e × (k ≡ text_at e) × (v ≡ slot_for e)

from_all : (results : List (NpmLoad × NpmResult)) (g : ModuleGraph) (k : List ℕ) (v : ModuleSlot) → finite.get (npm_put_all g results).slots k ≡ Some v → (finite.get g.slots k ≡ Some v) ⊎ IsNew results k v
from_all [] g k v is = inl is
from_all (e ∷ results) g k v is = ⊎_elim
    (λ was. ⊎_elim inl (λ n. inr (e, All-head (Contains (e ∷ results)) e results (All-contains_itself (e ∷ results)), n.0, n.1)) (put_from g e k v was))
    (λ n. inr (n.0, contains_later e n.0 results n.1, n.2, n.3))
    (from_all results (npm_put g e) k v is)

kept_all : (results : List (NpmLoad × NpmResult)) (g : ModuleGraph) (k : List ℕ) → stands g k ≡ true → stands (npm_put_all g results) k ≡ true
kept_all [] g k there = there
kept_all (e ∷ results) g k there = kept_all results (npm_put g e) k (put_keeps g e k there)

-- the specifiers of some results
abbrev pub loads_in : List (NpmLoad × NpmResult) → List NpmLoad
loads_in results = map (λ e. e.0) results

stand_all : (results : List (NpmLoad × NpmResult)) (g : ModuleGraph) (k : List ℕ) → HasNpm k (loads_in results) → stands (npm_put_all g results) k ≡ true
stand_all [] g k h = absurd h
stand_all (e ∷ results) g k (inl same) = kept_all results (npm_put g e) k (ap (stands (npm_put g e)) same ∙ put_stands g e)
stand_all (e ∷ results) g k (inr h) = stand_all results (npm_put g e) k h

ends_all : (results : List (NpmLoad × NpmResult)) (g : ModuleGraph) (x : List ℕ) → End g x → End (npm_put_all g results) x
ends_all [] g x end = end
ends_all (e ∷ results) g x end = ends_all results (npm_put g e) x (put_ends g e x end)

lead_all : (results : List (NpmLoad × NpmResult)) (g : ModuleGraph) (x : List ℕ) → Lead g (λ k. HasNpm k (loads_in results)) x → Lead (npm_put_all g results) nothing x
lead_all [] g x lead = lead
lead_all (e ∷ results) g x lead = lead_all results (npm_put g e) x (put_lead g e (loads_in results) x lead)

-- ---- their order

-- each of them stands among those that aren't met behind a dynamic import, or among those that are
in_order : (k : List ℕ) (items : List NpmLoad) → HasNpm k items → HasNpm k (npm_order items)
in_order k items h = ⊎_elim (has_npm_left k (static_npm items) (dynamic_npm items)) (has_npm_right k (static_npm items) (dynamic_npm items)) (in_either items h)
  where
    has_npm_right : (k : List ℕ) (front items : List NpmLoad) → HasNpm k items → HasNpm k (front ++ items)
    has_npm_right k [] items h = h
    has_npm_right k (i ∷ front) items h = inr (has_npm_right k front items h)

    in_either : (items : List NpmLoad) → HasNpm k items → HasNpm k (static_npm items) ⊎ HasNpm k (dynamic_npm items)
    in_either [] h = absurd h
    in_either (i ∷ items) h = by i.context.is_dynamic (in_either items) h
      where
        by : (b : Bool) → (HasNpm k items → HasNpm k (static_npm items) ⊎ HasNpm k (dynamic_npm items)) → HasNpm k (i ∷ items) → HasNpm k (cond (not b) (i ∷ static_npm items) (static_npm items)) ⊎ HasNpm k (cond b (i ∷ dynamic_npm items) (dynamic_npm items))
        by true rest (inl e) = inr (inl e)
        by true rest (inr r) = ⊎_elim inl (λ d. inr (inr d)) (rest r)
        by false rest (inl e) = inl (inl e)
        by false rest (inr r) = ⊎_elim (λ s. inl (inr s)) inr (rest r)

-- ---- a settled graph

module _ (table : Option NpmTable) (items : List NpmLoad) (g u : ModuleGraph) (settles : IsNpmSettled table items g u) where
  abbrev before : ModuleGraph
  before = with_npm_graph g settles.graph

  slots_before : (o : Option (Result ⊤ Fault)) → (with_npm_graph g o).slots ≡ g.slots
  slots_before None = refl
  slots_before (Some r) = refl

  redirects_before : (o : Option (Result ⊤ Fault)) → (with_npm_graph g o).redirects ≡ g.redirects
  redirects_before None = refl
  redirects_before (Some r) = refl

  get_before : (k : List ℕ) → finite.get before.slots k ≡ finite.get g.slots k
  get_before k = ap (λ (m : finite.FinMap text_cmp ModuleSlot). finite.get m k) (slots_before settles.graph)

  bare_before : (o : Option (Result ⊤ Fault)) → bare (with_npm_graph g o) ≡ bare g
  bare_before None = refl
  bare_before (Some r) = refl

  -- all but slots and that result stays
  pub settled_bare : bare u ≡ bare g
  settled_bare = ap bare settles.is ∙ bare_all settles.results before ∙ bare_before settles.graph

  pub settled_redirects : u.redirects ≡ g.redirects
  settled_redirects = ap (λ (x : ModuleGraph). x.redirects) settled_bare

  pub settled_kind : u.kind ≡ g.kind
  settled_kind = ap (λ (x : ModuleGraph). x.kind) settled_bare

  pub settled_packages : u.packages ≡ g.packages
  settled_packages = ap (λ (x : ModuleGraph). x.packages) settled_bare

  pub settled_starts : starts u ≡ starts g
  settled_starts = ap starts settled_bare

  pub settled_node : u.has_node_specifier ≡ g.has_node_specifier
  settled_node = ap (λ (x : ModuleGraph). x.has_node_specifier) settled_bare

  -- each slot stays
  pub settled_still : (k : List ℕ) (v : ModuleSlot) → finite.get g.slots k ≡ Some v → finite.get u.slots k ≡ Some v
  settled_still k v is = subst (λ (x : ModuleGraph). finite.get x.slots k ≡ Some v) (sym settles.is) (still_all settles.results before k v (get_before k ∙ is))

  -- each slot stood before, or is one of a result
  pub settled_from : (k : List ℕ) (v : ModuleSlot) → finite.get u.slots k ≡ Some v → (finite.get g.slots k ≡ Some v) ⊎ IsNew settles.results k v
  settled_from k v is = ⊎_elim (λ was. inl (sym (get_before k) ∙ was)) inr (from_all settles.results before k v (subst (λ (x : ModuleGraph). finite.get x.slots k ≡ Some v) settles.is is))

  in_results : (k : List ℕ) → HasNpm k items → HasNpm k (loads_in settles.results)
  in_results k h = subst (HasNpm k) (sym settles.each) (in_order k items h)

  -- each of those that waited has a slot
  pub settled_stands : (k : List ℕ) → HasNpm k items → stands u k ≡ true
  settled_stands k h = subst (λ (x : ModuleGraph). stands x k ≡ true) (sym settles.is) (stand_all settles.results before k (in_results k h))

  -- what led to one of them leads to a slot
  pub settled_lead : (x : List ℕ) → Lead g (λ e. HasNpm e items) x → Lead u nothing x
  settled_lead x lead = subst (λ (y : ModuleGraph). Lead y nothing x) (sym settles.is) (lead_all settles.results before x
      (lead_over g before (slots_before settles.graph) (redirects_before settles.graph) (λ e. HasNpm e items) (λ e. HasNpm e (loads_in settles.results)) x (λ e h. inr (in_results e h)) lead))

  -- known redirects that end still end
  pub settled_ends : (x : List ℕ) → End g x → End u x
  settled_ends x end = subst (λ (y : ModuleGraph). End y x) (sym settles.is) (ends_all settles.results before x (end_as g before (slots_before settles.graph) (redirects_before settles.graph) x end))

  -- a slot that is pending was so before
  pub settled_pending : (k : List ℕ) (asset : Bool) → finite.get u.slots k ≡ Some (Pending asset) → finite.get g.slots k ≡ Some (Pending asset)
  settled_pending k asset is = ⊎_elim (λ was. was)
      (λ n. absurd (not_pending (slot_for n.0) asset (npm_final n.0.0.specifier n.0.0.context n.0.0.reference n.0.1) (sym n.3)))
      (settled_from k (Pending asset) is)

-- what leads to a slot ends
pub lead_ends : (g : ModuleGraph) (x : List ℕ) → Lead g nothing x → End g x
lead_ends g x lead = path_slot g lead.way (⊎_elim (λ t. t) (λ b. absurd b) lead.slot)

-- ---- what a table says

was_dynamic : (b : Bool) → not b ≡ true → false ≡ b
was_dynamic true e = e
was_dynamic false e = refl

module _ (table : NpmTable) (items : List NpmLoad) where
  -- the result of one that waited is what the table says of it
  abbrev pub IsSaid : NpmLoad × NpmResult → Type 0
  IsSaid e = (e.1 ≡ npm_result table e.0.reference.inner.req e.0.context.is_dynamic) × Contains items e.0

  said_as : (dynamic : Bool) (test : NpmLoad → Bool) → ((i : NpmLoad) → test i ≡ true → dynamic ≡ i.context.is_dynamic) → All IsSaid (told_npm table dynamic (filter test items))
  said_as dynamic test so = All-map IsSaid (λ i. (i, npm_result table i.reference.inner.req dynamic)) (filter test items)
      (λ k d below. let i = get_or (filter test items) k d in (ap (npm_result table i.reference.inner.req) (so i (filter_passes test items k d below)), All-filter test (Contains items) items (All-contains_itself items) k d below))

  pub said_each : All IsSaid (told_npm_results table items)
  said_each = All-append IsSaid (told_npm table false (static_npm items)) (told_npm table true (dynamic_npm items))
      (said_as false (λ i. not i.context.is_dynamic) (λ i e. was_dynamic i.context.is_dynamic e))
      (said_as true (λ i. i.context.is_dynamic) (λ i e. sym e))

  -- a graph with what it says of those that waited is settled
  pub told_settled : (g : ModuleGraph) → IsNpmSettled (Some table) items g (npm_told table items g)
  told_settled g = record {
    results = told_npm_results table items;
    graph = told_npm_graph table items;
    each = map-append (λ e. e.0) (told_npm table false (static_npm items)) (told_npm table true (dynamic_npm items))
        ∙ ap (λ l. l ++ loads_in (told_npm table true (dynamic_npm items))) (each_given (λ i. npm_result table i.reference.inner.req false) (static_npm items))
        ∙ ap (λ l. static_npm items ++ l) (each_given (λ i. npm_result table i.reference.inner.req true) (dynamic_npm items));
    asks = by (asks_npm_graph items);
    is = refl;
    told = refl;
  }
    where
      by : (b : Bool) → is_some (if b then Some table.graph else None) ≡ b
      by true = refl
      by false = refl

module _ (told : Told) (entry : EnteredGraph) (items : List NpmLoad) (reached : All (IsReachedNpm told entry) items) where
  -- a slot that one gets by what the table says is explained
  said_explained : (k : List ℕ) (v : ModuleSlot) → IsNew (told_npm_results told.npm items) k v → IsExplained told entry k v
  said_explained k v (e, among, at, is) =
      let said = All-contains (IsSaid told.npm items) (told_npm_results told.npm items) e (said_each told.npm items) among in
      let r = All-contains (IsReachedNpm told entry) items e.0 reached said.1 in
      let same : told_npm_slot told.npm e.0.specifier e.0.context e.0.reference ≡ v = sym (is ∙ ap (npm_slot e.0.specifier e.0.context e.0.reference) said.0) in (
        e.0.specifier,
        e.0.context,
        r.reached,
        subst (λ z. Explains told entry e.0.specifier e.0.context z v) (sym at) (subst (Explains told entry e.0.specifier e.0.context (text_at e)) same (npm_resolved r.names_npm r.resolves r.allowed r.named)),
      )

  -- where a table is told, each slot stood before, or is explained
  pub settled_explained : (g u : ModuleGraph) → IsNpmSettled (Some told.npm) items g u → (k : List ℕ) (v : ModuleSlot) → finite.get u.slots k ≡ Some v → (finite.get g.slots k ≡ Some v) ⊎ IsExplained told entry k v
  unfolding told_settled
  settled_explained g u settles k v is = ⊎_elim inl (λ n. inr (said_explained k v n))
      (settled_from (Some told.npm) items g (npm_told told.npm items g) (told_settled told.npm items g) k v (subst (λ (x : ModuleGraph). finite.get x.slots k ≡ Some v) settles.told is))

-- ---- the graph of a build whose turns end

pub ended_told : (told : Told) (s : State) (u : ModuleGraph) → IsEnded (Some told.npm) s u → u ≡ ended_graph told s
ended_told told s u (as_it_is off) = sym (ap (λ b. if b then npm_told told.npm s.npm s.graph else s.graph) off)
ended_told told s u (settled on settles) = settles.told ∙ sym (ap (λ b. if b then npm_told told.npm s.npm s.graph else s.graph) on)

pub told_ended : (told : Told) (s : State) → IsEnded (Some told.npm) s (ended_graph told s)
told_ended told s = by s.flags.resolves_npm refl
  where
    by : (b : Bool) → s.flags.resolves_npm ≡ b → IsEnded (Some told.npm) s (if b then npm_told told.npm s.npm s.graph else s.graph)
    by true on = settled on (told_settled told.npm s.npm s.graph)
    by false off = as_it_is off
