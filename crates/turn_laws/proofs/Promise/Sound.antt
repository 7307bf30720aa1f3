-- That nothing is left out: what holds of a build between two turns, and what a load that enters keeps of it.
use Rattle.std.proofs.Common.{◌≡◌, ◌≢◌, ℕ, List, [], ◌∷◌, ◌++◌, Bool, true, false, ◌||◌, not, Option, None, Some, is_some, if◌then◌else◌, refl, sym, ap, ◌∙◌, subst, inl, inr, ⊎_elim, ◌⊎◌}
use Rattle.std.proofs.lemmas.Bool.{true≢false}
use Rattle.std.specs.FinMap as finite
use Rattle.url.specs.Parts.{Parts}
use Rattle.spec_base.specs.Shown.{text_cmp}
use Rattle.spec_base.specs.Specifier.{specifier_text}
use Rattle.graph_dependencies.specs.declared.graph_kind.GraphKind.{GraphKind}
use Rattle.graph_errors.specs.declared.errors.ModuleErrorKind.{ModuleErrorKind}
use Rattle.graph_errors.specs.declared.errors.ModuleErrorKind.TheVariants.{Load as LoadFails}
use Rattle.graph_errors.specs.declared.errors.ModuleLoadError.TheVariants.{Jsr, Npm}
use Rattle.graph_errors.specs.declared.jsr_error.JsrLoadError.TheVariants.{PackageFormat}
use Rattle.semver_npm.specs.declared.npm_error.NpmLoadError.TheVariants.{PackageReqReferenceParse}
use Rattle.graph_core.specs.declared.graph.ModuleGraph.{ModuleGraph}
use Rattle.module_slots.specs.declared.load.Load.{Load}
use Rattle.module_slots.specs.declared.load.LoadContext.{LoadContext}
use Rattle.module_slots.specs.declared.slot.Module.{Module}
use Rattle.module_slots.specs.declared.slot.Module.TheVariants.{External, Node}
use Rattle.module_slots.specs.declared.slot.ModuleSlot.{ModuleSlot}
use Rattle.module_slots.specs.declared.slot.ModuleSlot.TheVariants.{Module as Stands, Pending}
use Rattle.graph_core.specs.Edges.{loads_of}
use Rattle.graph_core.specs.Graph.{slot_at}
use Rattle.module_slots.specs.Slots.{failed_slot, is_asset_slot, is_pending}
use Rattle.graph_turns.specs.declared.dependencies.Note.{Note}
use Rattle.graph_turns.specs.declared.flags.Flags.{Flags}
use Rattle.graph_turns.specs.declared.passes.Chosen.{Chosen}
use Rattle.graph_turns.specs.declared.passes.Pass.{Pass}
use Rattle.graph_turns.specs.declared.state.State.{State}
use Rattle.graph_turns.specs.declared.waiting.WaitingPackage.{WaitingPackage}
use Rattle.graph_turns.specs.Promise.Packages.{is_jsr, is_npm, is_refused_npm, names_jsr, npm_named}
use Rattle.graph_turns.specs.Promise.Slots.{external_slot, node_slot}
use Rattle.graph_turns.specs.Promise.Taken.{is_built_in, is_unasked, waits_for_npm}
use Rattle.graph_turns.specs.Machine.Redirects.{redirected_end}
use Rattle.module_slots.specs.declared.npm_load.NpmLoad.{NpmLoad}
use Rattle.graph_core.specs.Npm.{npm_waiting_at}
use Rattle.graph_turns.specs.Machine.Waiting.{waiting_at}
use Rattle.graph_turns.specs.Promise.Input.{EnteredGraph, Start, starts}
use Rattle.graph_core.proofs.At.{cases_text, put_same, put_other}
use Rattle.graph_turns.proofs.Leading.Ends.{Ends, stands}
use Rattle.graph_turns.proofs.Leading.Ends.Ends.{at_slot, at_last, on}
pub use Rattle.turn_laws.proofs.Leading.Paths.{End, Lead}
use Rattle.turn_laws.proofs.Leading.Paths.{Path, end_there, lead_there, led_path, path_join}
use Rattle.turn_laws.proofs.Leading.Paths.Path.{stay, go}
use Rattle.graph_turns.proofs.Leading.Ways.{put_at, put_elsewhere, slot_put, slot_put_other}
use Rattle.graph_turns.proofs.Entering.Enter.{Entered, Edged, how_entered, how_edged}
use Rattle.graph_turns.proofs.Entering.Enter.Entered.{refused, waits, stood, unstated, node, no_package, no_npm_package, passed_through, stays, awaits, opens, resolves}
use Rattle.graph_turns.proofs.Entering.Enter.Edged.{queues, enters}
use Rattle.graph_turns.proofs.Entering.Loads.{HasLoad, HasKey, Keyed, Once, has_load_left, has_load_last, has_load_cases, once_push, how_queued, key_queued, key_kept, keyed_queued}
use Rattle.turn_laws.proofs.Entering.Placed.{not_pending}
use Rattle.graph_turns.specs.Machine.Entering.{Waits, deferred_with, enter, enter_all, enter_edge, enter_edges, is_shut, opened, queued, with_mark}

-- known redirects lead to a load that is still to enter
pub record Meets (g : ModuleGraph) (due : List Load) (x : List ℕ) : Type 0 where
  pub at : List ℕ
  pub way : Path g x at
  pub load : HasLoad at due

-- what has to lead somewhere: what a call loads, and the followed edges of modules that were stored since
abbrev pub IsWanted : EnteredGraph → State → List ℕ → Type 0
IsWanted o s k = HasLoad k o.loads ⊎ ((q : List ℕ) × (m : Module) × (c : LoadContext) × (finite.get s.graph.slots q ≡ Some (Stands m)) × (finite.get o.graph.slots q ≡ Some (Stands m) → ⊥) × HasLoad k (loads_of s.graph.kind s.flags.skip_dynamic_deps m c))

-- a module that is at hand alone stands there
abbrev pub asset_at : Option ModuleSlot → Bool
asset_at None = false
asset_at (Some slot) = is_asset_slot slot

-- what is still to enter, now or in the dynamic phase
abbrev pub IsLeft : List Load → State → List ℕ → Type 0
IsLeft due s k = HasLoad k due ⊎ HasKey k s.dynamic

-- ---- `jsr:` and `npm:` specifiers that wait

-- one of the text k
abbrev pub HasItem : List ℕ → List WaitingPackage → Type 0
HasItem k [] = ⊥
HasItem k (item ∷ items) = (k ≡ specifier_text item.specifier) ⊎ HasItem k items

abbrev pub HasChosen : List ℕ → List Chosen → Type 0
HasChosen k [] = ⊥
HasChosen k (one ∷ others) = (k ≡ specifier_text one.item.specifier) ⊎ HasChosen k others

-- one of the text stands in a pass
abbrev pub StandsIn : Option Pass → List ℕ → Type 0
StandsIn None k = ⊥
StandsIn (Some p) k = HasItem k p.items ⊎ HasChosen k p.chosen

-- one of the text waits for a pass, or stands in the one that goes on
abbrev pub AwaitsPass : State → List ℕ → Type 0
AwaitsPass s k = HasItem k s.waiting ⊎ StandsIn s.pass k

-- an `npm:` specifier of the text k
abbrev pub HasNpm : List ℕ → List NpmLoad → Type 0
HasNpm k [] = ⊥
HasNpm k (item ∷ items) = (k ≡ specifier_text item.specifier) ⊎ HasNpm k items

-- one of the text waits for the end, where an npm resolver is asked
abbrev pub AwaitsEnd : State → List ℕ → Type 0
AwaitsEnd s k = (s.flags.resolves_npm ≡ true) × HasNpm k s.npm

abbrev pub HasAwaited : State → List ℕ → Type 0
HasAwaited s k = AwaitsPass s k ⊎ AwaitsEnd s k

pub has_npm_left : (k : List ℕ) (items more : List NpmLoad) → HasNpm k items → HasNpm k (items ++ more)
has_npm_left k [] more h = absurd h
has_npm_left k (item ∷ items) more (inl e) = inl e
has_npm_left k (item ∷ items) more (inr h) = inr (has_npm_left k items more h)

pub has_npm_last : (items : List NpmLoad) (item : NpmLoad) → HasNpm (specifier_text item.specifier) (items ++ item ∷ [])
has_npm_last [] item = inl refl
has_npm_last (i ∷ items) item = inr (has_npm_last items item)

pub has_item_left : (k : List ℕ) (items more : List WaitingPackage) → HasItem k items → HasItem k (items ++ more)
has_item_left k [] more h = absurd h
has_item_left k (item ∷ items) more (inl e) = inl e
has_item_left k (item ∷ items) more (inr h) = inr (has_item_left k items more h)

pub has_item_last : (items : List WaitingPackage) (item : WaitingPackage) → HasItem (specifier_text item.specifier) (items ++ item ∷ [])
has_item_last [] item = inl refl
has_item_last (i ∷ items) item = inr (has_item_last items item)

pub has_item_cases : (k : List ℕ) (items : List WaitingPackage) (item : WaitingPackage) → HasItem k (items ++ item ∷ []) → HasItem k items ⊎ (k ≡ specifier_text item.specifier)
has_item_cases k [] item (inl e) = inr e
has_item_cases k [] item (inr h) = absurd h
has_item_cases k (i ∷ items) item (inl e) = inl (inl e)
has_item_cases k (i ∷ items) item (inr h) = ⊎_elim (λ a. inl (inr a)) inr (has_item_cases k items item h)

-- ---- between two turns

-- excused are pending slots without a load, and loose ends without a slot where no `jsr:` or `npm:` specifier waits; due is what is still to enter,
-- and each circle of redirects without a slot has some of that on it, or what waits, which is so early alone; a pending slot that was
-- handed in has no load; no slot of an open load is one that is asked for again; no open load is one of a `jsr:` specifier, which wait;
-- and all of a pass were judged where exports enter
pub record Sound (o : EnteredGraph) (early : Type 0) (excused loose : List ℕ → Type 0) (due : List Load) (s : State) : Type 0 where
  pub given : starts s.graph ≡ starts o.graph
  pub ends : (x : List ℕ) → End s.graph x ⊎ (early × Lead s.graph (λ e. IsLeft due s e ⊎ (HasAwaited s e ⊎ loose e)) x)
  pub asked : (k : List ℕ) (asset : Bool) → finite.get s.graph.slots k ≡ Some (Pending asset) → (excused k ⊎ HasLoad k s.loads) ⊎ (finite.get o.graph.slots k ≡ Some (Pending asset))
  pub held : (k : List ℕ) → HasLoad k s.loads → stands s.graph k ≡ true
  pub shut : (k : List ℕ) → HasLoad k s.loads → asset_at (finite.get s.graph.slots k) ≡ false
  pub once : Once s.loads
  pub keyed : Keyed s.dynamic
  pub wanted : (k : List ℕ) → IsWanted o s k → Lead s.graph (λ e. HasAwaited s e ⊎ loose e) k ⊎ IsLeft due s k
  pub plain : (k : List ℕ) → HasLoad k s.loads → names_jsr k ≡ false
  pub packages : (k : List ℕ) → AwaitsPass s k → names_jsr k ≡ true
  pub entering : (p : Pass) → s.pass ≡ Some p → p.is_entering ≡ true → p.items ≡ []

-- once the start is over, known redirects end
pub ends_now : (o : EnteredGraph) (excused loose : List ℕ → Type 0) (due : List Load) (s : State) → Sound o ⊥ excused loose due s → (x : List ℕ) → End s.graph x
ends_now o excused loose due s sound x = ⊎_elim (λ e. e) (λ m. absurd m.0) (sound.ends x)

abbrev pub nothing : List ℕ → Type 0
nothing k = ⊥

-- where nothing is due, it waits for the dynamic phase
pub none_due : (s : State) (k : List ℕ) (due : List Load) → IsLeft [] s k → IsLeft due s k
none_due s k due l = ⊎_elim (λ b. absurd b) inr l

pub end_no_redirect : {g : ModuleGraph} {m : ℕ} {x d : List ℕ} → Ends g m x d → stands g d ≡ false → finite.get g.redirects d ≡ None
end_no_redirect (at_slot h) f = cc
end_no_redirect (at_last h e) f = e
end_no_redirect (on h e r) f = end_no_redirect r f

pub end_put : (g : ModuleGraph) (k : List ℕ) (v : ModuleSlot) (x : List ℕ) → End g x → End (put_at g k v) x
end_put g k v x e = end_there g (put_at g k v) k (put_elsewhere g k v) (slot_put g k v) e

pub lead_put : (g : ModuleGraph) (k : List ℕ) (v : ModuleSlot) (loose new : List ℕ → Type 0) (x : List ℕ) → ((e : List ℕ) → e ≢ k → loose e → new e) → Lead g loose x → Lead (put_at g k v) new x
lead_put g k v loose new x to lead = lead_there g (put_at g k v) k (put_elsewhere g k v) (slot_put g k v) loose new to lead

pub stands_put : (g : ModuleGraph) (k : List ℕ) (v : ModuleSlot) (q : List ℕ) → stands g q ≡ true → stands (put_at g k v) q ≡ true
stands_put g k v q t = ⊎_elim (λ same. ap (stands (put_at g k v)) same ∙ slot_put g k v) (λ ne. slot_put_other g k v q ne ∙ t) (cases_text q k)

-- a slot that isn't asked for again
pub shut_put : (g : ModuleGraph) (k : List ℕ) (v : ModuleSlot) (q : List ℕ) → (q ≡ k → is_asset_slot v ≡ false) → asset_at (finite.get g.slots q) ≡ false → asset_at (finite.get (finite.insert g.slots k v) q) ≡ false
shut_put g k v q new old = ⊎_elim
    (λ same. ap (λ z. asset_at (finite.get (finite.insert g.slots k v) z)) same ∙ ap asset_at (put_same g.slots k v) ∙ new same)
    (λ ne. ap asset_at (put_other g.slots k v q ne) ∙ old)
    (cases_text q k)

-- a load that is received where nothing is shut finds no slot, or one that it asks for again
pub shut_none : (found : Option ModuleSlot) (c : LoadContext) → is_shut found c ≡ false → (is_some found ≡ false) ⊎ ((asset_at found ≡ true) × (c.asset ≡ false))
shut_none None c h = inl refl
shut_none (Some v) c h = inr (by c.asset (is_asset_slot v) h)
  where
    by : (x y : Bool) → x || not y ≡ false → (y ≡ true) × (x ≡ false)
    by true y e = absurd (true≢false e)
    by false true e = (refl, refl)
    by false false e = absurd (true≢false e)

pub shut_some : (found : Option ModuleSlot) (c : LoadContext) → is_shut found c ≡ true → is_some found ≡ true
shut_some None c h = absurd (true≢false (sym h))
shut_some (Some v) c h = refl

-- ---- where slots, redirects and loads stay

-- a state that has the same of what counts, but for what waits
pub record IsBeside (s u : State) : Type 0 where
  pub slots : u.graph.slots ≡ s.graph.slots
  pub redirects : u.graph.redirects ≡ s.graph.redirects
  pub starts_are : starts u.graph ≡ starts s.graph
  pub flags : u.flags ≡ s.flags
  pub loads : u.loads ≡ s.loads

module _ (g u : ModuleGraph) (slots : u.slots ≡ g.slots) (redirects : u.redirects ≡ g.redirects) where
  stands_as : (x : List ℕ) → stands u x ≡ stands g x
  stands_as x = ap (λ (m : finite.FinMap text_cmp ModuleSlot). finite.contains_key m x) slots

  redirect_as : (x : List ℕ) → finite.get u.redirects x ≡ finite.get g.redirects x
  redirect_as x = ap (λ (m : finite.FinMap text_cmp Parts). finite.get m x) redirects

  path_as : {x d : List ℕ} → Path g x d → Path u x d
  path_as stay = stay
  path_as (go {x = x} f e r) = go (stands_as x ∙ f) (redirect_as x ∙ e) (path_as r)

  ends_as : {m : ℕ} {x d : List ℕ} → Ends g m x d → Ends u m x d
  ends_as (at_slot {x = x} h) = at_slot (stands_as x ∙ h)
  ends_as (at_last {x = x} f e) = at_last (stands_as x ∙ f) (redirect_as x ∙ e)
  ends_as (on {x = x} f e r) = on (stands_as x ∙ f) (redirect_as x ∙ e) (ends_as r)

  pub end_as : (x : List ℕ) → End g x → End u x
  end_as x e = record { steps = e.steps; end = e.end; way = ends_as e.way }

  -- what was excused has a slot, or is excused again
  pub lead_over : (loose new : List ℕ → Type 0) (x : List ℕ) → ((e : List ℕ) → loose e → (stands g e ≡ true) ⊎ new e) → Lead g loose x → Lead u new x
  lead_over loose new x to lead = record {
    end = lead.end;
    way = path_as lead.way;
    slot = ⊎_elim (λ t. inl (stands_as lead.end ∙ t)) (λ l. ⊎_elim (λ t. inl (stands_as lead.end ∙ t)) inr (to lead.end l)) lead.slot;
  }

-- what waits in it, and what is excused and due, holds all that did so before, where no slot stands
pub record Carries (loose new : List ℕ → Type 0) (due after : List Load) (s u : State) : Type 0 where
  pub beside : IsBeside s u
  pub keyed : Keyed u.dynamic
  pub met : (e : List ℕ) → HasAwaited s e ⊎ loose e → (stands s.graph e ≡ true) ⊎ (HasAwaited u e ⊎ new e)
  pub left : (k : List ℕ) → IsLeft due s k → IsLeft after u k
  pub packages : (k : List ℕ) → AwaitsPass u k → names_jsr k ≡ true
  pub entering : (p : Pass) → u.pass ≡ Some p → p.is_entering ≡ true → p.items ≡ []

module _ (o : EnteredGraph) (early : Type 0) (excused : List ℕ → Type 0) where
  pub sound_carried : (loose new : List ℕ → Type 0) (due after : List Load) (s u : State) → Carries loose new due after s u → Sound o early excused loose due s → Sound o early excused new after u
  sound_carried loose new due after s u now sound = record {
    given = now.beside.starts_are ∙ sound.given;
    ends = λ x. ⊎_elim (λ e. inl (end_as s.graph u.graph slots redirects x e)) (λ m. inr (m.0, early_lead x m.1)) (sound.ends x);
    asked = λ k a p. ⊎_elim (λ e. inl (⊎_elim inl (λ h. inr (subst (HasLoad k) (sym loads) h)) e)) inr (sound.asked k a (sym (slot_as k) ∙ p));
    held = λ k h. stands_as s.graph u.graph slots redirects k ∙ sound.held k (subst (HasLoad k) loads h);
    shut = λ k h. ap asset_at (slot_as k) ∙ sound.shut k (subst (HasLoad k) loads h);
    once = subst Once (sym loads) sound.once;
    keyed = now.keyed;
    wanted = λ k w. ⊎_elim (λ lead. inl (lead_over s.graph u.graph slots redirects (λ e. HasAwaited s e ⊎ loose e) (λ e. HasAwaited u e ⊎ new e) k now.met lead)) (λ l. inr (now.left k l)) (sound.wanted k (was_wanted k w));
    plain = λ k h. sound.plain k (subst (HasLoad k) loads h);
    packages = now.packages;
    entering = now.entering;
  }
    where
      slots : u.graph.slots ≡ s.graph.slots
      slots = now.beside.slots

      redirects : u.graph.redirects ≡ s.graph.redirects
      redirects = now.beside.redirects

      loads : u.loads ≡ s.loads
      loads = now.beside.loads

      slot_as : (k : List ℕ) → finite.get u.graph.slots k ≡ finite.get s.graph.slots k
      slot_as k = ap (λ (m : finite.FinMap text_cmp ModuleSlot). finite.get m k) slots

      early_lead : (x : List ℕ) → Lead s.graph (λ e. IsLeft due s e ⊎ (HasAwaited s e ⊎ loose e)) x → Lead u.graph (λ e. IsLeft after u e ⊎ (HasAwaited u e ⊎ new e)) x
      early_lead x lead = lead_over s.graph u.graph slots redirects (λ e. IsLeft due s e ⊎ (HasAwaited s e ⊎ loose e)) (λ e. IsLeft after u e ⊎ (HasAwaited u e ⊎ new e)) x
          (λ e l. ⊎_elim (λ a. inr (inl (now.left e a))) (λ b. ⊎_elim inl (λ n. inr (inr n)) (now.met e b)) l) lead

      was_wanted : (k : List ℕ) → IsWanted o u k → IsWanted o s k
      was_wanted k (inl a) = inl a
      was_wanted k (inr w) = inr (
        w.0,
        w.1,
        w.2,
        sym (slot_as w.0) ∙ w.3,
        w.4,
        subst (λ (f : Flags). HasLoad k (loads_of s.graph.kind f.skip_dynamic_deps w.1 w.2)) now.beside.flags
            (subst (λ (b : Start). HasLoad k (loads_of b.kind u.flags.skip_dynamic_deps w.1 w.2)) now.beside.starts_are w.5),
      )

  -- a state that has the same of all that counts
  pub sound_beside : (loose : List ℕ → Type 0) (due : List Load) (s u : State) → IsBeside s u → u.dynamic ≡ s.dynamic → u.waiting ≡ s.waiting → u.npm ≡ s.npm → u.pass ≡ s.pass → Sound o early excused loose due s → Sound o early excused loose due u
  sound_beside loose due s u beside dynamic waiting npm pass sound = sound_carried loose loose due due s u (record {
    beside = beside;
    keyed = subst Keyed (sym dynamic) sound.keyed;
    met = λ e m. inr (⊎_elim
        (λ a. inl (⊎_elim
        (λ b. inl (⊎_elim (λ w. inl (subst (HasItem e) (sym waiting) w)) (λ p. inr (subst (λ (q : Option Pass). StandsIn q e) (sym pass) p)) b))
        (λ n. inr (ap (λ (f : Flags). f.resolves_npm) beside.flags ∙ n.0, subst (HasNpm e) (sym npm) n.1))
        a))
        inr m);
    left = λ k l. ⊎_elim inl (λ h. inr (subst (HasKey k) (sym dynamic) h)) l;
    packages = λ k a. sound.packages k (⊎_elim (λ w. inl (subst (HasItem k) waiting w)) (λ p. inr (subst (λ (q : Option Pass). StandsIn q k) pass p)) a);
    entering = λ p e. sound.entering p (sym pass ∙ e);
  }) sound

  -- other ends may be loose, and other loads due
  pub sound_as : (loose new : List ℕ → Type 0) (due after : List Load) (s : State) → ((e : List ℕ) → loose e → (stands s.graph e ≡ true) ⊎ new e) → ((k : List ℕ) → HasLoad k due → HasLoad k after) → Sound o early excused loose due s → Sound o early excused new after s
  sound_as loose new due after s ends names sound = sound_carried loose new due after s s (record {
    beside = record { slots = refl; redirects = refl; starts_are = refl; flags = refl; loads = refl };
    keyed = sound.keyed;
    met = λ e m. ⊎_elim (λ a. inr (inl a)) (λ l. ⊎_elim inl (λ n. inr (inr n)) (ends e l)) m;
    left = λ k l. ⊎_elim (λ a. inl (names k a)) inr l;
    packages = sound.packages;
    entering = sound.entering;
  }) sound

  pub loosen : (due : List Load) (s : State) (loose : List ℕ → Type 0) → Sound o early excused nothing due s → Sound o early excused loose due s
  loosen due s loose sound = sound_as nothing loose due due s (λ e n. absurd n) (λ k h. h) sound

  -- what is due may be named by other loads of the same texts, and more of it
  pub due_as : (due new : List Load) (s : State) → ((k : List ℕ) → HasLoad k due → HasLoad k new) → Sound o early excused nothing due s → Sound o early excused nothing new s
  due_as due new s names sound = sound_as nothing nothing due new s (λ e n. absurd n) names sound

-- ---- entering

-- a slot that no edge leads on from
abbrev pub IsAlone : ModuleSlot → Type 0
IsAlone v = (m : Module) (kind : GraphKind) (skip : Bool) (c : LoadContext) (k : List ℕ) → v ≡ Stands m → HasLoad k (loads_of kind skip m c) → ⊥

-- a module of Node.js has no edges
node_alone : (d : Parts) → IsAlone (node_slot d)
unfolding loads_of
node_alone d m kind skip c k e h =
    let one : Node (record { specifier = d; module_name = d.path }) ≡ m = cc in
    subst (λ (v : Module). HasLoad k (loads_of kind skip v c)) (sym one) h

-- nor has a module outside of the graph
external_alone : (d : Parts) → IsAlone (external_slot d false)
unfolding loads_of
external_alone d m kind skip c k e h =
    let one : External (record { specifier = d; maybe_cache_info = None; was_asset_load = false }) ≡ m = cc in
    subst (λ (v : Module). HasLoad k (loads_of kind skip v c)) (sym one) h

-- nor an error
pub failed_alone : (kind : ModuleErrorKind) → IsAlone (failed_slot kind)
failed_alone kind m g skip c k e h = let wrong : failed_slot kind ≡ Stands m = e in cc

-- the mark that a module of Node.js was met
abbrev pub marked : ModuleGraph → ModuleGraph
marked g = record g { has_node_specifier = true }

-- what is asked for is no `jsr:` specifier
asked_plain : (f : Flags) (at : Parts) → is_unasked f at ≡ false → names_jsr (specifier_text at) ≡ false
asked_plain f at e = by (is_built_in at) (is_jsr at) (if is_npm at then is_refused_npm (npm_named at) else false) (waits_for_npm f at) e
  where
    by : (a b c d : Bool) → a || ((b || c) || d) ≡ false → b ≡ false
    by true b c d f = absurd (true≢false f)
    by false true c d f = absurd (true≢false f)
    by false false c d f = refl

module _ (o : EnteredGraph) (early : Type 0) (excused : List ℕ → Type 0) where
  module _ (loose : List ℕ → Type 0) (due : List Load) (s : State) (k : List ℕ) (v : ModuleSlot) (sound : Sound o early excused (λ e. (e ≡ k) ⊎ loose e) due s) where
    -- it is loose no more
    unloosed : (e : List ℕ) → e ≢ k → HasAwaited s e ⊎ ((e ≡ k) ⊎ loose e) → HasAwaited s e ⊎ loose e
    unloosed e ne m = ⊎_elim inl (λ l. ⊎_elim (λ same. absurd (ne same)) inr l) m

    -- with a slot there, each way ends or comes to what is still to enter
    ends_after : (x : List ℕ) → End (put_at s.graph k v) x ⊎ (early × Lead (put_at s.graph k v) (λ e. IsLeft due s e ⊎ (HasAwaited s e ⊎ loose e)) x)
    ends_after x = ⊎_elim (λ e. inl (end_put s.graph k v x e))
        (λ m. inr (m.0, lead_put s.graph k v (λ e. IsLeft due s e ⊎ (HasAwaited s e ⊎ ((e ≡ k) ⊎ loose e))) (λ e. IsLeft due s e ⊎ (HasAwaited s e ⊎ loose e)) x (λ e ne l. ⊎_elim inl (λ r. inr (unloosed e ne r)) l) m.1))
        (sound.ends x)

    -- a slot without edges there
    wanted_after : IsAlone v → (q : List ℕ) → IsWanted o (record s { graph = put_at s.graph k v }) q → Lead (put_at s.graph k v) (λ e. HasAwaited s e ⊎ loose e) q ⊎ IsLeft due s q
    wanted_after alone q w = ⊎_elim (λ lead. inl (lead_put s.graph k v (λ e. HasAwaited s e ⊎ ((e ≡ k) ⊎ loose e)) (λ e. HasAwaited s e ⊎ loose e) q unloosed lead)) inr (sound.wanted q (was_wanted w))
      where
        was_wanted : IsWanted o (record s { graph = put_at s.graph k v }) q → IsWanted o s q
        was_wanted (inl a) = inl a
        was_wanted (inr w) = ⊎_elim
            (λ same. absurd (let at = subst (λ z. finite.get (finite.insert s.graph.slots k v) z ≡ Some (Stands w.1)) same w.3 in let there = put_same s.graph.slots k v in let one : v ≡ Stands w.1 = cc in alone w.1 s.graph.kind s.flags.skip_dynamic_deps w.2 q one w.5))
            (λ ne. inr (w.0, w.1, w.2, sym (put_other s.graph.slots k v w.0 ne) ∙ w.3, w.4, w.5))
            (cases_text w.0 k)

  -- a final slot without edges, which isn't asked for again
  pub sound_alone : (loose : List ℕ → Type 0) (due : List Load) (s : State) (k : List ℕ) (v : ModuleSlot) → IsAlone v → is_pending v ≡ false → is_asset_slot v ≡ false → Sound o early excused (λ e. (e ≡ k) ⊎ loose e) due s → Sound o early excused loose due (record s { graph = put_at s.graph k v })
  sound_alone loose due s k v alone settled not_asset sound = record {
    given = sound.given;
    ends = ends_after loose due s k v sound;
    asked = λ q a e. sound.asked q a (elsewhere q a e);
    held = λ q h. stands_put s.graph k v q (sound.held q h);
    shut = λ q h. shut_put s.graph k v q (λ same. not_asset) (sound.shut q h);
    once = sound.once;
    keyed = sound.keyed;
    wanted = wanted_after loose due s k v sound alone;
    plain = sound.plain;
    packages = sound.packages;
    entering = sound.entering;
  }
    where
      elsewhere : (q : List ℕ) (a : Bool) → finite.get (finite.insert s.graph.slots k v) q ≡ Some (Pending a) → finite.get s.graph.slots q ≡ Some (Pending a)
      elsewhere q a p = ⊎_elim
          (λ same. absurd (let at = subst (λ z. finite.get (finite.insert s.graph.slots k v) z ≡ Some (Pending a)) same p in let there = put_same s.graph.slots k v in let one : v ≡ Pending a = cc in not_pending v a settled one))
          (λ ne. sym (put_other s.graph.slots k v q ne) ∙ p)
          (cases_text q k)

  -- a load opens
  sound_opened : (loose : List ℕ → Type 0) (due : List Load) (s : State) (c : LoadContext) (at : Parts) → is_shut (slot_at s.graph at) c ≡ false → is_unasked s.flags at ≡ false → Sound o early excused (λ e. (e ≡ specifier_text at) ⊎ loose e) due s → Sound o early excused loose due (opened s c at)
  sound_opened loose due s c at free asked_there sound = record {
    given = sound.given;
    ends = ends_after loose due s (specifier_text at) v0 sound;
    asked = λ k a e. ⊎_elim (λ same. inl (inr (subst (λ z. HasLoad z now.loads) (sym same) (has_load_last s.loads _)))) (λ ne. ⊎_elim (λ x. inl (still_open k x)) inr (sound.asked k a (sym (put_other s.graph.slots (specifier_text at) v0 k ne) ∙ e))) (cases_text k (specifier_text at));
    held = λ k a. ⊎_elim (λ old. stands_put s.graph (specifier_text at) v0 k (sound.held k old)) (λ same. ap (stands (put_at s.graph (specifier_text at) v0)) same ∙ slot_put s.graph (specifier_text at) v0) (has_load_cases k s.loads _ a);
    shut = λ k a. ⊎_elim (λ old. shut_put s.graph (specifier_text at) v0 k (λ same. refl) (sound.shut k old)) (λ same. ap (λ z. asset_at (finite.get (finite.insert s.graph.slots (specifier_text at) v0) z)) same ∙ ap asset_at (put_same s.graph.slots (specifier_text at) v0)) (has_load_cases k s.loads _ a);
    once = once_push s.loads _ sound.once unheld;
    keyed = sound.keyed;
    wanted = wanted_after loose due s (specifier_text at) v0 sound (λ m kind skip d k e h. let wrong : Pending c.asset ≡ Stands m = e in cc);
    plain = λ k a. ⊎_elim (sound.plain k) (λ same. ap names_jsr same ∙ asked_plain s.flags at asked_there) (has_load_cases k s.loads _ a);
    packages = sound.packages;
    entering = sound.entering;
  }
    where
      v0 : ModuleSlot
      v0 = Pending c.asset

      now : State
      now = opened s c at

      still_open : (k : List ℕ) → excused k ⊎ HasLoad k s.loads → excused k ⊎ HasLoad k now.loads
      still_open k a = ⊎_elim inl (λ h. inr (has_load_left k s.loads _ h)) a

      -- no load is open where one opens
      unheld : HasLoad (specifier_text at) s.loads → ⊥
      unheld a = ⊎_elim
          (λ none. let there = sound.held (specifier_text at) a in true≢false (sym there ∙ none))
          (λ asset. let there = sound.shut (specifier_text at) a in true≢false (sym asset.0 ∙ there))
          (shut_none (slot_at s.graph at) c free)

  -- a specifier waits for a pass
  sound_awaits : (loose : List ℕ → Type 0) (due : List Load) (s : State) (item : WaitingPackage) → names_jsr (specifier_text item.specifier) ≡ true → Sound o early excused (λ e. (e ≡ specifier_text item.specifier) ⊎ loose e) due s → Sound o early excused loose due (record s { waiting = s.waiting ++ item ∷ [] })
  sound_awaits loose due s item jsr sound = sound_carried o early excused (λ e. (e ≡ specifier_text item.specifier) ⊎ loose e) loose due due s (record s { waiting = s.waiting ++ item ∷ [] }) (record {
    beside = record { slots = refl; redirects = refl; starts_are = refl; flags = refl; loads = refl };
    keyed = sound.keyed;
    met = λ e m. inr (⊎_elim
        (λ a. inl (⊎_elim (λ b. inl (⊎_elim (λ w. inl (has_item_left e s.waiting (item ∷ []) w)) inr b)) inr a))
        (λ l. ⊎_elim (λ same. inl (inl (inl (subst (λ z. HasItem z (s.waiting ++ item ∷ [])) (sym same) (has_item_last s.waiting item))))) inr l)
        m);
    left = λ k l. l;
    packages = λ k a. ⊎_elim (λ w. ⊎_elim (λ old. sound.packages k (inl old)) (λ same. ap names_jsr same ∙ jsr) (has_item_cases k s.waiting item w)) (λ p. sound.packages k (inr p)) a;
    entering = sound.entering;
  }) sound

  -- a specifier waits for the end
  sound_resolves : (loose : List ℕ → Type 0) (due : List Load) (s : State) (item : NpmLoad) → s.flags.resolves_npm ≡ true → Sound o early excused (λ e. (e ≡ specifier_text item.specifier) ⊎ loose e) due s → Sound o early excused loose due (record s { npm = s.npm ++ item ∷ [] })
  sound_resolves loose due s item resolves_it sound = sound_carried o early excused (λ e. (e ≡ specifier_text item.specifier) ⊎ loose e) loose due due s (record s { npm = s.npm ++ item ∷ [] }) (record {
    beside = record { slots = refl; redirects = refl; starts_are = refl; flags = refl; loads = refl };
    keyed = sound.keyed;
    met = λ e m. inr (⊎_elim
        (λ a. inl (⊎_elim inl (λ n. inr (n.0, has_npm_left e s.npm (item ∷ []) n.1)) a))
        (λ l. ⊎_elim (λ same. inl (inr (resolves_it, subst (λ z. HasNpm z (s.npm ++ item ∷ [])) (sym same) (has_npm_last s.npm item)))) inr l)
        m);
    left = λ k l. l;
    packages = sound.packages;
    entering = sound.entering;
  }) sound

  -- an end that has a slot isn't loose
  pub tighten : (loose : List ℕ → Type 0) (due : List Load) (k : List ℕ) (s : State) → stands s.graph k ≡ true → Sound o early excused (λ e. (e ≡ k) ⊎ loose e) due s → Sound o early excused loose due s
  tighten loose due k s h sound = sound_as o early excused (λ e. (e ≡ k) ⊎ loose e) loose due due s (λ e l. ⊎_elim (λ same. inl (ap (stands s.graph) same ∙ h)) inr l) (λ q d. d) sound

  -- it doesn't hang on notes, nor on what is deferred
  pub sound_noted : (loose : List ℕ → Type 0) (due : List Load) (s : State) (notes : List Note) (es : Waits) → Sound o early excused loose due s → Sound o early excused loose due (record s { notes = notes; deferred = es })
  sound_noted loose due s notes es sound = sound_beside o early excused loose due s (record s { notes = notes; deferred = es }) (record { slots = refl; redirects = refl; starts_are = refl; flags = refl; loads = refl }) refl refl refl refl sound

  module _ (loose : List ℕ → Type 0) (due : List Load) (s : State) (load : Load) where
    -- where known redirects lead from it
    abbrev end_of : List ℕ
    end_of = specifier_text (redirected_end s.graph load.specifier)

    abbrev WithEnd : List ℕ → Type 0
    WithEnd e = (e ≡ end_of) ⊎ loose e

    -- what was due leads there
    led_due : Sound o early excused WithEnd (load ∷ due) s → Sound o early excused WithEnd due s
    led_due sound = record {
      given = sound.given;
      ends = λ x. ⊎_elim inl (λ m. inr (m.0, early_lead x m.1)) (sound.ends x);
      asked = sound.asked;
      held = sound.held;
      shut = sound.shut;
      once = sound.once;
      keyed = sound.keyed;
      wanted = λ k w. ⊎_elim inl (λ l. ⊎_elim (λ same. inl record { end = end_of; way = subst (λ y. Path s.graph y end_of) (sym same) here; slot = inr (inr (inl refl)) }) inr (left k l)) (sound.wanted k w);
      plain = sound.plain;
      packages = sound.packages;
      entering = sound.entering;
    }
      where
        here : Path s.graph (specifier_text load.specifier) (specifier_text (redirected_end s.graph load.specifier))
        here = led_path s.graph load.specifier

        left : (k : List ℕ) → IsLeft (load ∷ due) s k → (k ≡ specifier_text load.specifier) ⊎ IsLeft due s k
        left k l = ⊎_elim (λ a. ⊎_elim inl (λ r. inr (inl r)) a) (λ w. inr (inr w)) l

        early_lead : (x : List ℕ) → Lead s.graph (λ e. IsLeft (load ∷ due) s e ⊎ (HasAwaited s e ⊎ WithEnd e)) x → Lead s.graph (λ e. IsLeft due s e ⊎ (HasAwaited s e ⊎ WithEnd e)) x
        early_lead x lead = ⊎_elim
            (λ t. record { end = lead.end; way = lead.way; slot = inl t })
            (λ l. ⊎_elim
            (λ a. ⊎_elim (λ same. record { end = end_of; way = path_join s.graph (subst (Path s.graph x) same lead.way) here; slot = inr (inr (inr (inl refl))) }) (λ still. record { end = lead.end; way = lead.way; slot = inr (inl still) }) (left lead.end a))
            (λ m. record { end = lead.end; way = lead.way; slot = inr (inr m) })
            l)
            lead.slot

    by_entered : (u : State) → Entered s load.context (redirected_end s.graph load.specifier) u → Sound o early excused WithEnd due s → Sound o early excused loose due u
    by_entered u (refused {kind} e) sound = sound_alone loose due s end_of (failed_slot kind) (failed_alone kind) refl refl sound
    by_entered u (waits {notes} h w) sound = sound_noted loose due s notes (deferred_with s.deferred (redirected_end s.graph load.specifier) load.context) (tighten loose due end_of s (shut_some (slot_at s.graph (redirected_end s.graph load.specifier)) load.context h) sound)
    by_entered u (stood {notes} h) sound = sound_noted loose due s notes s.deferred (tighten loose due end_of s (shut_some (slot_at s.graph (redirected_end s.graph load.specifier)) load.context h) sound)
    by_entered u (unstated {kind} f h e) sound = sound_alone loose due s end_of (failed_slot kind) (failed_alone kind) refl refl sound
    by_entered u (node h n) sound =
        let v = node_slot (redirected_end s.graph load.specifier) in
        sound_beside o early excused loose due (record s { graph = put_at s.graph end_of v }) (record s { graph = marked (put_at s.graph end_of v) }) (record { slots = refl; redirects = refl; starts_are = refl; flags = refl; loads = refl }) refl refl refl refl
        (sound_alone loose due s end_of v (node_alone (redirected_end s.graph load.specifier)) refl refl sound)
    by_entered u (no_package {e} f h j named) sound = sound_alone loose due s end_of (failed_slot (LoadFails (redirected_end s.graph load.specifier) load.context.range (Jsr (PackageFormat e)))) (failed_alone _) refl refl sound
    by_entered u (no_npm_package {e} f h j named) sound = sound_alone loose due s end_of (failed_slot (LoadFails (redirected_end s.graph load.specifier) load.context.range (Npm (PackageReqReferenceParse e)))) (failed_alone _) refl refl sound
    by_entered u (passed_through {notes} f h j named p) sound =
        let v = external_slot (redirected_end s.graph load.specifier) false in
        sound_alone loose due (record s { notes = notes }) end_of v (external_alone (redirected_end s.graph load.specifier)) refl refl (sound_noted WithEnd due s notes s.deferred sound)
    by_entered u (stays {notes} j h) sound = sound_noted loose due s notes s.deferred (tighten loose due end_of s h sound)
    by_entered u (awaits {notes} {r} f h j named p) sound = sound_awaits loose due (record s { notes = notes }) (waiting_at (redirected_end s.graph load.specifier) r load.context) j (sound_noted WithEnd due s notes s.deferred sound)
    by_entered u (resolves {notes} {r} f h j flag named) sound = sound_resolves loose due (record s { notes = notes }) (npm_waiting_at (redirected_end s.graph load.specifier) r load.context) flag (sound_noted WithEnd due s notes s.deferred sound)
    by_entered u (opens {notes} f h n) sound = sound_opened loose due (record s { notes = notes }) load.context (redirected_end s.graph load.specifier) h n (sound_noted WithEnd due s notes s.deferred sound)

    -- a load enters, which is due, and from which known redirects lead to a loose end
    pub sound_enter_beside : Sound o early excused WithEnd (load ∷ due) s → Sound o early excused loose due (enter s load)
    sound_enter_beside sound = by_entered (enter s load) (how_entered s load) (led_due sound)

  -- the same where that end is the only one
  pub sound_enter : (due : List Load) (s : State) (load : Load) → Sound o early excused (λ e. e ≡ specifier_text (redirected_end s.graph load.specifier)) (load ∷ due) s → Sound o early excused nothing due (enter s load)
  sound_enter due s load sound = sound_enter_beside nothing due s load
      (sound_as o early excused (λ e. e ≡ specifier_text (redirected_end s.graph load.specifier)) (λ e. (e ≡ specifier_text (redirected_end s.graph load.specifier)) ⊎ nothing e) (load ∷ due) (load ∷ due) s (λ e same. inr (inl same)) (λ k h. h) sound)

  pub sound_enter_all : (loads : List Load) (s : State) → Sound o early excused nothing loads s → Sound o early excused nothing [] (enter_all s loads)
  unfolding enter_all
  sound_enter_all [] s sound = sound
  sound_enter_all (load ∷ loads) s sound = sound_enter_all loads (enter s load) (sound_enter loads s load (loosen o early excused (load ∷ loads) s _ sound))

  -- ---- edges

  -- an edge enters, or waits
  pub sound_edge : (due : List Load) (s : State) (load : Load) → Sound o early excused nothing (load ∷ due) s → Sound o early excused nothing due (enter_edge s load)
  sound_edge due s load sound = by_edged (enter_edge s load) (how_edged s load)
    where
      by_edged : (u : State) → Edged s load u → Sound o early excused nothing due u
      by_edged u (queues p f) = sound_carried o early excused nothing nothing (load ∷ due) due s (record s { dynamic = queued s.dynamic load }) (record {
        beside = record { slots = refl; redirects = refl; starts_are = refl; flags = refl; loads = refl };
        keyed = keyed_queued s.dynamic load (queued s.dynamic load) (how_queued s.dynamic load) sound.keyed;
        met = λ e m. inr m;
        left = λ k l. ⊎_elim
            (λ a. ⊎_elim (λ same. inr (subst (λ z. HasKey z (queued s.dynamic load)) (sym same) (key_queued s.dynamic load (queued s.dynamic load) (how_queued s.dynamic load)))) inl a)
            (λ old. inr (key_kept k s.dynamic load (queued s.dynamic load) (how_queued s.dynamic load) old)) l;
        packages = sound.packages;
        entering = sound.entering;
      }) sound
      by_edged u enters =
          let mark = with_mark s.root_names load in
          sound_enter due s mark (loosen o early excused (mark ∷ due) s _ (due_as o early excused (load ∷ due) (mark ∷ due) s (λ k a. a) sound))

  pub sound_edges : (loads : List Load) (s : State) → Sound o early excused nothing loads s → Sound o early excused nothing [] (enter_edges s loads)
  unfolding enter_edges
  sound_edges [] s sound = sound
  sound_edges (load ∷ loads) s sound = sound_edges loads (enter_edge s load) (sound_edge loads s load sound)
