-- That no specifier is asked twice for one purpose.
use Rattle.std.proofs.Common.{◌≡◌, ◌≢◌, ℕ, List, [], ◌∷◌, ◌++◌, Bool, true, false, if◌then◌else◌, Option, None, Some, Result, Ok, Err, is_some, refl, sym, ap, ◌∙◌, subst, inl, inr, ⊎_elim, ◌⊎◌}
use Rattle.std.proofs.lemmas.Bool.{true≢false}
use Rattle.std.specs.FinMap as finite
use Rattle.url.specs.Parts.{Parts}
use Rattle.spec_base.specs.Shown.{text_cmp}
use Rattle.spec_base.specs.Specifier.{same_specifier, specifier_text}
use Rattle.source_sums.specs.Sums.{KnownSums}
use Rattle.registry_files.specs.declared.kept_version.KeptVersion.{KeptVersion}
use Rattle.graph_errors.specs.declared.jsr_error.JsrLoadError.{JsrLoadError}
use Rattle.graph_core.specs.declared.graph.ModuleGraph.{ModuleGraph}
use Rattle.module_slots.specs.declared.load.Load.{Load}
use Rattle.module_slots.specs.declared.slot.ModuleSlot.{ModuleSlot}
use Rattle.module_slots.specs.declared.slot.ModuleSlot.TheVariants.{Err as Failed, Pending}
use Rattle.graph_errors.specs.Errors.{redirects_error}
use Rattle.graph_core.specs.Graph.{slot_at}
use Rattle.module_slots.specs.Slots.{failed_slot, is_asset_slot}
use Rattle.graph_turns.specs.declared.outcome.Outcome.{Outcome}
use Rattle.graph_turns.specs.declared.outcome.Outcome.TheVariants.{At, To}
use Rattle.graph_turns.specs.declared.state.State.{State}
use Rattle.graph_turns.specs.Promise.Slots.{external_slot, node_slot}
use Rattle.graph_turns.specs.Promise.Input.{EnteredGraph}
use Rattle.graph_turns.specs.Machine.Files.{file_kept}
use Rattle.graph_turns.specs.Machine.Redirects.{redirected_end, moved, renamed}
use Rattle.semver_npm.specs.declared.package.PackageNv.{PackageNv}
use Rattle.semver_npm.specs.declared.npm_error.NpmLoadError.TheVariants.{PackageReqReferenceParse}
use Rattle.graph_errors.specs.declared.errors.ModuleErrorKind.TheVariants.{Load as LoadFails}
use Rattle.graph_errors.specs.declared.errors.ModuleLoadError.TheVariants.{Jsr, Npm}
use Rattle.graph_errors.specs.declared.jsr_error.JsrLoadError.TheVariants.{PackageFormat}
use Rattle.graph_turns.specs.Promise.Reached.{in_package}
use Rattle.graph_core.proofs.At.{cases_text, put_same, put_other, cut_same, cut_other}
use Rattle.turn_laws.proofs.Budget.Loops.{NoLoop, loop_as, loop_led, loop_moved, loop_placed, loop_put, stood_loop}
use Rattle.turn_laws.proofs.Budget.Pairs.{HasPair, pair_last, pair_load}
use Rattle.graph_turns.proofs.Leading.Ends.{stands}
use Rattle.graph_turns.proofs.Entering.Enter.{Entered, Edged, how_entered, how_edged}
use Rattle.graph_turns.proofs.Entering.Enter.Entered.{refused, waits, stood as found, unstated, node, no_package, no_npm_package, passed_through, stays as stays_there, awaits, opens, resolves}
use Rattle.graph_turns.proofs.Entering.Enter.Edged.{queues, enters}
use Rattle.graph_turns.proofs.Entering.Loads.{HasLoad}
use Rattle.turn_laws.proofs.Promise.Sound.{asset_at, shut_none, stands_put}
use Rattle.turn_laws.proofs.Entering.Placed.{Placed, how_placed}
use Rattle.turn_laws.proofs.Entering.Placed.Placed.{there, stood}
use Rattle.turn_laws.proofs.Promise.SoundTurned.{taken_contents}
use Rattle.turn_laws.proofs.Promise.Storing.{Taken, Moved, how_moved, not_back}
use Rattle.turn_laws.proofs.Promise.Storing.Moved.{cut, stays, put}
use Rattle.graph_turns.proofs.Leading.Ways.{put_at, cut_at, redirect_to}
use Rattle.graph_turns.specs.Machine.Entering.{IsFinal, enter, enter_all, enter_edge, enter_edges, edges_from, hop, names_with, placed_at, redirected, redirects_ended, stored, stored_at, sums_by, with_mark, is_end}

-- a slot or a redirect stands at k
abbrev pub IsKnown : ModuleGraph → List ℕ → Type 0
IsKnown g k = (stands g k ≡ true) ⊎ (is_some (finite.get g.redirects k) ≡ true)

-- what was asked is known; no open load is of what was asked for the same purpose, nor one of an asset of what was
-- asked at all; where a module is kept at hand alone, it wasn't asked for itself; and what was asked is on no circle of redirects without
-- a slot
pub record Counted (asked : List Load) (s : State) : Type 0 where
  pub known : (k : List ℕ) → HasLoad k asked → IsKnown s.graph k
  pub modules : (k : List ℕ) → HasPair k false s.loads → HasPair k false asked → ⊥
  pub assets : (k : List ℕ) → HasPair k true s.loads → HasLoad k asked → ⊥
  pub at_hand : (k : List ℕ) → asset_at (finite.get s.graph.slots k) ≡ true → HasPair k false asked → ⊥
  pub no_loop : (k : List ℕ) → HasLoad k asked → NoLoop s.graph k

-- ---- what is known stays so

pub known_put : (g : ModuleGraph) (a : List ℕ) (v : ModuleSlot) (k : List ℕ) → IsKnown g k → IsKnown (put_at g a v) k
known_put g a v k (inr r) = inr r
known_put g a v k (inl h) = inl (stands_put g a v k h)

known_redirect : (g : ModuleGraph) (a : List ℕ) (n : Parts) (k : List ℕ) → (k ≢ a → IsKnown g k) → IsKnown (redirect_to g a n) k
known_redirect g a n k known = ⊎_elim (λ same. inr (ap (λ z. is_some (finite.get (finite.insert g.redirects a n) z)) same ∙ ap is_some (put_same g.redirects a n)))
    (λ ne. ⊎_elim inl (λ r. inr (ap is_some (put_other g.redirects a n k ne) ∙ r)) (known ne))
    (cases_text k a)

pub known_cut : (g : ModuleGraph) (a k : List ℕ) → k ≢ a → IsKnown g k → IsKnown (cut_at g a) k
known_cut g a k ne (inl h) = inl (ap is_some (cut_other g.slots a k ne) ∙ h)
known_cut g a k ne (inr r) = inr r

known_as : (g : ModuleGraph) (a n : Parts) (u : ModuleGraph) → Moved g a n u → (k : List ℕ) → IsKnown g k → IsKnown u k
known_as g a n u (cut pending) k known = known_redirect (cut_at g (specifier_text a)) (specifier_text a) n k (λ ne. known_cut g (specifier_text a) k ne known)
known_as g a n u (stays still) k known = known
known_as g a n u (put still) k known = known_redirect g (specifier_text a) n k (λ ne. known)

pub known_moved : (g : ModuleGraph) (a n : Parts) (k : List ℕ) → IsKnown g k → IsKnown (moved g a n) k
known_moved g a n k known = known_as g a n (moved g a n) (how_moved g a n) k known

pub by_renamed : (g : ModuleGraph) (a n : Parts) (P : ModuleGraph → Type 0) → P g → P (moved g a n) → P (renamed g a n)
by_renamed g a n P same other = by (same_specifier a n)
  where
    by : (b : Bool) → P (if b then g else moved g a n)
    by true = same
    by false = other

pub known_renamed : (g : ModuleGraph) (a n : Parts) (k : List ℕ) → IsKnown g k → IsKnown (renamed g a n) k
known_renamed g a n k known = by_renamed g a n (λ u. IsKnown u k) known (known_moved g a n k known)

pub known_placed : (g : ModuleGraph) (n : Parts) (v : ModuleSlot) (u : ModuleGraph) → Placed g n v u → (k : List ℕ) → IsKnown g k → IsKnown u k
known_placed g n v u (there free) k known = known_put g (specifier_text n) v k known
known_placed g n v u (stood o t) k known = known

-- ---- where a module is kept at hand alone

-- a slot that comes in the way of a redirect was there
hand_as : (g : ModuleGraph) (a n : Parts) (u : ModuleGraph) → Moved g a n u → (k : List ℕ) → asset_at (finite.get u.slots k) ≡ true → asset_at (finite.get g.slots k) ≡ true
hand_as g a n u (cut pending) k t = ⊎_elim
    (λ same. absurd (let gone : asset_at (finite.get (finite.remove g.slots (specifier_text a)) k) ≡ false = ap (λ z. asset_at (finite.get (finite.remove g.slots (specifier_text a)) z)) same ∙ ap asset_at (cut_same g.slots (specifier_text a)) in true≢false (sym t ∙ gone)))
    (λ ne. ap asset_at (sym (cut_other g.slots (specifier_text a) k ne)) ∙ t)
    (cases_text k (specifier_text a))
hand_as g a n u (stays still) k t = t
hand_as g a n u (put still) k t = t

pub hand_moved : (g : ModuleGraph) (a n : Parts) (k : List ℕ) → asset_at (finite.get (moved g a n).slots k) ≡ true → asset_at (finite.get g.slots k) ≡ true
hand_moved g a n k t = hand_as g a n (moved g a n) (how_moved g a n) k t

pub hand_put : (g : ModuleGraph) (d : List ℕ) (v : ModuleSlot) (k : List ℕ) → asset_at (finite.get (finite.insert g.slots d v) k) ≡ true → ((k ≡ d) × (is_asset_slot v ≡ true)) ⊎ (asset_at (finite.get g.slots k) ≡ true)
hand_put g d v k t = ⊎_elim
    (λ same. inl (same, sym (ap (λ z. asset_at (finite.get (finite.insert g.slots d v) z)) same ∙ ap asset_at (put_same g.slots d v)) ∙ t))
    (λ ne. inr (ap asset_at (sym (put_other g.slots d v k ne)) ∙ t))
    (cases_text k d)

hand_renamed : (g : ModuleGraph) (a n : Parts) (k : List ℕ) → asset_at (finite.get (renamed g a n).slots k) ≡ true → asset_at (finite.get g.slots k) ≡ true
hand_renamed g a n k t = by_renamed g a n (λ u. asset_at (finite.get u.slots k) ≡ true → asset_at (finite.get g.slots k) ≡ true) (λ t. t) (hand_moved g a n k) t

hand_placed : (g : ModuleGraph) (n : Parts) (v : ModuleSlot) (u : ModuleGraph) → Placed g n v u → (k : List ℕ) → asset_at (finite.get u.slots k) ≡ true → ((k ≡ specifier_text n) × (is_asset_slot v ≡ true)) ⊎ (asset_at (finite.get g.slots k) ≡ true)
hand_placed g n v u (there free) k t = hand_put g (specifier_text n) v k t
hand_placed g n v u (stood o s) k t = inr t

-- ---- entering

pub counted_graph : (asked : List Load) (s : State) (g : ModuleGraph) (names : List Parts) (sums : Option KnownSums) → ((k : List ℕ) → IsKnown s.graph k → IsKnown g k) → ((k : List ℕ) → asset_at (finite.get g.slots k) ≡ true → (HasPair k false asked → ⊥) ⊎ (asset_at (finite.get s.graph.slots k) ≡ true)) → ((k : List ℕ) → NoLoop s.graph k → NoLoop g k) → Counted asked s → Counted asked (record s { graph = g; root_names = names; sums = sums })
counted_graph asked s g names sums keeps hands loops counted = record {
  known = λ k among. keeps k (counted.known k among);
  modules = counted.modules;
  assets = counted.assets;
  at_hand = λ k t. ⊎_elim (λ n. n) (counted.at_hand k) (hands k t);
  no_loop = λ k among. loops k (counted.no_loop k among);
}

-- it hangs on the graph and on the open loads alone
pub counted_queued : (asked : List Load) (s u : State) → u.graph ≡ s.graph → u.loads ≡ s.loads → Counted asked s → Counted asked u
counted_queued asked s u g l counted = record {
  known = λ k among. subst (λ (x : ModuleGraph). IsKnown x k) (sym g) (counted.known k among);
  modules = λ k a. counted.modules k (subst (HasPair k false) l a);
  assets = λ k a. counted.assets k (subst (HasPair k true) l a);
  at_hand = λ k t. counted.at_hand k (ap (λ (x : ModuleGraph). asset_at (finite.get x.slots k)) (sym g) ∙ t);
  no_loop = λ k among. subst (λ (x : ModuleGraph). NoLoop x k) (sym g) (counted.no_loop k among);
}

-- on slots and redirects
pub counted_same : (asked : List Load) (s u : State) → u.graph.slots ≡ s.graph.slots → u.graph.redirects ≡ s.graph.redirects → u.loads ≡ s.loads → Counted asked s → Counted asked u
counted_same asked s u slots redirects l counted = record {
  known = λ k among. ⊎_elim
      (λ h. inl (ap (λ (m : finite.FinMap text_cmp ModuleSlot). finite.contains_key m k) slots ∙ h))
      (λ h. inr (ap (λ (m : finite.FinMap text_cmp Parts). is_some (finite.get m k)) redirects ∙ h))
      (counted.known k among);
  modules = λ k a. counted.modules k (subst (HasPair k false) l a);
  assets = λ k a. counted.assets k (subst (HasPair k true) l a);
  at_hand = λ k t. counted.at_hand k (ap (λ (m : finite.FinMap text_cmp ModuleSlot). asset_at (finite.get m k)) (sym slots) ∙ t);
  no_loop = λ k among. loop_as s.graph u.graph slots redirects k (counted.no_loop k among);
}

-- an end without a slot wasn't asked about
unknown_end : (asked : List Load) (s : State) (load : Load) → Counted asked s → stands s.graph (specifier_text (redirected_end s.graph load.specifier)) ≡ false → HasLoad (specifier_text (redirected_end s.graph load.specifier)) asked → ⊥
unknown_end asked s load counted h among =
    let end = specifier_text (redirected_end s.graph load.specifier) in
    let none : finite.get s.graph.redirects end ≡ None = loop_led s.graph load.specifier (counted.no_loop end among) h in
    ⊎_elim (λ t. true≢false (sym t ∙ h)) (λ t. true≢false (sym t ∙ ap is_some none)) (counted.known end among)

-- a load enters at an end that isn't known yet, or at a module that is kept at hand alone
counted_at : (asked : List Load) (s : State) (load : Load) → (stands s.graph (specifier_text (redirected_end s.graph load.specifier)) ≡ false → HasLoad (specifier_text (redirected_end s.graph load.specifier)) asked → ⊥) → Counted asked s → Counted asked (enter s load)
counted_at asked s load unknown counted = by_entered (enter s load) (how_entered s load)
  where
    at : Parts
    at = redirected_end s.graph load.specifier

    d : List ℕ
    d = specifier_text (redirected_end s.graph load.specifier)

    put_over : (v : ModuleSlot) → is_asset_slot v ≡ false → Counted asked (record s { graph = put_at s.graph d v })
    put_over v not_asset = counted_graph asked s (put_at s.graph d v) s.root_names s.sums (λ k known. known_put s.graph d v k known)
        (λ k t. ⊎_elim (λ here. absurd (true≢false (sym here.1 ∙ not_asset))) inr (hand_put s.graph d v k t)) (loop_put s.graph d v) counted

    by_entered : (u : State) → Entered s load.context (redirected_end s.graph load.specifier) u → Counted asked u
    by_entered u (refused {kind} e) = put_over (failed_slot kind) refl
    by_entered u (waits h w) = counted_queued asked s _ refl refl counted
    by_entered u (found h) = counted_queued asked s _ refl refl counted
    by_entered u (unstated {kind} free h e) = put_over (failed_slot kind) refl
    by_entered u (node h n) =
        counted_same asked (record s { graph = put_at s.graph d (node_slot (redirected_end s.graph load.specifier)) }) _ refl refl refl (put_over (node_slot (redirected_end s.graph load.specifier)) refl)
    by_entered u (no_package {e} free h j n) = put_over (failed_slot (LoadFails (redirected_end s.graph load.specifier) load.context.range (Jsr (PackageFormat e)))) refl
    by_entered u (no_npm_package {e} free h j n) = put_over (failed_slot (LoadFails (redirected_end s.graph load.specifier) load.context.range (Npm (PackageReqReferenceParse e)))) refl
    by_entered u (passed_through free h j n p) =
        counted_queued asked (record s { graph = put_at s.graph d (external_slot (redirected_end s.graph load.specifier) false) }) _ refl refl (put_over (external_slot (redirected_end s.graph load.specifier) false) refl)
    by_entered u (stays_there j t) = counted_queued asked s _ refl refl counted
    by_entered u (awaits free h j n p) = counted_queued asked s _ refl refl counted
    by_entered u (resolves free h j o n) = counted_queued asked s _ refl refl counted
    by_entered u (opens free h n) = record {
      known = λ k among. known_put s.graph d (Pending load.context.asset) k (counted.known k among);
      modules = λ k a among. ⊎_elim (λ old. counted.modules k old among)
          (λ new. let was_there = subst (λ z. HasPair z false asked) new.0 among in
          ⊎_elim (λ none. unknown none (pair_load d false asked was_there)) (λ hand. counted.at_hand d hand.0 was_there) (shut_none (slot_at s.graph (redirected_end s.graph load.specifier)) load.context h))
          (pair_last k false s.loads _ a);
      assets = λ k a among. ⊎_elim (λ old. counted.assets k old among)
          (λ new. ⊎_elim (λ none. unknown none (subst (λ z. HasLoad z asked) new.0 among)) (λ hand. true≢false (sym new.1 ∙ hand.1)) (shut_none (slot_at s.graph (redirected_end s.graph load.specifier)) load.context h))
          (pair_last k true s.loads _ a);
      at_hand = λ k t. ⊎_elim (λ here. absurd (true≢false (sym here.1))) (counted.at_hand k) (hand_put s.graph d (Pending load.context.asset) k t);
      no_loop = λ k among. loop_put s.graph d (Pending load.context.asset) k (counted.no_loop k among);
    }

pub counted_enter : (asked : List Load) (s : State) (load : Load) → Counted asked s → Counted asked (enter s load)
counted_enter asked s load counted = counted_at asked s load (unknown_end asked s load counted) counted

-- before anything was asked, loads enter anywhere
pub counted_first : (loads : List Load) (s : State) → Counted [] s → Counted [] (enter_all s loads)
unfolding enter_all
counted_first [] s counted = counted
counted_first (load ∷ loads) s counted = counted_first loads (enter s load) (counted_at [] s load (λ h among. among) counted)

-- a version file that was read changes nothing of it
pub counted_file : (asked : List Load) (s : State) (nv : PackageNv) (kept : Result KeptVersion JsrLoadError) → Counted asked s → Counted asked (file_kept s nv kept)
counted_file asked s nv (Ok v) counted = counted_same asked s (file_kept s nv (Ok v)) refl refl refl counted
counted_file asked s nv (Err e) counted = counted_queued asked s (file_kept s nv (Err e)) refl refl counted

counted_edge : (asked : List Load) (s : State) (load : Load) → Counted asked s → Counted asked (enter_edge s load)
counted_edge asked s load counted = by_edged (enter_edge s load) (how_edged s load)
  where
    by_edged : (u : State) → Edged s load u → Counted asked u
    by_edged u (queues p f) = counted_queued asked s _ refl refl counted
    by_edged u enters = counted_enter asked s (with_mark s.root_names load) counted

pub counted_enter_all : (asked : List Load) (loads : List Load) (s : State) → Counted asked s → Counted asked (enter_all s loads)
unfolding enter_all
counted_enter_all asked [] s counted = counted
counted_enter_all asked (load ∷ loads) s counted = counted_enter_all asked loads (enter s load) (counted_enter asked s load counted)

counted_edges : (asked : List Load) (loads : List Load) (s : State) → Counted asked s → Counted asked (enter_edges s loads)
unfolding enter_edges
counted_edges asked [] s counted = counted
counted_edges asked (load ∷ loads) s counted = counted_edges asked loads (enter_edge s load) (counted_edge asked s load counted)

module _ (o : EnteredGraph) (early : Type 0) where
  -- the taken load counts as asked from here on
  pub counted_taken : (asked : List Load) (rest : State) (load : Load) → Taken o early (specifier_text load.specifier) rest → asset_at (finite.get rest.graph.slots (specifier_text load.specifier)) ≡ false → Counted asked (record rest { loads = load ∷ rest.loads }) → Counted (load ∷ asked) rest
  counted_taken asked rest load took shut counted = record {
    known = λ k among. ⊎_elim (λ same. inl (ap (stands rest.graph) same ∙ took.here)) (counted.known k) among;
    modules = λ k h among. ⊎_elim (λ same. took.others (subst (λ z. HasLoad z rest.loads) same.0 (pair_load k false rest.loads h))) (counted.modules k (inr h)) among;
    assets = λ k h among. ⊎_elim (λ same. took.others (subst (λ z. HasLoad z rest.loads) same (pair_load k true rest.loads h))) (counted.assets k (inr h)) among;
    at_hand = λ k t among. ⊎_elim (λ same. true≢false (sym t ∙ ap (λ z. asset_at (finite.get rest.graph.slots z)) same.0 ∙ shut)) (counted.at_hand k t) among;
    no_loop = λ k among. ⊎_elim (λ same. stood_loop rest.graph k (ap (stands rest.graph) same ∙ took.here)) (counted.no_loop k) among;
  }

  -- a load that was taken and fails without a question isn't asked about
  pub counted_failed : (asked : List Load) (rest : State) (load : Load) → Counted asked (record rest { loads = load ∷ rest.loads }) → Counted asked rest
  counted_failed asked rest load counted = record {
    known = counted.known;
    modules = λ k h. counted.modules k (inr h);
    assets = λ k h. counted.assets k (inr h);
    at_hand = counted.at_hand;
    no_loop = counted.no_loop;
  }

  -- an asset that is taken wasn't asked for itself
  pub fresh_asset : (asked : List Load) (rest : State) (load : Load) → Counted asked (record rest { loads = load ∷ rest.loads }) → load.context.asset ≡ true → HasPair (specifier_text load.specifier) false (load ∷ asked) → ⊥
  fresh_asset asked rest load counted asset among = ⊎_elim
      (λ same. true≢false (sym asset ∙ same.1))
      (λ old. counted.assets (specifier_text load.specifier) (inl (refl, asset)) (pair_load (specifier_text load.specifier) false asked old))
      among

  -- nor was one that fails without a question
  pub fresh_failed : (asked : List Load) (rest : State) (load : Load) → Counted asked (record rest { loads = load ∷ rest.loads }) → load.context.asset ≡ true → HasPair (specifier_text load.specifier) false asked → ⊥
  fresh_failed asked rest load counted asset among =
      counted.assets (specifier_text load.specifier) (inl (refl, asset)) (pair_load (specifier_text load.specifier) false asked among)

  -- a slot that is put at a name with an open load keeps no module at hand alone
  pub no_asset : (s : State) (load : Load) (held : Option PackageNv) (name : Parts) (slot : ModuleSlot) → Taken o early (specifier_text load.specifier) s → IsFinal load (At name slot held None) → HasLoad (specifier_text name) s.loads → is_asset_slot slot ≡ false
  no_asset s load held name slot took final h = by (is_asset_slot slot) refl
    where
      by : (b : Bool) → is_asset_slot slot ≡ b → is_asset_slot slot ≡ false
      by true t = absurd (took.others (subst (λ z. HasLoad z s.loads) (ap specifier_text (final.1 t).0) h))
      by false f = f

  -- a slot at its name, and the edges from it
  counted_at_name : (asked : List Load) (s : State) (load : Load) (held : Option PackageNv) (name : Parts) (slot : ModuleSlot) → Taken o early (specifier_text load.specifier) s → IsFinal load (At name slot held None) → (load.context.asset ≡ true → HasPair (specifier_text load.specifier) false asked → ⊥) → Counted asked s → Counted asked (stored_at s load held name slot)
  counted_at_name asked s load held name slot took final fresh counted =
      let how = how_placed (renamed s.graph load.specifier name) name slot in
      counted_edges asked (edges_from s.graph.kind s.flags.skip_dynamic_deps slot (in_package held load.context)) (placed_at s load held name slot)
      (counted_graph asked s _ (names_with s.root_names load.context name slot) (sums_by held s.sums name slot) (λ k known. known_placed (renamed s.graph load.specifier name) name slot _ how k (known_renamed s.graph load.specifier name k known))
      (λ k t. ⊎_elim (λ here. let own = final.1 here.1 in inl (λ among. fresh own.1 (subst (λ z. HasPair z false asked) (here.0 ∙ ap specifier_text own.0) among)))
      (λ old. inr (hand_renamed s.graph load.specifier name k old))
      (hand_placed (renamed s.graph load.specifier name) name slot _ how k t))
      (loop_placed s.graph load.specifier name slot _ how) counted)

  pub counted_stored : (asked : List Load) (most : ℕ) (s : State) (load : Load) (outcome : Outcome) → Taken o early (specifier_text load.specifier) s → IsFinal load outcome → (load.context.asset ≡ true → HasPair (specifier_text load.specifier) false asked → ⊥) → Counted asked s → Counted asked (stored most s load outcome)
  unfolding stored
  counted_stored asked most s load (At name slot held None) took final fresh counted = counted_at_name asked s load held name slot took final fresh counted
  counted_stored asked most s load (At name slot held (Some l)) took final fresh counted =
      counted_at_name asked (record s { contents = s.contents ++ l ∷ [] }) load held name slot (taken_contents o early (specifier_text load.specifier) s (s.contents ++ l ∷ []) took) final fresh
      (counted_queued asked s (record s { contents = s.contents ++ l ∷ [] }) refl refl counted)
  counted_stored asked most s load (To n) took final fresh counted = by_end (is_end most s load n) refl
    where
      by_end : (b : Bool) → is_end most s load n ≡ b → Counted asked (if b then redirects_ended s load else redirected s load n)
      by_end true t = counted_graph asked s _ s.root_names s.sums (known_put s.graph (specifier_text load.specifier) (Failed (redirects_error load.specifier load.context.range)))
          (λ k a. ⊎_elim (λ here. absurd (true≢false (sym here.1))) inr (hand_put s.graph (specifier_text load.specifier) (Failed (redirects_error load.specifier load.context.range)) k a))
          (loop_put s.graph (specifier_text load.specifier) (Failed (redirects_error load.specifier load.context.range))) counted
      by_end false f =
          counted_enter asked (record s { graph = moved s.graph load.specifier n }) (record { specifier = n; context = hop load.context; is_type = false })
          (counted_graph asked s _ s.root_names s.sums (known_moved s.graph load.specifier n) (λ k t. inr (hand_moved s.graph load.specifier n k t)) (loop_moved s.graph load.specifier n (not_back _ _ f)) counted)
