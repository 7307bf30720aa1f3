-- What stood when the dynamic phase began stays, where no load is one of an asset and answers are named as asked.
use Rattle.std.proofs.Common.{◌≡◌, ℕ, List, [], ◌∷◌, ◌++◌, true, false, if◌then◌else◌, Option, None, Some, Result, Ok, Err, is_some, refl, sym, ap, ◌∙◌, subst, inl, inr, ⊎_elim, ◌⊎◌}
use Rattle.std.specs.List.{All}
use Rattle.std.specs.Option.{option_or}
use Rattle.std.proofs.lemmas.Bool.{true≢false}
use Rattle.std.proofs.lemmas.List.Elements.{All-push}
use Rattle.std.specs.FinMap as finite
use Rattle.url.specs.Parts.{Parts}
use Rattle.spec_base.specs.Specifier.{specifier_text}
use Rattle.source_sums.specs.Sums.{KnownSums}
use Rattle.semver_npm.specs.declared.package.PackageNv.{PackageNv}
use Rattle.registry_files.specs.declared.kept_version.KeptVersion.{KeptVersion}
use Rattle.spec_base.specs.Shown.{text_cmp}
use Rattle.semver_npm.specs.declared.npm_error.NpmLoadError.TheVariants.{PackageReqReferenceParse}
use Rattle.graph_errors.specs.declared.errors.ModuleErrorKind.TheVariants.{Load as LoadFails}
use Rattle.graph_errors.specs.declared.errors.ModuleLoadError.TheVariants.{Jsr, Npm}
use Rattle.graph_errors.specs.declared.jsr_error.JsrLoadError.{JsrLoadError}
use Rattle.graph_errors.specs.declared.jsr_error.JsrLoadError.TheVariants.{PackageFormat}
use Rattle.graph_core.specs.declared.graph.ModuleGraph.{ModuleGraph}
use Rattle.module_slots.specs.declared.load.Load.{Load}
use Rattle.module_slots.specs.declared.load.LoadContext.{LoadContext}
use Rattle.module_slots.specs.declared.slot.ModuleSlot.{ModuleSlot}
use Rattle.module_slots.specs.declared.slot.ModuleSlot.TheVariants.{Pending}
use Rattle.graph_core.specs.Graph.{slot_at}
use Rattle.module_slots.specs.Slots.{failed_slot, is_asset_slot}
use Rattle.graph_turns.specs.declared.flags.Flags.{Flags}
use Rattle.graph_turns.specs.declared.state.State.{State}
use Rattle.graph_turns.specs.declared.waiting.WaitingPackage.{WaitingPackage}
use Rattle.graph_turns.specs.Machine.Waiting.{waiting_at}
use Rattle.graph_turns.specs.Promise.Slots.{external_slot, node_slot}
use Rattle.graph_turns.specs.Promise.Forbidden.{attribute_refusal, forbidden, source_phase_refusal}
use Rattle.graph_turns.specs.Machine.Files.{file_kept}
use Rattle.graph_turns.specs.Machine.Redirects.{redirected_end, moved}
use Rattle.graph_core.proofs.At.{cases_text, put_other, cut_same, cut_other}
use Rattle.graph_turns.proofs.Leading.Ends.{stands, ends_led}
use Rattle.graph_turns.proofs.Entering.Enter.{Entered, how_entered}
use Rattle.graph_turns.proofs.Entering.Enter.Entered.{refused, waits, stood as found, unstated, node, no_package, no_npm_package, passed_through, stays as stands_there, awaits, opens, resolves}
use Rattle.turn_laws.proofs.Promise.Sound.{End, AwaitsPass, HasItem, IsBeside, StandsIn, asset_at, end_no_redirect, has_item_cases, shut_none, shut_put}
use Rattle.turn_laws.proofs.Promise.Storing.{Moved, how_moved}
use Rattle.turn_laws.proofs.Promise.Storing.Moved.{cut, stays, put}
use Rattle.graph_turns.proofs.Leading.Ways.{put_at}
use Rattle.graph_turns.specs.Machine.Entering.{enter, is_shut}

-- nothing stood at a text
pub record IsNew (g : ModuleGraph) (k : List ℕ) : Type 0 where
  pub slot : finite.get g.slots k ≡ None
  pub redirect : finite.get g.redirects k ≡ None

-- where a redirect stood without a slot, no slot stands
abbrev pub IsAway : ModuleGraph → ModuleGraph → Type 0
IsAway old g = (k : List ℕ) (n : Parts) → finite.get old.redirects k ≡ Some n → stands old k ≡ false → stands g k ≡ false

-- what stood stands, each load opened and each `jsr:` specifier waits where nothing stood, and no slot is one that is asked for again
pub record Past (old : ModuleGraph) (s : State) : Type 0 where
  pub slots : (k : List ℕ) (v : ModuleSlot) → finite.get old.slots k ≡ Some v → finite.get s.graph.slots k ≡ Some v
  pub redirects : (k : List ℕ) (n : Parts) → finite.get old.redirects k ≡ Some n → finite.get s.graph.redirects k ≡ Some n
  pub loads : All (λ load. IsNew old (specifier_text load.specifier)) s.loads
  pub awaited : (k : List ℕ) → AwaitsPass s k → IsNew old k
  pub plain : (k : List ℕ) → asset_at (finite.get s.graph.slots k) ≡ false
  pub away : IsAway old s.graph

-- nothing but an asset is refused
not_forbidden : (f : Flags) (at : Parts) (c : LoadContext) → c.asset ≡ false → forbidden f at c ≡ None
not_forbidden f at c plain = ap (λ b. if b then option_or (source_phase_refusal at c.attribute c.source_phase) (attribute_refusal f at c.attribute) else None) plain

none_of : {X : Type 0} (o : Option X) → ((x : X) → o ≡ Some x → ⊥) → o ≡ None
none_of None f = refl
none_of (Some x) f = absurd (f x refl)

module _ (old : ModuleGraph) where
  -- where nothing stands now, nothing stood
  pub new_here : (s : State) (k : List ℕ) → Past old s → is_some (finite.get s.graph.slots k) ≡ false → finite.get s.graph.redirects k ≡ None → IsNew old k
  new_here s k past none end = record {
    slot = none_of (finite.get old.slots k) (λ v e. let now = past.slots k v e in true≢false (sym (ap is_some now) ∙ none));
    redirect = none_of (finite.get old.redirects k) (λ n e. let now = past.redirects k n e in let wrong : None ≡ Some n = sym end ∙ now in true≢false (sym (ap is_some wrong)));
  }

  away_put : (g : ModuleGraph) (k : List ℕ) (v : ModuleSlot) → IsNew old k → IsAway old g → IsAway old (put_at g k v)
  away_put g k v new away q n e f = ⊎_elim
      (λ same. absurd (let there = subst (λ z. finite.get old.redirects z ≡ Some n) same e in let wrong : None ≡ Some n = sym new.redirect ∙ there in true≢false (sym (ap is_some wrong))))
      (λ ne. ap is_some (put_other g.slots k v q ne) ∙ away q n e f)
      (cases_text q k)

  away_moved : (g : ModuleGraph) (a n : Parts) (u : ModuleGraph) → Moved g a n u → IsAway old g → IsAway old u
  away_moved g a n u (cut pending) away q x e f = ⊎_elim
      (λ same. ap (λ z. is_some (finite.get (finite.remove g.slots (specifier_text a)) z)) same ∙ ap is_some (cut_same g.slots (specifier_text a)))
      (λ ne. ap is_some (cut_other g.slots (specifier_text a) q ne) ∙ away q x e f)
      (cases_text q (specifier_text a))
  away_moved g a n u (stays still) away q x e f = away q x e f
  away_moved g a n u (put still) away q x e f = away q x e f

  -- a slot that comes where nothing stood
  pub past_put : (g : ModuleGraph) (k : List ℕ) (v : ModuleSlot) → IsNew old k → ((q : List ℕ) (x : ModuleSlot) → finite.get old.slots q ≡ Some x → finite.get g.slots q ≡ Some x) → (q : List ℕ) (x : ModuleSlot) → finite.get old.slots q ≡ Some x → finite.get (finite.insert g.slots k v) q ≡ Some x
  past_put g k v new slots q x e = ⊎_elim
      (λ same. absurd (let there = subst (λ z. finite.get old.slots z ≡ Some x) same e in let wrong : None ≡ Some x = sym new.slot ∙ there in true≢false (sym (ap is_some wrong))))
      (λ ne. put_other g.slots k v q ne ∙ slots q x e)
      (cases_text q k)

  -- the asked specifier is redirected, where nothing stood
  past_moved : (g : ModuleGraph) (a n : Parts) (u : ModuleGraph) → Moved g a n u → IsNew old (specifier_text a) → ((q : List ℕ) (x : ModuleSlot) → finite.get old.slots q ≡ Some x → finite.get g.slots q ≡ Some x) → (q : List ℕ) (x : ModuleSlot) → finite.get old.slots q ≡ Some x → finite.get u.slots q ≡ Some x
  past_moved g a n u (cut pending) new slots q x e = ⊎_elim
      (λ same. absurd (let there = subst (λ z. finite.get old.slots z ≡ Some x) same e in let wrong : None ≡ Some x = sym new.slot ∙ there in true≢false (sym (ap is_some wrong))))
      (λ ne. cut_other g.slots (specifier_text a) q ne ∙ slots q x e)
      (cases_text q (specifier_text a))
  past_moved g a n u (stays still) new slots q x e = slots q x e
  past_moved g a n u (put still) new slots q x e = slots q x e

  still_redirect : (g : ModuleGraph) (a n : Parts) → IsNew old (specifier_text a) → ((q : List ℕ) (x : Parts) → finite.get old.redirects q ≡ Some x → finite.get g.redirects q ≡ Some x) → (q : List ℕ) (x : Parts) → finite.get old.redirects q ≡ Some x → finite.get (finite.insert g.redirects (specifier_text a) n) q ≡ Some x
  still_redirect g a n new redirects q x e = ⊎_elim
      (λ same. absurd (let there = subst (λ z. finite.get old.redirects z ≡ Some x) same e in let wrong : None ≡ Some x = sym new.redirect ∙ there in true≢false (sym (ap is_some wrong))))
      (λ ne. put_other g.redirects (specifier_text a) n q ne ∙ redirects q x e)
      (cases_text q (specifier_text a))

  past_redirects : (g : ModuleGraph) (a n : Parts) (u : ModuleGraph) → Moved g a n u → IsNew old (specifier_text a) → ((q : List ℕ) (x : Parts) → finite.get old.redirects q ≡ Some x → finite.get g.redirects q ≡ Some x) → (q : List ℕ) (x : Parts) → finite.get old.redirects q ≡ Some x → finite.get u.redirects q ≡ Some x
  past_redirects g a n u (cut pending) new redirects = still_redirect g a n new redirects
  past_redirects g a n u (stays still) new redirects = redirects
  past_redirects g a n u (put still) new redirects = still_redirect g a n new redirects

  -- a slot that isn't asked for again comes where nothing stood
  pub past_slot : (s : State) (k : List ℕ) (v : ModuleSlot) → IsNew old k → is_asset_slot v ≡ false → Past old s → Past old (record s { graph = put_at s.graph k v })
  past_slot s k v new not_asset past = record {
    slots = past_put s.graph k v new past.slots;
    redirects = past.redirects;
    loads = past.loads;
    awaited = past.awaited;
    plain = λ q. shut_put s.graph k v q (λ same. not_asset) (past.plain q);
    away = away_put s.graph k v new past.away;
  }

  -- a state that has the same of all that counts
  pub past_beside : (s u : State) → IsBeside s u → ((k : List ℕ) → AwaitsPass u k → AwaitsPass s k) → Past old s → Past old u
  past_beside s u beside still past = record {
    slots = λ k v e. slot_as k ∙ past.slots k v e;
    redirects = λ k n e. ap (λ (m : finite.FinMap text_cmp Parts). finite.get m k) beside.redirects ∙ past.redirects k n e;
    loads = subst (All (λ load. IsNew old (specifier_text load.specifier))) (sym beside.loads) past.loads;
    awaited = λ k a. past.awaited k (still k a);
    plain = λ k. ap asset_at (slot_as k) ∙ past.plain k;
    away = λ k n e f. ap is_some (slot_as k) ∙ past.away k n e f;
  }
    where
      slot_as : (k : List ℕ) → finite.get u.graph.slots k ≡ finite.get s.graph.slots k
      slot_as k = ap (λ (m : finite.FinMap text_cmp ModuleSlot). finite.get m k) beside.slots

  -- a load of no asset enters
  pub past_enter : (s : State) (load : Load) → End s.graph (specifier_text load.specifier) → load.context.asset ≡ false → Past old s → Past old (enter s load)
  past_enter s load end plain past = by_entered (enter s load) (how_entered s load)
    where
      d : List ℕ
      d = specifier_text (redirected_end s.graph load.specifier)

      no_error : forbidden s.flags (redirected_end s.graph load.specifier) load.context ≡ None
      no_error = not_forbidden s.flags (redirected_end s.graph load.specifier) load.context plain

      at_end : stands s.graph d ≡ false → finite.get s.graph.redirects d ≡ None
      at_end h =
          let is : d ≡ end.end = ends_led s.graph end.steps load.specifier (specifier_text load.specifier) end.end refl end.way in
          ap (finite.get s.graph.redirects) is ∙ end_no_redirect end.way (ap (stands s.graph) (sym is) ∙ h)

      none_there : stands s.graph d ≡ false → IsNew old d
      none_there h = new_here s d past h (at_end h)

      unshut : is_shut (slot_at s.graph (redirected_end s.graph load.specifier)) load.context ≡ false → IsNew old d
      unshut h = none_there (⊎_elim (λ none. none) (λ hand. absurd (true≢false (sym hand.0 ∙ past.plain d))) (shut_none (slot_at s.graph (redirected_end s.graph load.specifier)) load.context h))

      awaited_more : (item : WaitingPackage) → specifier_text item.specifier ≡ d → stands s.graph d ≡ false → (k : List ℕ) → HasItem k (s.waiting ++ item ∷ []) ⊎ StandsIn s.pass k → IsNew old k
      awaited_more item at free k a = ⊎_elim (λ w. ⊎_elim (λ before. past.awaited k (inl before)) (λ is. subst (IsNew old) (sym (is ∙ at)) (none_there free)) (has_item_cases k s.waiting item w)) (λ p. past.awaited k (inr p)) a

      by_entered : (u : State) → Entered s load.context (redirected_end s.graph load.specifier) u → Past old u
      by_entered u (refused {kind} e) = absurd (let wrong : None ≡ Some kind = sym no_error ∙ e in true≢false (sym (ap is_some wrong)))
      by_entered u (waits h w) = past_beside s u (record { slots = refl; redirects = refl; starts_are = refl; flags = refl; loads = refl }) (λ k a. a) past
      by_entered u (found h) = past_beside s u (record { slots = refl; redirects = refl; starts_are = refl; flags = refl; loads = refl }) (λ k a. a) past
      by_entered u (unstated {kind} f h e) = past_slot s d (failed_slot kind) (unshut h) refl past
      by_entered u (node h n) =
          let v = node_slot (redirected_end s.graph load.specifier) in
          past_beside (record s { graph = put_at s.graph d v }) u (record { slots = refl; redirects = refl; starts_are = refl; flags = refl; loads = refl }) (λ k a. a) (past_slot s d v (unshut h) refl past)
      by_entered u (no_package {e} f h j named) = past_slot s d (failed_slot (LoadFails (redirected_end s.graph load.specifier) load.context.range (Jsr (PackageFormat e)))) (unshut h) refl past
      by_entered u (no_npm_package {e} f h j named) = past_slot s d (failed_slot (LoadFails (redirected_end s.graph load.specifier) load.context.range (Npm (PackageReqReferenceParse e)))) (unshut h) refl past
      by_entered u (passed_through {notes} f h j named p) =
          let v = external_slot (redirected_end s.graph load.specifier) false in
          past_beside (record s { graph = put_at s.graph d v }) u (record { slots = refl; redirects = refl; starts_are = refl; flags = refl; loads = refl }) (λ k a. a) (past_slot s d v (unshut h) refl past)
      by_entered u (stands_there j h) = past_beside s u (record { slots = refl; redirects = refl; starts_are = refl; flags = refl; loads = refl }) (λ k a. a) past
      by_entered u (awaits {notes} {r} f h j named p) = record {
        slots = past.slots;
        redirects = past.redirects;
        loads = past.loads;
        awaited = awaited_more (waiting_at (redirected_end s.graph load.specifier) r load.context) refl h;
        plain = past.plain;
        away = past.away;
      }
      by_entered u (resolves f h j o named) = past_beside s u (record { slots = refl; redirects = refl; starts_are = refl; flags = refl; loads = refl }) (λ k a. a) past
      by_entered u (opens {notes} free h n) = record {
        slots = past_put s.graph d (Pending load.context.asset) (unshut h) past.slots;
        redirects = past.redirects;
        loads = All-push (λ l. IsNew old (specifier_text l.specifier)) s.loads _ past.loads (unshut h);
        awaited = past.awaited;
        plain = λ k. shut_put s.graph d (Pending load.context.asset) k (λ same. refl) (past.plain k);
        away = away_put s.graph d (Pending load.context.asset) (unshut h) past.away;
      }

  -- the redirect of a load that opened where nothing stood
  pub past_redirected : (s : State) (a n : Parts) → IsNew old (specifier_text a) → Past old s → Past old (record s { graph = moved s.graph a n })
  past_redirected s a n new past = record {
    slots = past_moved s.graph a n (moved s.graph a n) (how_moved s.graph a n) new past.slots;
    redirects = past_redirects s.graph a n (moved s.graph a n) (how_moved s.graph a n) new past.redirects;
    loads = past.loads;
    awaited = past.awaited;
    plain = λ k. plain_as (moved s.graph a n) (how_moved s.graph a n) k;
    away = away_moved s.graph a n (moved s.graph a n) (how_moved s.graph a n) past.away;
  }
    where
      plain_as : (u : ModuleGraph) → Moved s.graph a n u → (k : List ℕ) → asset_at (finite.get u.slots k) ≡ false
      plain_as u (cut pending) k = ⊎_elim
          (λ same. ap (λ z. asset_at (finite.get (finite.remove s.graph.slots (specifier_text a)) z)) same ∙ gone)
          (λ ne. ap asset_at (cut_other s.graph.slots (specifier_text a) k ne) ∙ past.plain k)
          (cases_text k (specifier_text a))
        where
          gone : asset_at (finite.get (finite.remove s.graph.slots (specifier_text a)) (specifier_text a)) ≡ false
          gone = ap asset_at (cut_same s.graph.slots (specifier_text a))
      plain_as u (stays still) k = past.plain k
      plain_as u (put still) k = past.plain k

  -- a version file that was read
  pub past_file : (s : State) (nv : PackageNv) (kept : Result KeptVersion JsrLoadError) → Past old s → Past old (file_kept s nv kept)
  past_file s nv (Ok v) past = past_beside s (file_kept s nv (Ok v)) (record { slots = refl; redirects = refl; starts_are = refl; flags = refl; loads = refl }) (λ k a. a) past
  past_file s nv (Err e) past = past_beside s (file_kept s nv (Err e)) (record { slots = refl; redirects = refl; starts_are = refl; flags = refl; loads = refl }) (λ k a. a) past

  -- a final slot at the specifier of a load that opened where nothing stood
  pub past_stored : (s : State) (k : List ℕ) (v : ModuleSlot) (names : List Parts) (sums : Option KnownSums) → IsNew old k → is_asset_slot v ≡ false → Past old s → Past old (record s { graph = put_at s.graph k v; root_names = names; sums = sums })
  past_stored s k v names sums new not_asset past = past_beside (record s { graph = put_at s.graph k v }) (record s { graph = put_at s.graph k v; root_names = names; sums = sums }) (record { slots = refl; redirects = refl; starts_are = refl; flags = refl; loads = refl }) (λ q a. a) (past_slot s k v new not_asset past)
