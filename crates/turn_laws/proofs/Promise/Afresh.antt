-- Where loads open nothing stood at entry but what is asked for again, and so it is where contents are to come.
use Rattle.std.proofs.Common.{◌≡◌, ◌≢◌, ℕ, List, [], ◌∷◌, ◌++◌, Bool, true, false, if◌then◌else◌, Option, None, Some, Result, Ok, Err, is_some, refl, sym, ap, ◌∙◌, subst, inl, inr, ⊎_elim, ◌⊎◌, arith}
use Rattle.std.proofs.lemmas.Bool.{true≢false}
use Rattle.std.proofs.lemmas.List.Elements.{Contains-push_cases}
use Rattle.std.specs.Prelude.{fold}
use Rattle.std.specs.FinMap as finite
use Rattle.std.specs.FinMap.{FinMap}
use Rattle.std.specs.List.{Contains}
use Rattle.url.specs.Parts.{Parts}
use Rattle.spec_base.specs.Options.{by_option}
use Rattle.spec_base.specs.Shown.{text_cmp}
use Rattle.spec_base.specs.Specifier.{same_specifier, specifier_text}
use Rattle.semver_npm.specs.declared.npm_error.NpmLoadError.TheVariants.{PackageReqReferenceParse}
use Rattle.semver_npm.specs.declared.package.PackageNv.{PackageNv}
use Rattle.pkg_records.specs.Kept.{with_dependency}
use Rattle.version_dates.specs.declared.newest_date.NewestDependencyDateOptions.{NewestDependencyDateOptions}
use Rattle.registry_urls.specs.Meaning.{RegistryMeaning}
use Rattle.registry_files.specs.declared.kept_version.KeptVersion.{KeptVersion}
use Rattle.registry_files.specs.Answers.{FileAnswer}
use Rattle.graph_errors.specs.Errors.{error_of, redirects_error}
use Rattle.graph_errors.specs.declared.errors.ModuleErrorKind.TheVariants.{Load as LoadFails}
use Rattle.graph_errors.specs.declared.errors.ModuleLoadError.TheVariants.{Npm}
use Rattle.graph_errors.specs.declared.jsr_error.JsrLoadError.{JsrLoadError}
use Rattle.graph_errors.specs.declared.jsr_error.JsrLoadError.TheVariants.{PackageFormat, UnsupportedManifestChecksum}
use Rattle.graph_core.specs.declared.graph.ModuleGraph.{ModuleGraph}
use Rattle.module_slots.specs.declared.load.Load.{Load}
use Rattle.module_slots.specs.declared.load.LoadContext.{LoadContext}
use Rattle.module_slots.specs.declared.slot.ModuleSlot.{ModuleSlot}
use Rattle.module_slots.specs.declared.slot.ModuleSlot.TheVariants.{Err as Failed, Pending}
use Rattle.slot_making.specs.Filled.{filled_slot}
use Rattle.module_slots.specs.Slots.{failed_slot, is_asset_slot, is_pending}
use Rattle.graph_turns.specs.declared.question_of.Asked.{Asked}
use Rattle.graph_turns.specs.declared.choosing.Verdict.{Verdict}
use Rattle.graph_turns.specs.declared.choosing.Verdict.TheVariants.{AsksAgain, Probes, Restarts, Gets, Fails}
use Rattle.graph_turns.specs.declared.dependencies.Note.{Note}
use Rattle.graph_turns.specs.declared.exports.Export.{Export}
use Rattle.graph_turns.specs.declared.later_content.LaterContent.{LaterContent}
use Rattle.graph_turns.specs.declared.manner.Manner.{Manner}
use Rattle.graph_turns.specs.declared.manner.Manner.TheVariants.{Asks, Reads, Unread, Unsupported}
use Rattle.graph_turns.specs.declared.next.Next.{Next}
use Rattle.graph_turns.specs.declared.next.Next.TheVariants.{Restart}
use Rattle.graph_turns.specs.declared.outcome.Outcome.{Outcome}
use Rattle.graph_turns.specs.declared.outcome.Outcome.TheVariants.{At}
use Rattle.graph_turns.specs.declared.passes.Chosen.{Chosen}
use Rattle.graph_turns.specs.declared.passes.Pass.{Pass}
use Rattle.graph_turns.specs.declared.starting.ResolvedStart.{ResolvedStart}
use Rattle.graph_turns.specs.declared.state.State.{State}
use Rattle.graph_turns.specs.declared.waiting.WaitingPackage.{WaitingPackage}
use Rattle.graph_turns.specs.Machine.Contents.{content_placed, filled_at}
use Rattle.graph_turns.specs.Machine.Files.{file_kept}
use Rattle.graph_turns.specs.Machine.Known.{Known}
use Rattle.graph_turns.specs.Machine.Outcomes.{Suits, failure_outcome}
use Rattle.graph_turns.specs.Machine.Outcomes.Suits.{settles, comes, goes_on}
use Rattle.graph_turns.specs.Machine.Redirects.{redirected_end, moved, renamed}
use Rattle.graph_turns.specs.Machine.Choosing.{judged_by, with_choice}
use Rattle.graph_turns.specs.Machine.Passes.{all_entered, export_entered, exports_entered_in, versions_asked_in, with_used}
use Rattle.graph_turns.specs.Machine.RegistryFiles.{wanted_kept}
use Rattle.graph_turns.specs.Machine.Starting.{start_entered, start_entry, with_start}
use Rattle.graph_turns.specs.Machine.Turns.{deferred_entered, dynamic_entered, failing, gone_on, waited_imports, waited_loads}
use Rattle.graph_turns.specs.Machine.Waiting.{notes_added, with_noted}
use Rattle.graph_turns.specs.Promise.Contents.{content_error}
use Rattle.graph_turns.specs.Promise.Input.{EnteredGraph}
use Rattle.graph_turns.specs.Promise.Reached.{in_package}
use Rattle.graph_turns.specs.Promise.Packages.{unjoinable}
use Rattle.graph_turns.specs.Promise.Slots.{external_slot, jsr_slot, node_slot}
use Rattle.graph_turns.specs.Promise.Versions.{kept_of}
use Rattle.graph_core.proofs.At.{cases_text, put_same, put_other, cut_other}
use Rattle.graph_turns.proofs.Entering.Contents.{ContentPlaced, SlotFilled, how_content, how_filled}
use Rattle.graph_turns.proofs.Entering.Contents.ContentPlaced.{came, missed}
use Rattle.graph_turns.proofs.Entering.Contents.SlotFilled.{stands, gone}
use Rattle.graph_turns.proofs.Entering.Enter.{Entered, Edged, how_entered, how_edged}
use Rattle.graph_turns.proofs.Entering.Enter.Entered.{refused, waits, stood as found, unstated, node, no_package, no_npm_package, passed_through, stays, awaits, opens, resolves}
use Rattle.graph_turns.proofs.Entering.Enter.Edged.{queues, enters}
use Rattle.graph_turns.proofs.Entering.Loads.{HasLoad, has_load_cases}
use Rattle.turn_laws.proofs.Entering.Placed.{Placed, asset_outside, how_placed, not_pending, settled_here}
use Rattle.turn_laws.proofs.Entering.Placed.Placed.{there, stood}
use Rattle.graph_turns.proofs.Entering.Exports.{ExportEntered, how_export, used}
use Rattle.graph_turns.proofs.Entering.Exports.ExportEntered.{refused as export_refused, unjoined, ended, onward}
use Rattle.graph_turns.proofs.Entering.Files.{WantedKept, how_wanted}
use Rattle.graph_turns.proofs.Entering.Files.WantedKept.{no_file, of_package, of_package_again, of_probe, of_version}
use Rattle.graph_turns.proofs.Entering.Judged.{how_judged}
use Rattle.graph_turns.proofs.Entering.Next.{NextIs}
use Rattle.graph_turns.proofs.Entering.Next.NextIs.{notes as comes_notes, loads as comes_load, wanted as comes_file, restart as comes_restart, item as comes_item, versions as comes_versions, exports as comes_exports, deferred as comes_deferred, waiting as comes_waiting, dynamic as comes_dynamic, content as comes_content, ends as comes_end}
use Rattle.graph_turns.proofs.Leading.Ways.{put_at, cut_at, redirect_to}
use Rattle.turn_laws.proofs.Promise.Filling.{filled_final, filled_inside, how_filled as how_slot, put_back}
use Rattle.turn_laws.proofs.Promise.GraphKept.{later_among}
use Rattle.turn_laws.proofs.Promise.Sound.{asset_at, shut_none}
use Rattle.turn_laws.proofs.Promise.Storing.{Moved, how_moved}
use Rattle.turn_laws.proofs.Promise.Storing.Moved.{cut, stays as moved_stays, put}
use Rattle.graph_turns.specs.Machine.Entering.{IsFinal, begun_at, edges_from, enter, enter_all, enter_edge, enter_edges, hop, is_shut, placed_at, redirected, redirects_ended, resting_state, stored, stored_at, with_mark, is_end}

-- a slot that is no load, and that isn't asked for again
pub record IsFirm (v : ModuleSlot) : Type 0 where
  pub final : is_pending v ≡ false
  pub inside : is_asset_slot v ≡ false

-- such a one stands at a text
pub record HasFirm (g : ModuleGraph) (k : List ℕ) : Type 0 where
  pub slot : ModuleSlot
  pub here : finite.get g.slots k ≡ Some slot
  pub firm : IsFirm slot

some_same : (x y : Outcome) → Some x ≡ Some y → x ≡ y
some_same x y e = cc

module _ (o : EnteredGraph) where
  -- none such stood at a text at entry
  abbrev pub IsFree : List ℕ → Type 0
  IsFree k = (v : ModuleSlot) → finite.get o.graph.slots k ≡ Some v → IsFirm v → ⊥

  -- where one stood at entry, one stands
  abbrev pub AreFirm : ModuleGraph → Type 0
  AreFirm g = (k : List ℕ) (v : ModuleSlot) → finite.get o.graph.slots k ≡ Some v → IsFirm v → HasFirm g k

  pub record Afresh (s : State) : Type 0 where
    pub firm : AreFirm s.graph
    pub loads : (k : List ℕ) → HasLoad k s.loads → IsFree k
    pub contents : (l : LaterContent) → Contains s.contents l → IsFree (specifier_text l.specifier)

  afresh_over : (s : State) (g : ModuleGraph) → AreFirm g → Afresh s → Afresh (record s { graph = g })
  afresh_over s g firm now = record { firm = firm; loads = now.loads; contents = now.contents }

  -- ---- slots that are put

  firm_as : (g u : ModuleGraph) (k : List ℕ) → finite.get u.slots k ≡ finite.get g.slots k → HasFirm g k → HasFirm u k
  firm_as g u k same old = record { slot = old.slot; here = same ∙ old.here; firm = old.firm }

  -- at each text where one stood at entry the slot is firm that is put
  firm_put : (g : ModuleGraph) (k : List ℕ) (v : ModuleSlot) → ((u : ModuleSlot) → finite.get o.graph.slots k ≡ Some u → IsFirm u → IsFirm v) → AreFirm g → AreFirm (put_at g k v)
  firm_put g k v new firm = λ q u e f. ⊎_elim
      (λ same. subst (HasFirm (put_at g k v)) (sym same) record { slot = v; here = put_same g.slots k v; firm = new u (subst (λ z. finite.get o.graph.slots z ≡ Some u) same e) f })
      (λ ne. firm_as g (put_at g k v) q (put_other g.slots k v q ne) (firm q u e f))
      (cases_text q k)

  -- where a load isn't shut out, none stood
  free_open : (g : ModuleGraph) (k : List ℕ) (c : LoadContext) → is_shut (finite.get g.slots k) c ≡ false → AreFirm g → IsFree k
  free_open g k c free firm = λ v e f.
      let now = firm k v e f in
      let at = now.here in
      ⊎_elim
      (λ none. true≢false (sym (ap is_some at) ∙ none))
      (λ asset. true≢false (sym (sym (ap asset_at at) ∙ asset.0) ∙ now.firm.inside))
      (shut_none (finite.get g.slots k) c free)

  firm_placed : (g : ModuleGraph) (n : Parts) (v : ModuleSlot) (u : ModuleGraph) → Placed g n v u → is_pending v ≡ false → AreFirm g → AreFirm u
  firm_placed g n v u (there free) final firm = firm_put g (specifier_text n) v (λ old e f. record { final = final; inside = by old e f (is_asset_slot v) refl }) firm
    where
      by : (old : ModuleSlot) → finite.get o.graph.slots (specifier_text n) ≡ Some old → IsFirm old → (b : Bool) → is_asset_slot v ≡ b → is_asset_slot v ≡ false
      by old e f false t = t
      by old e f true t = absurd (
          let now = firm (specifier_text n) old e f in
          true≢false (sym (settled_here (finite.get g.slots (specifier_text n)) now.slot now.here now.firm.final) ∙ free (asset_outside v t)))
  firm_placed g n v u (stood outside settled) final firm = firm

  firm_as_moved : (g : ModuleGraph) (a n : Parts) (u : ModuleGraph) → Moved g a n u → AreFirm g → AreFirm u
  firm_as_moved g a n u (cut {asset} pending) firm = λ k v e f. let now = firm k v e f in firm_as g (redirect_to (cut_at g (specifier_text a)) (specifier_text a) n) k (cut_other g.slots (specifier_text a) k (apart k now)) now
    where
      apart : (k : List ℕ) → HasFirm g k → k ≢ specifier_text a
      apart k now same =
          let at : finite.get g.slots (specifier_text a) ≡ Some now.slot = subst (λ z. finite.get g.slots z ≡ Some now.slot) same now.here in
          let one : now.slot ≡ Pending asset = cc in
          not_pending now.slot asset now.firm.final one
  firm_as_moved g a n u (moved_stays still) firm = firm
  firm_as_moved g a n u (put still) firm = λ k v e f. firm_as g (redirect_to g (specifier_text a) n) k refl (firm k v e f)

  firm_moved : (g : ModuleGraph) (a n : Parts) → AreFirm g → AreFirm (moved g a n)
  firm_moved g a n firm = firm_as_moved g a n (moved g a n) (how_moved g a n) firm

  firm_renamed : (g : ModuleGraph) (a n : Parts) → AreFirm g → AreFirm (renamed g a n)
  firm_renamed g a n firm = by (same_specifier a n)
    where
      by : (b : Bool) → AreFirm (if b then g else moved g a n)
      by true = firm
      by false = firm_moved g a n firm

  -- ---- entering

  -- a firm slot over any
  afresh_failed : (s : State) (at : Parts) (v : ModuleSlot) → is_pending v ≡ false → is_asset_slot v ≡ false → Afresh s → Afresh (record s { graph = put_at s.graph (specifier_text at) v })
  afresh_failed s at v final inside now = afresh_over s (put_at s.graph (specifier_text at) v) (firm_put s.graph (specifier_text at) v (λ u e f. record { final = final; inside = inside }) now.firm) now

  afresh_entered : (s : State) (c : LoadContext) (at : Parts) (u : State) → Entered s c at u → Afresh s → Afresh u
  afresh_entered s c at u (refused {kind} e) now = afresh_over s _ (firm_put s.graph (specifier_text at) (failed_slot kind) (λ v e f. record { final = refl; inside = refl }) now.firm) now
  afresh_entered s c at u (waits h v) now = record { firm = now.firm; loads = now.loads; contents = now.contents }
  afresh_entered s c at u (found h) now = record { firm = now.firm; loads = now.loads; contents = now.contents }
  afresh_entered s c at u (stays j h) now = record { firm = now.firm; loads = now.loads; contents = now.contents }
  afresh_entered s c at u (no_package {e} f h j n) now = afresh_failed s at (jsr_slot at c (PackageFormat e)) refl refl now
  afresh_entered s c at u (no_npm_package {e} f h j n) now = afresh_failed s at (Failed (error_of (LoadFails at c.range (Npm (PackageReqReferenceParse e))))) refl refl now
  afresh_entered s c at u (passed_through f h j n p) now =
      let t = afresh_failed s at (external_slot at false) refl refl now in
      record { firm = t.firm; loads = t.loads; contents = t.contents }
  afresh_entered s c at u (awaits f h j n p) now = record { firm = now.firm; loads = now.loads; contents = now.contents }
  afresh_entered s c at u (resolves f h j o n) now = record { firm = now.firm; loads = now.loads; contents = now.contents }
  afresh_entered s c at u (unstated {kind} f h e) now = afresh_over s _ (firm_put s.graph (specifier_text at) (failed_slot kind) (λ v e f. record { final = refl; inside = refl }) now.firm) now
  afresh_entered s c at u (node h n) now =
      let put_it = firm_put s.graph (specifier_text at) (node_slot at) (λ v e f. record { final = refl; inside = refl }) now.firm in
      afresh_over s _ (λ k v e f. firm_as (put_at s.graph (specifier_text at) (node_slot at)) _ k refl (put_it k v e f)) now
  afresh_entered s c at u (opens f h n) now = record {
    firm = firm_put s.graph (specifier_text at) (Pending c.asset) (λ v e g. absurd (free_open s.graph (specifier_text at) c h now.firm v e g)) now.firm;
    loads = λ k a. ⊎_elim (now.loads k) (λ same. subst IsFree (sym same) (free_open s.graph (specifier_text at) c h now.firm)) (has_load_cases k s.loads _ a);
    contents = now.contents;
  }

  pub afresh_enter : (s : State) (load : Load) → Afresh s → Afresh (enter s load)
  afresh_enter s load now = afresh_entered s load.context (redirected_end s.graph load.specifier) (enter s load) (how_entered s load) now

  pub afresh_enter_all : (s : State) (loads : List Load) → Afresh s → Afresh (enter_all s loads)
  unfolding enter_all
  afresh_enter_all s [] now = now
  afresh_enter_all s (load ∷ loads) now = afresh_enter_all (enter s load) loads (afresh_enter s load now)

  afresh_edged : (s : State) (load : Load) (u : State) → Edged s load u → Afresh s → Afresh u
  afresh_edged s load u (queues p f) now = record { firm = now.firm; loads = now.loads; contents = now.contents }
  afresh_edged s load u enters now = afresh_enter s (with_mark s.root_names load) now

  afresh_edges : (s : State) (loads : List Load) → Afresh s → Afresh (enter_edges s loads)
  unfolding enter_edges
  afresh_edges s [] now = now
  afresh_edges s (load ∷ loads) now = afresh_edges (enter_edge s load) loads (afresh_edged s load (enter_edge s load) (how_edged s load) now)

  -- before the loads of a call enter, with nothing open and no content to come
  afresh_blank : (s : State) → s.graph ≡ o.graph → s.loads ≡ [] → s.contents ≡ [] → Afresh s
  afresh_blank s graph loads contents = record {
    firm = λ k v e f. record { slot = v; here = ap (λ (g : ModuleGraph). finite.get g.slots k) graph ∙ e; firm = f };
    loads = λ k a. absurd (subst (HasLoad k) loads a);
    contents = λ l among. absurd (none_among l (subst (λ (c : List LaterContent). Contains c l) contents among));
  }
    where
      none_among : (l : LaterContent) → Contains {X = LaterContent} [] l → ⊥
      none_among l among = let below = among.1 in omega (arith, below)

  pub afresh_begun : (known : Known) → Afresh (begun_at known o)
  afresh_begun known = afresh_enter_all (resting_state known o.graph) o.loads (afresh_blank (resting_state known o.graph) refl refl refl)

  -- ---- storing

  afresh_at : (s : State) (load : Load) (held : Option PackageNv) (name : Parts) (slot : ModuleSlot) → Afresh s → is_pending slot ≡ false → Afresh (stored_at s load held name slot)
  afresh_at s load held name slot now final =
      afresh_edges (placed_at s load held name slot) (edges_from s.graph.kind s.flags.skip_dynamic_deps slot (in_package held load.context)) record {
        firm = firm_placed (renamed s.graph load.specifier name) name slot _ (how_placed (renamed s.graph load.specifier name) name slot) final (firm_renamed s.graph load.specifier name now.firm);
        loads = now.loads;
        contents = now.contents;
      }

  afresh_to : (s : State) (load : Load) (n : Parts) (b : Bool) → Afresh s → Afresh (if b then redirects_ended s load else redirected s load n)
  afresh_to s load n true now = afresh_over s _ (firm_put s.graph (specifier_text load.specifier) (Failed (redirects_error load.specifier load.context.range)) (λ v e f. record { final = refl; inside = refl }) now.firm) now
  afresh_to s load n false now =
      afresh_enter (record s { graph = moved s.graph load.specifier n }) (record { specifier = n; context = hop load.context; is_type = false })
      (afresh_over s _ (firm_moved s.graph load.specifier n now.firm) now)

  -- the content of a module that was asked for is to come
  afresh_with : (s : State) (l : LaterContent) → IsFree (specifier_text l.specifier) → Afresh s → Afresh (record s { contents = s.contents ++ l ∷ [] })
  afresh_with s l free now = record {
    firm = now.firm;
    loads = now.loads;
    contents = λ x among. ⊎_elim (now.contents x) (λ same. subst (λ (y : LaterContent). IsFree (specifier_text y.specifier)) same free) (Contains-push_cases s.contents l x among);
  }

  afresh_rest : (rest : State) (load : Load) → Afresh (record rest { loads = load ∷ rest.loads }) → Afresh rest × IsFree (specifier_text load.specifier)
  afresh_rest rest load now = (
    record { firm = now.firm; loads = λ k a. now.loads k (inr a); contents = now.contents },
    now.loads (specifier_text load.specifier) (inl refl),
  )

  afresh_suits : (most : ℕ) (rest : State) (load : Load) (asked : Asked) (outcome : Outcome) → Suits load asked outcome → IsFinal load outcome → Afresh rest × IsFree (specifier_text load.specifier) → Afresh (stored most rest load outcome)
  unfolding stored
  afresh_suits most rest load asked outcome (settles {name} {slot}) final parts = afresh_at rest load asked.held name slot parts.0 final.0
  afresh_suits most rest load asked outcome (comes {slot} reads) final parts =
      let l : LaterContent = record { specifier = load.specifier; context = load.context; checksum = asked.checksum } in
      afresh_at (record rest { contents = rest.contents ++ l ∷ [] }) load asked.held load.specifier slot (afresh_with rest l parts.1 parts.0) final.0
  afresh_suits most rest load asked outcome (goes_on {n} e) final parts = afresh_to rest load n (is_end most rest load n) parts.0

  pub afresh_stored : (most : ℕ) (rest : State) (load : Load) (asked : Asked) (outcome : Outcome) → Afresh (record rest { loads = load ∷ rest.loads }) → Suits load asked outcome → IsFinal load outcome → Afresh (stored most rest load outcome)
  afresh_stored most rest load asked outcome now suits final = afresh_suits most rest load asked outcome suits final (afresh_rest rest load now)

  -- a slot with no content to come
  pub afresh_plain : (most : ℕ) (rest : State) (load : Load) (name : Parts) (slot : ModuleSlot) (held : Option PackageNv) → Afresh (record rest { loads = load ∷ rest.loads }) → is_pending slot ≡ false → Afresh (stored most rest load (At name slot held None))
  unfolding stored
  afresh_plain most rest load name slot held now final = afresh_at rest load held name slot (afresh_rest rest load now).0 final

  -- a load that fails without a question
  pub afresh_failing : (most : ℕ) (rest : State) (load : Load) (m : Manner) (outcome : Outcome) → Afresh (record rest { loads = load ∷ rest.loads }) → failing load m ≡ Some outcome → Afresh (stored most rest load outcome)
  afresh_failing most rest load (Asks asked) outcome now e = absurd (let wrong : None ≡ Some outcome = e in cc)
  afresh_failing most rest load (Reads nv) outcome now e = absurd (let wrong : None ≡ Some outcome = e in cc)
  afresh_failing most rest load (Unread name err) outcome now e =
      subst (λ x. Afresh (stored most rest load x)) (some_same (failure_outcome load.context name err) outcome e) (afresh_plain most rest load name (jsr_slot name load.context err) load.context.«package» now refl)
  afresh_failing most rest load Unsupported outcome now e =
      subst (λ x. Afresh (stored most rest load x)) (some_same (failure_outcome load.context load.specifier UnsupportedManifestChecksum) outcome e) (afresh_plain most rest load load.specifier (jsr_slot load.specifier load.context UnsupportedManifestChecksum) load.context.«package» now refl)

  -- ---- where no load is open

  -- whatever else changes than the graph, loads and contents
  afresh_as : (s u : State) → u.graph ≡ s.graph → u.loads ≡ s.loads → u.contents ≡ s.contents → Afresh s → Afresh u
  afresh_as s u graph loads contents now = record {
    firm = subst AreFirm (sym graph) now.firm;
    loads = λ k a. now.loads k (subst (HasLoad k) loads a);
    contents = λ l among. now.contents l (subst (λ (c : List LaterContent). Contains c l) contents among);
  }

  pub afresh_deferred : (s : State) → Afresh s → Afresh (deferred_entered s)
  unfolding deferred_entered
  afresh_deferred s now = afresh_enter_all (record s { deferred = [] }) (waited_loads s.deferred) record { firm = now.firm; loads = now.loads; contents = now.contents }

  pub afresh_dynamic : (s : State) → Afresh s → Afresh (dynamic_entered s)
  unfolding dynamic_entered
  afresh_dynamic s now = afresh_enter_all (record s { dynamic = []; is_dynamic = true }) (waited_imports s.root_names s.dynamic) record { firm = now.firm; loads = now.loads; contents = now.contents }

  -- ---- passes

  -- a graph with other packages
  firm_packages : (g u : ModuleGraph) → u.slots ≡ g.slots → AreFirm g → AreFirm u
  firm_packages g u same firm = λ k v e f. firm_as g u k (ap (λ (m : FinMap text_cmp ModuleSlot). finite.get m k) same) (firm k v e f)

  noted_slots : (registry : RegistryMeaning) (g : ModuleGraph) (notes : List Note) → (fold (with_noted registry) g notes).slots ≡ g.slots
  noted_slots registry g [] = refl
  noted_slots registry g (note ∷ notes) = noted_slots registry (with_noted registry g note) notes ∙ by (registry.nv_of note.referrer)
    where
      by : (held : Option PackageNv) → (by_option held g (λ nv. record g { packages = with_dependency g.packages nv note.dependency })).slots ≡ g.slots
      by None = refl
      by (Some nv) = refl

  afresh_notes : (registry : RegistryMeaning) (s : State) → Afresh s → Afresh (notes_added registry s)
  afresh_notes registry s now = record { firm = firm_packages s.graph (fold (with_noted registry) s.graph s.notes) (noted_slots registry s.graph s.notes) now.firm; loads = now.loads; contents = now.contents }

  afresh_judged : (s : State) (p : Pass) (item : WaitingPackage) (items : List WaitingPackage) (v : Verdict) → Afresh s → Afresh (judged_by s p item items v)
  afresh_judged s p item items (AsksAgain name) now = record { firm = now.firm; loads = now.loads; contents = now.contents }
  afresh_judged s p item items (Probes nvs) now = record { firm = now.firm; loads = now.loads; contents = now.contents }
  afresh_judged s p item items Restarts now = record { firm = now.firm; loads = now.loads; contents = now.contents }
  afresh_judged s p item items (Gets nv yanked) now = record { firm = firm_packages s.graph (with_choice s.graph item.req nv yanked) refl now.firm; loads = now.loads; contents = now.contents }
  afresh_judged s p item items (Fails e) now =
      let t = afresh_failed s item.specifier (jsr_slot item.specifier item.context e) refl refl now in
      record { firm = t.firm; loads = t.loads; contents = t.contents }

  afresh_used : (s : State) (top : Bool) (one : Chosen) (e : Export) → Afresh s → Afresh (used s top one e)
  afresh_used s top one e now = afresh_over s (with_used s.graph one.nv e top) (firm_packages s.graph (with_used s.graph one.nv e top) refl now.firm) now

  afresh_export : (s : State) (top : Bool) (one : Chosen) (u : State) → ExportEntered s top one u → Afresh s → Afresh u
  afresh_export s top one u (export_refused {e} is) now = afresh_failed s one.item.specifier (jsr_slot one.item.specifier one.item.context e) refl refl now
  afresh_export s top one u (unjoined {e} is none) now =
      afresh_failed (used s top one e) one.item.specifier (jsr_slot one.item.specifier one.item.context (unjoinable one.nv e)) refl refl (afresh_used s top one e now)
  afresh_export s top one u (ended {e} is leads back) now =
      afresh_failed (used s top one e) one.item.specifier (Failed (redirects_error one.item.specifier one.item.context.range)) refl refl (afresh_used s top one e now)
  afresh_export s top one u (onward {e} {to} is leads back) now =
      let t = used s top one e in
      let g = moved t.graph one.item.specifier to in
      let before = afresh_used s top one e now in
      afresh_enter (record t { graph = g }) (record { specifier = to; context = in_package (Some one.nv) one.item.context; is_type = false })
      (afresh_over t g (firm_moved t.graph one.item.specifier to before.firm) before)

  afresh_all : (s : State) (top : Bool) (all : List Chosen) → Afresh s → Afresh (all_entered s top all)
  unfolding all_entered
  afresh_all s top [] now = now
  afresh_all s top (one ∷ others) now = afresh_all (export_entered s top one) top others (afresh_export s top one (export_entered s top one) (how_export s top one) now)

  -- any turn that puts no question and begins no run
  pub afresh_next : (registry : RegistryMeaning) (newest : NewestDependencyDateOptions) (s : State) (n : Next) → NextIs s n → (n ≡ Restart → ⊥) → Afresh s → Afresh (gone_on registry newest s n)
  afresh_next registry newest s n (comes_notes e) other now = afresh_notes registry s now
  afresh_next registry newest s n (comes_load m e) other now = now
  afresh_next registry newest s n (comes_file m l e) other now = now
  afresh_next registry newest s n (comes_restart m l e d) other now = absurd (other refl)
  afresh_next registry newest s n (comes_item {p} {first} {others} c goes e i) other now =
      let j = how_judged newest s p first others goes i in
      subst Afresh (sym j.is) (afresh_judged s p first others j.verdict now)
  afresh_next registry newest s n (comes_versions {p} c goes e i) other now = subst (λ x. Afresh (versions_asked_in s x)) (sym goes) record { firm = now.firm; loads = now.loads; contents = now.contents }
  afresh_next registry newest s n (comes_exports {p} c goes e) other now = subst (λ x. Afresh (exports_entered_in s x)) (sym goes)
      (afresh_all (record s { pass = None }) p.is_top_level p.chosen record { firm = now.firm; loads = now.loads; contents = now.contents })
  afresh_next registry newest s n (comes_deferred d e) other now = afresh_deferred s now
  afresh_next registry newest s n (comes_waiting d x e) other now = record { firm = now.firm; loads = now.loads; contents = now.contents }
  afresh_next registry newest s n (comes_dynamic d x y e) other now = afresh_dynamic s now
  afresh_next registry newest s n (comes_content i e) other now = now
  afresh_next registry newest s n (comes_end i) other now = now

  -- ---- files

  pub afresh_file : (s : State) (nv : PackageNv) (read : Result KeptVersion JsrLoadError) → Afresh s → Afresh (file_kept s nv read)
  afresh_file s nv (Ok v) now = record { firm = λ k u e f. firm_as s.graph _ k refl (now.firm k u e f); loads = now.loads; contents = now.contents }
  afresh_file s nv (Err e) now = record { firm = now.firm; loads = now.loads; contents = now.contents }

  afresh_wanted_by : (registry : RegistryMeaning) (s : State) (answer : FileAnswer) (u : State) → WantedKept registry s answer u → Afresh s → Afresh u
  afresh_wanted_by registry s answer u (no_file e) now = now
  afresh_wanted_by registry s answer u (of_package e) now = record { firm = now.firm; loads = now.loads; contents = now.contents }
  afresh_wanted_by registry s answer u (of_package_again e) now = record { firm = now.firm; loads = now.loads; contents = now.contents }
  afresh_wanted_by registry s answer u (of_probe e) now = record { firm = now.firm; loads = now.loads; contents = now.contents }
  afresh_wanted_by registry s answer u (of_version {nv} {files} e) now = afresh_file (record s { wanted = files }) nv (kept_of registry nv answer) record { firm = now.firm; loads = now.loads; contents = now.contents }

  -- what was answered about the first file that is wanted
  pub afresh_wanted : (registry : RegistryMeaning) (s : State) (answer : FileAnswer) → Afresh s → Afresh (wanted_kept registry s answer)
  afresh_wanted registry s answer now = afresh_wanted_by registry s answer (wanted_kept registry s answer) (how_wanted registry s answer) now

  -- ---- contents

  firm_filled : (g : ModuleGraph) (s : Parts) (content : List ℕ) (u : ModuleGraph) → SlotFilled g s content u → AreFirm g → AreFirm u
  firm_filled g s content u (stands {slot} at) firm = subst AreFirm (sym (put_back g s (filled_slot content slot)))
      (firm_put g (specifier_text s) (filled_slot content slot) (λ v e f. was v e f) firm)
    where
      was : (v : ModuleSlot) → finite.get o.graph.slots (specifier_text s) ≡ Some v → IsFirm v → IsFirm (filled_slot content slot)
      was v e f =
          let now = firm (specifier_text s) v e f in
          let one : now.slot ≡ slot = let here = now.here in cc in
          let is : IsFirm slot = subst IsFirm one now.firm in
          record { final = filled_final slot (filled_slot content slot) (how_slot content slot) is.final; inside = filled_inside slot (filled_slot content slot) (how_slot content slot) is.inside }
  firm_filled g s content u (gone e) firm = firm

  firm_content : (g : ModuleGraph) (l : LaterContent) (a : FileAnswer) (u : ModuleGraph) → ContentPlaced g l a u → AreFirm g → AreFirm u
  firm_content g l a u (came {content} is) firm = firm_filled g l.specifier content (filled_at g l.specifier content) (how_filled g l.specifier content) firm
  firm_content g l a u (missed none) firm = firm_put g (specifier_text l.specifier) (Failed (content_error l a)) (λ v e f. record { final = refl; inside = refl }) firm

  -- the first content comes
  pub afresh_content : (s : State) (l : LaterContent) (ls : List LaterContent) (a : FileAnswer) → s.contents ≡ l ∷ ls → Afresh s → Afresh (record s { graph = content_placed s.graph l a; contents = ls })
  afresh_content s l ls a e now = record {
    firm = firm_content s.graph l a (content_placed s.graph l a) (how_content s.graph l a) now.firm;
    loads = now.loads;
    contents = λ x among. now.contents x (subst (λ (c : List LaterContent). Contains c x) (sym e) (later_among l ls x among));
  }

-- what a build begins with enters
pub afresh_started : (s : State) (start : ResolvedStart) → s.loads ≡ [] → s.contents ≡ [] → Afresh (start_entry s.flags.is_dynamic s.graph start) (start_entered s start)
unfolding start_entered
afresh_started s start loads contents =
    let o : EnteredGraph = start_entry s.flags.is_dynamic s.graph start in
    let t : State = record s { graph = with_start s.graph start } in
    afresh_enter_all o t o.loads (afresh_blank o t refl loads contents)
