-- While a build is in the static phase, its open loads are static, and each slot is explained by a pair in that phase.
use Rattle.std.proofs.Common.{◌≡◌, ℕ, ◌+◌, ◌<◌, min, List, [], ◌∷◌, Bool, true, false, if◌then◌else◌, Some, Result, Ok, Err, refl, sym, ap, ◌∙◌, subst, inl, inr, ⊎_elim, ◌⊎◌, arith, Option, None}
use Rattle.std.specs.Prelude.{IfSome}
use Rattle.std.specs.List.{All}
use Rattle.std.proofs.lemmas.Bool.{leb-false, true≢false}
use Rattle.std.proofs.lemmas.List.Elements.{All-head, All-tail, All-nil, All-push}
use Rattle.std.specs.FinMap as finite
use Rattle.url.specs.Parts.{Parts}
use Rattle.spec_base.specs.Options.{by_option}
use Rattle.spec_base.specs.Specifier.{same_specifier, specifier_text}
use Rattle.registry_files.specs.Kept.{Versions}
use Rattle.registry_files.specs.declared.kept_version.KeptVersion.{KeptVersion}
use Rattle.semver_npm.specs.declared.npm_error.NpmLoadError.TheVariants.{PackageReqReferenceParse}
use Rattle.graph_errors.specs.Errors.{error_of, jsr_error, missing_error, redirects_error}
use Rattle.graph_errors.specs.declared.errors.ModuleError.{ModuleError}
use Rattle.graph_errors.specs.declared.errors.ModuleErrorKind.TheVariants.{Load as LoadFails}
use Rattle.graph_errors.specs.declared.errors.ModuleLoadError.TheVariants.{Jsr, Npm}
use Rattle.graph_errors.specs.declared.jsr_error.JsrLoadError.{JsrLoadError}
use Rattle.graph_errors.specs.declared.jsr_error.JsrLoadError.TheVariants.{PackageFormat, RedirectInPackage, UnsupportedManifestChecksum}
use Rattle.graph_core.specs.declared.graph.ModuleGraph.{ModuleGraph}
use Rattle.module_slots.specs.declared.load.Load.{Load}
use Rattle.module_slots.specs.declared.load.LoadContext.{LoadContext}
use Rattle.module_slots.specs.declared.slot.ModuleSlot.{ModuleSlot}
use Rattle.module_slots.specs.declared.slot.ModuleSlot.TheVariants.{Err as Failed, Pending}
use Rattle.graph_core.specs.Graph.{redirect_at}
use Rattle.slot_making.specs.Made.{made_slot}
use Rattle.module_slots.specs.Slots.{failed_slot}
use Rattle.graph_turns.specs.declared.manner.Manner.TheVariants.{Asks, Unsupported}
use Rattle.graph_turns.specs.declared.outcome.Outcome.TheVariants.{At, To}
use Rattle.graph_turns.specs.declared.passes.Chosen.{Chosen}
use Rattle.graph_turns.specs.declared.passes.Pass.{Pass}
use Rattle.graph_turns.specs.declared.state.State.{State}
use Rattle.graph_turns.specs.declared.waiting.WaitingPackage.{WaitingPackage}
use Rattle.graph_turns.specs.Machine.Waiting.{waiting_at}
use Rattle.graph_turns.specs.Machine.Files.{file_kept, noted}
use Rattle.graph_turns.specs.Machine.Held.{IsReadAt}
use Rattle.graph_turns.specs.Machine.Manners.{unsupported}
use Rattle.graph_turns.specs.Machine.Outcomes.{failed_outcome, failure_outcome, outcome_of}
use Rattle.graph_turns.specs.Machine.Redirects.{redirected_end, moved, renamed}
use Rattle.semver_npm.specs.declared.package.PackageNv.{PackageNv}
use Rattle.graph_turns.specs.Machine.Turns.{manner_in, told_outcome}
use Rattle.graph_turns.specs.Promise.Contents.{content_of}
use Rattle.graph_turns.specs.Promise.Explains.{Explains, IsExplainedRedirect, refusal_error}
use Rattle.graph_turns.specs.Promise.Explains.Explains.{made, outside, at_hand, missing, refused as refused_answer, redirected as redirected_answer, unsupported_sum, ended, no_package as no_package_named, no_npm_package as no_npm_package_named, passed_through as stands_outside, built_in, forbidden_asset}
use Rattle.graph_turns.specs.Promise.Forbidden.{forbidden}
use Rattle.graph_turns.specs.Promise.Input.{Given, fresh_entry}
use Rattle.graph_turns.specs.Promise.Reached.{Reached, in_package}
use Rattle.graph_turns.specs.Promise.Reached.Reached.{known, named, hopped}
use Rattle.graph_turns.specs.Promise.Slots.{external_slot, jsr_slot, node_slot}
use Rattle.graph_turns.specs.Promise.Static.{IsExplainedStatically, IsSettledStatically}
use Rattle.graph_turns.specs.Promise.Taken.{Taken, Found, Outside, AtHand, Onward, Absent, Refused, HasName, IsAsked, CountsFor, taken_answer, told_manner}
use Rattle.graph_turns.specs.Promise.Taken.HasName.{answered}
use Rattle.graph_turns.specs.Promise.Reached.IsRedirected.{to_name}
use Rattle.graph_turns.specs.declared.question_of.Asked.{Asked}
use Rattle.graph_turns.specs.Promise.Told.{Told, making_of}
use Rattle.graph_core.proofs.At.{cases_text, cut_other, cut_same, put_other, put_same, same_of_text}
use Rattle.turn_laws.proofs.Budget.Beside.{comes_with}
use Rattle.graph_turns.proofs.Entering.Enter.{Entered, Edged, how_entered, how_edged}
use Rattle.graph_turns.proofs.Entering.Enter.Entered.{refused, waits, stood as found, unstated, node, no_package, no_npm_package, passed_through, stays as stands_there, awaits, opens, resolves}
use Rattle.graph_turns.proofs.Entering.Enter.Edged.{queues, enters}
use Rattle.turn_laws.proofs.Entering.Placed.{Placed, how_placed}
use Rattle.turn_laws.proofs.Entering.Placed.Placed.{there, stood}
use Rattle.graph_turns.proofs.Leading.Follow.{follow_keeps, onward_parts}
use Rattle.graph_turns.proofs.Leading.Ways.{put_at}
use Rattle.turn_laws.proofs.Promise.GraphKept.{IsOpenSlot, kept_moved, kept_renamed, renamed_self}
use Rattle.turn_laws.proofs.Promise.Passing.{RunBegins}
use Rattle.turn_laws.proofs.Promise.Infos.{AreRight, asked_free, unsupported_told}
use Rattle.turn_laws.proofs.Promise.Kept.{Kept, IsAskedFor, IsReached, IsReadIn, IsRootName, deferred_all, edges_reached, edges_read, ends_there, marked_reached, named_roots, outside_alone}
use Rattle.turn_laws.proofs.Promise.KeptLoads.{asked_told}
use Rattle.turn_laws.proofs.Promise.Storing.{Moved, how_moved, not_used}
use Rattle.turn_laws.proofs.Promise.Storing.Moved.{cut, stays, put}
use Rattle.turn_laws.proofs.Static.Part.{IsStatic, edge_enters, edge_waits, same_phase}
use Rattle.graph_turns.specs.Machine.Entering.{edges_from, enter, enter_all, enter_edge, enter_edges, hop, is_module, placed_at, queued, redirected, redirects_ended, stored, stored_at, with_mark, is_end}

-- what waits, and stands in a pass, of a static import
abbrev pub IsStaticWait : Parts × LoadContext → Type 0
IsStaticWait e = e.1.in_dynamic_phase ≡ false

abbrev pub IsStaticItem : WaitingPackage → Type 0
IsStaticItem item = item.context.in_dynamic_phase ≡ false

abbrev pub IsStaticChoice : Chosen → Type 0
IsStaticChoice one = IsStaticItem one.item

module _ (told : Told) (given : Given) where
  -- a slot is one of a load, or explained by a pair in the static phase
  abbrev pub IsStaticSlot : List ℕ → ModuleSlot → Type 0
  IsStaticSlot k v = IsOpenSlot v ⊎ IsExplainedStatically told given k v

  abbrev pub AreStatic : ModuleGraph → Type 0
  AreStatic g = (k : List ℕ) (v : ModuleSlot) → finite.get g.slots k ≡ Some v → IsStaticSlot k v

  -- ---- graphs

  pub static_put : (g : ModuleGraph) (k : List ℕ) (v : ModuleSlot) → IsStaticSlot k v → AreStatic g → AreStatic (put_at g k v)
  static_put g k v is slots q x e = ⊎_elim (λ same. at_k same) (λ ne. slots q x (sym (put_other g.slots k v q ne) ∙ e)) (cases_text q k)
    where
      at_k : q ≡ k → IsStaticSlot q x
      at_k same =
          let here : finite.get (finite.insert g.slots k v) k ≡ Some x = subst (λ z. finite.get (finite.insert g.slots k v) z ≡ Some x) same e in
          let there = put_same g.slots k v in
          let one : v ≡ x = cc in
          subst (λ z. IsStaticSlot z x) (sym same) (subst (IsStaticSlot k) one is)

  pub static_moved : (g : ModuleGraph) (a n : Parts) (u : ModuleGraph) → Moved g a n u → AreStatic g → AreStatic u
  static_moved g a n u (cut pending) slots q x e = ⊎_elim
      (λ same. absurd (
      let here : finite.get (finite.remove g.slots (specifier_text a)) (specifier_text a) ≡ Some x = subst (λ z. finite.get (finite.remove g.slots (specifier_text a)) z ≡ Some x) same e in
      let none = cut_same g.slots (specifier_text a) in
      cc))
      (λ ne. slots q x (sym (cut_other g.slots (specifier_text a) q ne) ∙ e))
      (cases_text q (specifier_text a))
  static_moved g a n u (stays still) slots q x e = slots q x e
  static_moved g a n u (put still) slots q x e = slots q x e

  static_renamed : (g : ModuleGraph) (a n : Parts) → AreStatic g → AreStatic (renamed g a n)
  static_renamed g a n slots = by_name (same_specifier a n) refl
    where
      by_name : (b : Bool) → same_specifier a n ≡ b → AreStatic (renamed g a n)
      by_name true t = subst AreStatic (sym (ap (λ b. if b then g else moved g a n) t)) slots
      by_name false f = subst AreStatic (sym (ap (λ b. if b then g else moved g a n) f)) (static_moved g a n (moved g a n) (how_moved g a n) slots)

  static_placed : (g : ModuleGraph) (n : Parts) (v : ModuleSlot) (u : ModuleGraph) → Placed g n v u → IsStaticSlot (specifier_text n) v → AreStatic g → AreStatic u
  static_placed g n v u (there free) is slots = static_put g (specifier_text n) v is slots
  static_placed g n v u (stood o t) is slots = slots

  static_noted : (g : ModuleGraph) (kept : Result KeptVersion JsrLoadError) → AreStatic g → AreStatic (noted g kept)
  static_noted g (Ok v) slots = slots
  static_noted g (Err e) slots = slots

-- redirects of a graph where a slot is put at its name
placed_redirects : (g : ModuleGraph) (n : Parts) (v : ModuleSlot) (u : ModuleGraph) → Placed g n v u → u.redirects ≡ g.redirects
placed_redirects g n v u (there free) = refl
placed_redirects g n v u (stood o t) = refl

module _ (told : Told) (given : Given) (begins : RunBegins (fresh_entry told given)) where
  abbrev pub Reaches : Load → Type 0
  Reaches load = IsReached told (fresh_entry told given) begins load

  abbrev pub Holds : State → Type 0
  Holds s = Kept told (fresh_entry told given) begins s

  -- each redirect stood at entry or is explained
  abbrev pub AreNamed : ModuleGraph → Type 0
  AreNamed g = (k : List ℕ) (n : Parts) → finite.get g.redirects k ≡ Some n → (finite.get (fresh_entry told given).graph.redirects k ≡ Some n) ⊎ IsExplainedRedirect told (fresh_entry told given) k n

  -- what loads that enter go by: flags, known redirects, the names of roots, and these version files
  pub record Walked (files : Versions) (s : State) : Type 0 where
    pub flags : s.flags ≡ told.known.flags
    pub redirects : AreNamed s.graph
    pub names : All (IsRootName told (fresh_entry told given) begins) s.root_names
    pub files_are : s.files ≡ files

  pub walked_of : (s : State) → Holds s → Walked s.files s
  walked_of s kept = record { flags = kept.flags; redirects = kept.graph.redirects; names = kept.names; files_are = refl }

  -- a state that static imports alone came to
  pub record KeptStatically (s : State) : Type 0 where
    pub slots : AreStatic told given s.graph
    pub loads : All IsStatic s.loads
    pub deferred : All IsStaticWait s.deferred
    pub waiting : All IsStaticItem s.waiting
    pub items : IfSome s.pass (λ p. All IsStaticItem p.items)
    pub chosen : IfSome s.pass (λ p. All IsStaticChoice p.chosen)

  -- another graph
  pub static_over : (s u : State) → AreStatic told given u.graph → u.loads ≡ s.loads → u.deferred ≡ s.deferred → u.waiting ≡ s.waiting → u.pass ≡ s.pass → KeptStatically s → KeptStatically u
  static_over s u slots loads deferred waiting pass now = record {
    slots = slots;
    loads = subst (All IsStatic) (sym loads) now.loads;
    deferred = subst (All IsStaticWait) (sym deferred) now.deferred;
    waiting = subst (All IsStaticItem) (sym waiting) now.waiting;
    items = subst (λ (o : Option Pass). IfSome o (λ p. All IsStaticItem p.items)) (sym pass) now.items;
    chosen = subst (λ (o : Option Pass). IfSome o (λ p. All IsStaticChoice p.chosen)) (sym pass) now.chosen;
  }

  -- ---- entering

  walked_enter : (files : Versions) (s : State) (load : Load) → Walked files s → Walked files (enter s load)
  walked_enter files s load now = by_entered (enter s load) (how_entered s load)
    where
      by_entered : (u : State) → Entered s load.context (redirected_end s.graph load.specifier) u → Walked files u
      by_entered u (refused e) = record { flags = now.flags; redirects = now.redirects; names = now.names; files_are = now.files_are }
      by_entered u (waits h w) = record { flags = now.flags; redirects = now.redirects; names = now.names; files_are = now.files_are }
      by_entered u (found h) = record { flags = now.flags; redirects = now.redirects; names = now.names; files_are = now.files_are }
      by_entered u (unstated f h e) = record { flags = now.flags; redirects = now.redirects; names = now.names; files_are = now.files_are }
      by_entered u (no_package f h j e) = record { flags = now.flags; redirects = now.redirects; names = now.names; files_are = now.files_are }
      by_entered u (no_npm_package f h j e) = record { flags = now.flags; redirects = now.redirects; names = now.names; files_are = now.files_are }
      by_entered u (passed_through f h j e p) = record { flags = now.flags; redirects = now.redirects; names = now.names; files_are = now.files_are }
      by_entered u (stands_there j h) = record { flags = now.flags; redirects = now.redirects; names = now.names; files_are = now.files_are }
      by_entered u (awaits f h j e p) = record { flags = now.flags; redirects = now.redirects; names = now.names; files_are = now.files_are }
      by_entered u (resolves f h j o n) = record { flags = now.flags; redirects = now.redirects; names = now.names; files_are = now.files_are }
      by_entered u (node h n) = record { flags = now.flags; redirects = now.redirects; names = now.names; files_are = now.files_are }
      by_entered u (opens free h n) = record { flags = now.flags; redirects = now.redirects; names = now.names; files_are = now.files_are }

  walked_edge : (files : Versions) (s : State) (load : Load) → Walked files s → Walked files (enter_edge s load)
  walked_edge files s load now = by_edged (enter_edge s load) (how_edged s load)
    where
      by_edged : (u : State) → Edged s load u → Walked files u
      by_edged u (queues p f) = record { flags = now.flags; redirects = now.redirects; names = now.names; files_are = now.files_are }
      by_edged u enters = walked_enter files s (with_mark s.root_names load) now

  -- known redirects are followed under the same context
  led_on : (g : ModuleGraph) (c : LoadContext) (x t : Parts) → AreNamed g → Reached told (fresh_entry told given) x c → redirect_at g x ≡ Some t → Reached told (fresh_entry told given) t c
  led_on g c x t named_so r e = ⊎_elim (λ stood. known r stood) (λ by. named r by.2 (sym by.3) by.4) (named_so (specifier_text x) t e)

  led_reached : (g : ModuleGraph) (s : Parts) (c : LoadContext) → AreNamed g → Reached told (fresh_entry told given) s c → Reached told (fresh_entry told given) (redirected_end g s) c
  led_reached g s c named_so r = follow_keeps g (λ x. Reached told (fresh_entry told given) x c) (λ x t reached e. led_on g c x t named_so reached (onward_parts g x t e).1) (finite.len g.redirects) (s ∷ []) s r

  module _ (files : Versions) (right : AreRight told (finite.get files)) where
    pub static_enter : (s : State) (load : Load) → Walked files s → Reaches load → IsReadIn files load → IsStatic load → KeptStatically s → KeptStatically (enter s load)
    static_enter s load by r read static now = by_entered (enter s load) (how_entered s load)
      where
        at : Parts
        at = redirected_end s.graph load.specifier

        reached : Reached told (fresh_entry told given) (redirected_end s.graph load.specifier) load.context
        reached = led_reached s.graph load.specifier load.context by.redirects r

        put_over : (v : ModuleSlot) → Explains told (fresh_entry told given) (redirected_end s.graph load.specifier) load.context (specifier_text (redirected_end s.graph load.specifier)) v → AreStatic told given (put_at s.graph (specifier_text (redirected_end s.graph load.specifier)) v)
        put_over v is = static_put told given s.graph (specifier_text at) v (inr (at, load.context, reached, static, is)) now.slots

        slot_there : (v : ModuleSlot) → Explains told (fresh_entry told given) (redirected_end s.graph load.specifier) load.context (specifier_text (redirected_end s.graph load.specifier)) v → KeptStatically (record s { graph = put_at s.graph (specifier_text (redirected_end s.graph load.specifier)) v })
        slot_there v is = static_over s (record s { graph = put_at s.graph (specifier_text at) v }) (put_over v is) refl refl refl refl now

        allowed : forbidden s.flags (redirected_end s.graph load.specifier) load.context ≡ None → forbidden told.known.flags (redirected_end s.graph load.specifier) load.context ≡ None
        allowed free = subst (λ f. forbidden f at load.context ≡ None) by.flags free

        by_entered : (u : State) → Entered s load.context (redirected_end s.graph load.specifier) u → KeptStatically u
        by_entered u (refused {kind} e) = slot_there (failed_slot kind) (forbidden_asset (subst (λ f. forbidden f at load.context ≡ Some kind) by.flags e))
        by_entered u (waits h w) = record {
          slots = now.slots;
          loads = now.loads;
          deferred = deferred_all IsStaticWait s.deferred at load.context now.deferred static;
          waiting = now.waiting;
          items = now.items;
          chosen = now.chosen;
        }
        by_entered u (found h) = static_over s u now.slots refl refl refl refl now
        by_entered u (unstated {kind} free h e) =
            let of_version = unsupported_told told (finite.get files) right at load.context kind read (subst (λ (m : Versions). unsupported (finite.get m) at load.context ≡ Some kind) by.files_are e) in
            let is : Explains told (fresh_entry told given) at load.context (specifier_text at) (jsr_slot at load.context UnsupportedManifestChecksum) = unsupported_sum (allowed free) of_version.0 in
            slot_there (failed_slot kind) (subst (λ k. Explains told (fresh_entry told given) at load.context (specifier_text at) (failed_slot k)) (sym of_version.1) is)
        by_entered u (node h n) = static_over s u (put_over (node_slot at) (built_in n)) refl refl refl refl now
        by_entered u (no_package {e} free h j is_named) = slot_there (jsr_slot at load.context (PackageFormat e)) (no_package_named j (allowed free) is_named)
        by_entered u (no_npm_package {e} free h j is_named) = slot_there (Failed (error_of (LoadFails at load.context.range (Npm (PackageReqReferenceParse e))))) (no_npm_package_named j (allowed free) is_named)
        by_entered u (passed_through free h j is_named p) =
            static_over s u (put_over (external_slot at false) (stands_outside j (allowed free) is_named (subst (λ f. f.passthrough_jsr ≡ true) by.flags p))) refl refl refl refl now
        by_entered u (stands_there j h) = static_over s u now.slots refl refl refl refl now
        by_entered u (resolves free h j o is_named) = static_over s u now.slots refl refl refl refl now
        by_entered u (awaits {notes} {r} free h j is_named p) = record {
          slots = now.slots;
          loads = now.loads;
          deferred = now.deferred;
          waiting = All-push IsStaticItem s.waiting (waiting_at at r load.context) now.waiting static;
          items = now.items;
          chosen = now.chosen;
        }
        by_entered u (opens free h n) = record {
          slots = static_put told given s.graph (specifier_text at) (Pending load.context.asset) (inl (load.context.asset, refl)) now.slots;
          loads = All-push IsStatic s.loads _ now.loads static;
          deferred = now.deferred;
          waiting = now.waiting;
          items = now.items;
          chosen = now.chosen;
        }

    pub static_enter_all_by : (s : State) (loads : List Load) → Walked files s → All Reaches loads → All (IsReadIn files) loads → All IsStatic loads → KeptStatically s → KeptStatically (enter_all s loads)
    unfolding enter_all
    static_enter_all_by s [] by r read static now = now
    static_enter_all_by s (load ∷ loads) by r read static now =
        static_enter_all_by (enter s load) loads (walked_enter files s load by) (All-tail Reaches load loads r) (All-tail (IsReadIn files) load loads read) (All-tail IsStatic load loads static)
        (static_enter s load by (All-head Reaches load loads r) (All-head (IsReadIn files) load loads read) (All-head IsStatic load loads static) now)

    -- an edge enters where it is static, and waits where it isn't
    static_edge : (s : State) (load : Load) → Walked files s → Reaches load → IsReadIn files load → s.is_dynamic ≡ false → KeptStatically s → KeptStatically (enter_edge s load)
    static_edge s load by r read phase now = by_phase load.context.in_dynamic_phase refl
      where
        by_phase : (b : Bool) → load.context.in_dynamic_phase ≡ b → KeptStatically (enter_edge s load)
        by_phase true e = subst KeptStatically (sym (edge_waits s load phase e)) (static_over s (record s { dynamic = queued s.dynamic load }) now.slots refl refl refl refl now)
        by_phase false e = subst KeptStatically (sym (edge_enters s load e))
            (static_enter s (with_mark s.root_names load) by (marked_reached told (fresh_entry told given) begins s.root_names load by.names r) read e now)

    static_edges : (s : State) (loads : List Load) → Walked files s → All Reaches loads → All (IsReadIn files) loads → s.is_dynamic ≡ false → KeptStatically s → KeptStatically (enter_edges s loads)
    unfolding enter_edges
    static_edges s [] by r read phase now = now
    static_edges s (load ∷ loads) by r read phase now =
        static_edges (enter_edge s load) loads (walked_edge files s load by) (All-tail Reaches load loads r) (All-tail (IsReadIn files) load loads read) (same_phase s load ∙ phase)
        (static_edge s load by (All-head Reaches load loads r) (All-head (IsReadIn files) load loads read) phase now)

  -- loads of a start, over any state that is kept
  pub static_enter_all : (s : State) (loads : List Load) → Holds s → All Reaches loads → All (IsReadIn s.files) loads → All IsStatic loads → KeptStatically s → KeptStatically (enter_all s loads)
  static_enter_all s loads kept r read static now = static_enter_all_by s.files kept.files s loads (walked_of s kept) r read static now

  -- a version file that was read
  pub static_file : (s : State) (nv : PackageNv) (kept : Result KeptVersion JsrLoadError) → KeptStatically s → KeptStatically (file_kept s nv kept)
  static_file s nv kept now = static_over s (file_kept s nv kept) (static_noted told given s.graph kept now.slots) refl refl refl refl now

  -- ---- storing

  -- where a redirect leads is reached with one hop more
  hop_reached : (most : ℕ) (s : State) (load : Load) (asked : Asked) (n : Parts) → most ≡ told.world.max_redirects → Reaches load → CountsFor told load.specifier load.context asked (Onward n) → asked.held ≡ None → is_end most s load n ≡ false → Reached told (fresh_entry told given) n (hop load.context)
  hop_reached most s load asked n m r takes outside_of f =
      let within : load.context.hops < most = leb-false most load.context.hops (not_used _ _ f) in
      let hops : min (load.context.hops + 1) told.world.max_redirects ≡ load.context.hops + 1 = omega arith in
      subst (λ h. Reached told (fresh_entry told given) n (record load.context { hops = h })) hops (hopped r r refl takes outside_of)

  -- what an answer gives stands at its name, and then the edges from it enter
  static_at : (s : State) (load : Load) (held : Option PackageNv) (name : Parts) (slot : ModuleSlot) → Holds s → Reaches load → IsStatic load → s.is_dynamic ≡ false → KeptStatically s → IsReadAt (finite.get s.files) held → AreNamed (renamed s.graph load.specifier name)
      → Explains told (fresh_entry told given) load.specifier load.context (specifier_text name) slot → (load.context.is_root ≡ true → is_module slot ≡ true → IsRootName told (fresh_entry told given) begins name)
      → All Reaches (edges_from given.kind told.known.flags.skip_dynamic_deps slot (in_package held load.context)) → KeptStatically (stored_at s load held name slot)
  static_at s load held name slot kept r static phase now read redirects is roots edges =
      static_edges s.files kept.files (placed_at s load held name slot) (edges_from s.graph.kind s.flags.skip_dynamic_deps slot (in_package held load.context))
      record {
        flags = kept.flags;
        redirects = λ k n e. redirects k n (ap (λ m. finite.get m k) (sym (placed_redirects (renamed s.graph load.specifier name) name slot _ (how_placed (renamed s.graph load.specifier name) name slot))) ∙ e);
        names = named_roots told (fresh_entry told given) begins s load.context name slot kept.names roots;
        files_are = refl;
      }
      (subst (λ x. All Reaches (edges_from x s.flags.skip_dynamic_deps slot (in_package held load.context))) (sym kept.graph.kind)
      (subst (λ f. All Reaches (edges_from given.kind f slot (in_package held load.context))) (ap (λ f. f.skip_dynamic_deps) (sym kept.flags)) edges))
      (edges_read told (fresh_entry told given) begins s.files s.graph.kind s.flags.skip_dynamic_deps slot held load.context read)
      phase
      (static_over s (placed_at s load held name slot)
      (static_placed told given (renamed s.graph load.specifier name) name slot _ (how_placed (renamed s.graph load.specifier name) name slot)
      (inr (load.specifier, load.context, r, static, is)) (static_renamed told given s.graph load.specifier name now.slots))
      refl refl refl refl now)

  -- a slot at the asked specifier itself
  static_self : (s : State) (load : Load) (held : Option PackageNv) (slot : ModuleSlot) → Holds s → Reaches load → IsStatic load → s.is_dynamic ≡ false → KeptStatically s → IsReadAt (finite.get s.files) held
      → Explains told (fresh_entry told given) load.specifier load.context (specifier_text load.specifier) slot → (load.context.is_root ≡ true → is_module slot ≡ true → IsRootName told (fresh_entry told given) begins load.specifier)
      → All Reaches (edges_from given.kind told.known.flags.skip_dynamic_deps slot (in_package held load.context)) → KeptStatically (stored_at s load held load.specifier slot)
  static_self s load held slot kept r static phase now read is roots edges =
      static_at s load held load.specifier slot kept r static phase now read
      (subst AreNamed (sym (renamed_self s.graph load.specifier load.specifier (same_of_text load.specifier load.specifier refl))) kept.graph.redirects)
      is roots edges

  -- an error at the asked specifier itself
  static_error : (s : State) (load : Load) (held : Option PackageNv) (x : ModuleError) → Holds s → Reaches load → IsStatic load → s.is_dynamic ≡ false → KeptStatically s → IsReadAt (finite.get s.files) held
      → Explains told (fresh_entry told given) load.specifier load.context (specifier_text load.specifier) (Failed x) → KeptStatically (stored_at s load held load.specifier (Failed x))
  static_error s load held x kept r static phase now read is = static_self s load held (Failed x) kept r static phase now read is (λ root y. absurd (true≢false (sym y))) (All-nil Reaches)

  -- a load whose version has its sum in no form that is known
  pub static_unsupported : (most : ℕ) (s : State) (load : Load) → Holds s → IsAskedFor told (fresh_entry told given) begins load → IsReadIn s.files load → IsStatic load → s.is_dynamic ≡ false → KeptStatically s → told_manner told load.specifier load.context ≡ Unsupported
      → KeptStatically (stored most s load (failure_outcome load.context load.specifier UnsupportedManifestChecksum))
  unfolding stored
  static_unsupported most s load kept r read static phase now manner =
      static_error s load load.context.«package» (jsr_error load.specifier load.context.range UnsupportedManifestChecksum) kept r.0 static phase now read
      (unsupported_sum (asked_free told.known.flags load.specifier load.context r.1) manner)

  module _ (settled : IsSettledStatically told given) where
    pub static_given : (most : ℕ) (s : State) (load : Load) (asked : Asked) (t : Taken) → most ≡ told.world.max_redirects → taken_answer told.world told.known asked load.specifier load.context ≡ t → IsAsked told load.specifier load.context asked → IsReadAt (finite.get s.files) asked.held → IsReadIn s.files load
        → Holds s → IsAskedFor told (fresh_entry told given) begins load → IsStatic load → s.is_dynamic ≡ false → KeptStatically s → KeptStatically (stored most s load (outcome_of (making_of told given.kind) load.specifier load.context asked t))
    unfolding stored
    static_given most s load asked (Found source) m is under read own kept r static phase now =
        let takes : CountsFor told load.specifier load.context asked (Found source) = record { asked_for = r.1; under = under; is = is } in
        let whole : source.info ≡ None = settled.whole load.specifier load.context asked source r.0 takes in
        let slot = made_slot (making_of told given.kind) source load.context in
        subst (λ i. KeptStatically (stored most s load (At source.name (made_slot (making_of told given.kind) source load.context) asked.held (content_of load.specifier load.context asked i)))) (sym whole)
        (static_at s load asked.held source.name slot kept r.0 static phase now read
        (kept_renamed told (fresh_entry told given) s.contents s.graph load.specifier source.name kept.graph (load.specifier, load.context, r.0, refl, to_name (answered takes refl))).redirects
        (made takes whole)
        (λ root y. (load.specifier, load.context, r.0, root, (asked, Found source, takes, refl)))
        (edges_reached told (fresh_entry told given) begins load.specifier load.context asked source slot takes r.0 refl))
    static_given most s load asked (Outside n) m is under read own kept r static phase now =
        let takes : CountsFor told load.specifier load.context asked (Outside n) = record { asked_for = r.1; under = under; is = is } in
        static_at s load asked.held n (external_slot n false) kept r.0 static phase now read
        (kept_renamed told (fresh_entry told given) s.contents s.graph load.specifier n kept.graph (load.specifier, load.context, r.0, refl, to_name (answered takes refl))).redirects
        (outside takes)
        (λ root y. (load.specifier, load.context, r.0, root, (asked, Outside n, takes, refl)))
        (outside_alone told (fresh_entry told given) begins n false (in_package asked.held load.context))
    static_given most s load asked AtHand m is under read own kept r static phase now =
        let takes : CountsFor told load.specifier load.context asked AtHand = record { asked_for = r.1; under = under; is = is } in
        static_self s load asked.held (external_slot load.specifier load.context.asset) kept r.0 static phase now read
        (at_hand takes)
        (λ root y. (load.specifier, load.context, r.0, root, (asked, AtHand, takes, refl)))
        (outside_alone told (fresh_entry told given) begins load.specifier load.context.asset (in_package asked.held load.context))
    static_given most s load asked Absent m is under read own kept r static phase now =
        static_error s load asked.held (missing_error load.specifier load.context.range) kept r.0 static phase now read
        (missing {asked = asked} (record { asked_for = r.1; under = under; is = is }))
    static_given most s load asked (Refused e) m is under read own kept r static phase now =
        static_error s load asked.held (refusal_error load.specifier load.context asked e) kept r.0 static phase now read
        (refused_answer {asked = asked} (record { asked_for = r.1; under = under; is = is }))
    static_given most s load asked (Onward n) m is under read own kept r static phase now = by_held asked.held refl
      where
        takes : CountsFor told load.specifier load.context asked (Onward n)
        takes = record { asked_for = r.1; under = under; is = is }

        named_so : asked.held ≡ None → HasName told load.specifier load.context n
        named_so none = answered takes (ap (λ (h : Option PackageNv). by_option h (Some n) (λ nv. None)) none)

        -- in a package none is followed
        by_package : (nv : PackageNv) → asked.held ≡ Some nv → KeptStatically (stored_at s load (Some nv) load.specifier (jsr_slot load.specifier load.context (RedirectInPackage n)))
        by_package nv h = static_error s load (Some nv) (jsr_error load.specifier load.context.range (RedirectInPackage n)) kept r.0 static phase now (subst (IsReadAt (finite.get s.files)) h read) (redirected_answer takes h)

        by_end : asked.held ≡ None → (b : Bool) → is_end most s load n ≡ b → KeptStatically (if b then redirects_ended s load else redirected s load n)
        by_end none true t = static_over s (redirects_ended s load)
            (static_put told given s.graph (specifier_text load.specifier) (Failed (redirects_error load.specifier load.context.range))
            (inr (load.specifier, load.context, r.0, static, ended takes none (ends_there told (fresh_entry told given) begins most s load asked n m kept.graph r.0 takes none t)))
            now.slots)
            refl refl refl refl now
        by_end none false f =
            static_enter s.files kept.files (record s { graph = moved s.graph load.specifier n }) (record { specifier = n; context = hop load.context; is_type = false })
            record {
              flags = kept.flags;
              redirects = (kept_moved told (fresh_entry told given) s.contents s.graph load.specifier n kept.graph (load.specifier, load.context, r.0, refl, to_name (named_so none))).redirects;
              names = kept.names;
              files_are = refl;
            }
            (hop_reached most s load asked n m r.0 takes none f)
            own
            static
            (static_over s (record s { graph = moved s.graph load.specifier n }) (static_moved told given s.graph load.specifier n (moved s.graph load.specifier n) (how_moved s.graph load.specifier n) now.slots) refl refl refl refl now)

        by_held : (h : Option PackageNv) → asked.held ≡ h → KeptStatically (stored most s load (by_option h (To n) (λ nv. failed_outcome load.specifier load.context (Some nv) (Jsr (RedirectInPackage n)))))
        by_held None none = by_end none (is_end most s load n) refl
        by_held (Some nv) h = by_package nv h

    -- the turn of a load that is asked about
    pub static_answered : (s : State) (load : Load) (asked : Asked) → manner_in told.known.sums told.registry s load ≡ Asks asked → IsReadIn s.files load → Holds s → IsAskedFor told (fresh_entry told given) begins load → IsStatic load → s.is_dynamic ≡ false → KeptStatically s
        → KeptStatically (stored told.world.max_redirects s load (told_outcome told given.kind load asked))
    static_answered s load asked manner own kept r static phase now =
        let under = asked_told told (fresh_entry told given) begins s load asked kept own manner in
        static_given told.world.max_redirects s load asked (taken_answer told.world told.known asked load.specifier load.context) refl refl under.0 under.1.held own kept r static phase now

    -- no content comes later
    none_comes : (load : Load) (asked : Asked) (t : Taken) → taken_answer told.world told.known asked load.specifier load.context ≡ t → IsAsked told load.specifier load.context asked → IsAskedFor told (fresh_entry told given) begins load → comes_with (outcome_of (making_of told given.kind) load.specifier load.context asked t) ≡ None
    none_comes load asked (Found source) is under r =
        ap (content_of load.specifier load.context asked) (settled.whole load.specifier load.context asked source r.0 (record { asked_for = r.1; under = under; is = is }))
    none_comes load asked (Outside n) is under r = refl
    none_comes load asked AtHand is under r = refl
    none_comes load asked (Onward n) is under r = by asked.held
      where
        by : (h : Option PackageNv) → comes_with (by_option h (To n) (λ nv. failed_outcome load.specifier load.context (Some nv) (Jsr (RedirectInPackage n)))) ≡ None
        by None = refl
        by (Some nv) = refl
    none_comes load asked Absent is under r = refl
    none_comes load asked (Refused e) is under r = refl

    pub none_comes_later : (s : State) (load : Load) (asked : Asked) → manner_in told.known.sums told.registry s load ≡ Asks asked → IsReadIn s.files load → Holds s → IsAskedFor told (fresh_entry told given) begins load → comes_with (told_outcome told given.kind load asked) ≡ None
    none_comes_later s load asked manner own kept r =
        none_comes load asked (taken_answer told.world told.known asked load.specifier load.context) refl (asked_told told (fresh_entry told given) begins s load asked kept own manner).0 r
