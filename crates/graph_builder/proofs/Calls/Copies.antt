-- What holds of graphs with notes of cached copies.
use Rattle.std.proofs.Common.{◌≡◌, ◌∙◌, ℕ, Bool, true, false, Option, ap, sym, subst}
use Rattle.std.specs.Prelude.{OnOk, Result, Ok, Err}
use Rattle.std.specs.FinMap as finite
use Rattle.url.specs.Parts.{Parts}
use Rattle.metadata_store.specs.declared.store.JsrMetadataStore.{JsrMetadataStore}
use Rattle.source_io.specs.declared.types.World.{World}
use Rattle.source_sums.specs.Sums.{KnownSums}
use Rattle.spec_base.specs.Specifier.{specifier_text}
use Rattle.graph_dependencies.specs.declared.graph_kind.GraphKind.{GraphKind}
use Rattle.graph_core.specs.declared.graph.ModuleGraph.{ModuleGraph}
use Rattle.graph_core.specs.Graph.{has_slot, redirect_at}
use Rattle.graph_turns.specs.declared.state.State.{State}
use Rattle.graph_turns.specs.Machine.Redirects.{HasNoCircle, RedirectsLead}
use Rattle.graph_turns.specs.Machine.Redirects.RedirectsLead.{last, onward}
use Rattle.graph_turns.specs.Machine.Sums.{IsTaught}
use Rattle.graph_turns.specs.Machine.Turns.{TellsTurns, TurnsOut}
use Rattle.turn_laws.specs.Promise.Complete.{NonePending}
use Rattle.graph_turns.specs.Promise.Told.{Told}
use Rattle.turn_laws.proofs.Promise.Taught.{tells_turns}
use Rattle.graph_builder.specs.Calls.Loaders.{KeepsLoader}
use Rattle.cache_filling.specs.Noted.{Noted, NotesCopies}
use Rattle.cache_filling.proofs.NotedLemmas.{notes_pending, notes_rest, notes_stands, notes_still_pending}

-- a loader that was kept is to be asked alike
pub noted_kept : {L : Type 0} {world : L → Option World} {may_fail : L → ℕ → Bool} {caches : L → Bool} {faults : L → ℕ} {old new : L} → KeepsLoader world may_fail caches faults old new
    → {T E : Type 0} (P : ModuleGraph → Type 0) (u : ModuleGraph) (r : Result T E) → OnOk r (Noted (caches new) (world new) P u) → OnOk r (Noted (caches old) (world old) P u)
noted_kept {world = world} {caches = caches} {old = old} {new = new} keeps P u r done =
    subst (λ (w : Option World). OnOk r (Noted (caches old) w P u)) keeps.same_world (subst (λ (b : Bool). OnOk r (Noted b (world new) P u)) keeps.same_caches done)

-- and so is the same one by another name
pub noted_of : {F : Type 0} (caches : F → Bool) (world : F → Option World) {own given : F} → own ≡ given → {T E : Type 0} (P : ModuleGraph → Type 0) (u : ModuleGraph) (r : Result T E)
    → OnOk r (Noted (caches own) (world own) P u) → OnOk r (Noted (caches given) (world given) P u)
noted_of {F = F} caches world same P u r done = subst (λ (f : F). OnOk r (Noted (caches f) (world f) P u)) same done

-- the turns that end so tell the sums that are known then
module _ {T E : Type 0} (caches : Bool) (world : Option World) (r : Result T E) (old known sums now new : Option KnownSums) (same : known ≡ old) (is : new ≡ now) where
  pub noted_tells : (w : Told) (kind : GraphKind) (start : State) (u : ModuleGraph) (store kept : Option JsrMetadataStore) (before after : ℕ) → old ≡ w.known.sums → kept ≡ store
      → OnOk r (Noted caches world (λ bare. TurnsOut w kind start bare sums store before after) u) → OnOk r (IsTaught known sums now)
      → OnOk r (Noted caches world (λ bare. TellsTurns w kind start bare new kept before after) u)
  noted_tells w kind start u store kept before after told stored turned taught = by r turned taught
    where
      by : (o : Result T E) → OnOk o (Noted caches world (λ bare. TurnsOut w kind start bare sums store before after) u) → OnOk o (IsTaught known sums now) → OnOk o (Noted caches world (λ bare. TellsTurns w kind start bare new kept before after) u)
      by (Ok x) t a = record { bare = t.bare; holds = tells_turns {T = T} {E = E} (Ok x) old known sums now new same is w kind start t.bare store kept before after told stored t.holds a; notes = t.notes }
      by (Err e) t a = tt

module _ (caches : Bool) (world : Option World) (g u : ModuleGraph) (notes : NotesCopies caches world g u) where
  -- nothing is under way that wasn't before
  pub none_pending_noted : NonePending g → NonePending u
  none_pending_noted none = λ k asset at. none k asset (notes_pending caches world g u notes k asset at)

  pub none_pending_bare : NonePending u → NonePending g
  none_pending_bare none = λ k asset at. none k asset (notes_still_pending caches world g u notes k asset at)

  stands : (s : Parts) → has_slot u s ≡ has_slot g s
  stands s = notes_stands caches world g u notes (specifier_text s)

  redirected : (s : Parts) → redirect_at u s ≡ redirect_at g s
  redirected s = ap (λ (x : ModuleGraph). redirect_at x s) (notes_rest caches world g u notes)

  leads_bare : (s t : Parts) → RedirectsLead u s t → RedirectsLead g s t
  leads_bare s t (last none at) = last (sym (stands s) ∙ none) (sym (redirected s) ∙ at)
  leads_bare s t (onward {t = m} none at more) = onward (sym (stands s) ∙ none) (sym (redirected s) ∙ at) (leads_bare m t more)

  -- and redirects lead as before
  pub no_circle_noted : HasNoCircle g → HasNoCircle u
  no_circle_noted none = λ s t along same. none s t (leads_bare s t along) same
