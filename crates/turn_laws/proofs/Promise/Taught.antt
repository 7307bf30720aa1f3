-- What a locker is told when a build ends.
use Rattle.std.proofs.Common.{◌≡◌, ℕ, List, Option, None, Some, true, is_some, refl, sym, ap, ◌∙◌, subst}
use Rattle.std.specs.Prelude.{OnOk, Result, Ok, Err}
use Rattle.std.specs.Option.{option_or}
use Rattle.metadata_store.specs.declared.store.JsrMetadataStore.{JsrMetadataStore}
use Rattle.source_sums.specs.Sums.{KnownSums}
use Rattle.graph_core.specs.declared.graph.ModuleGraph.{ModuleGraph}
use Rattle.graph_dependencies.specs.declared.graph_kind.GraphKind.{GraphKind}
use Rattle.graph_turns.specs.declared.state.State.{State}
use Rattle.graph_turns.specs.Machine.Sums.{IsTaught, KeepsSums, sum_in}
use Rattle.graph_turns.specs.Machine.Turns.{TellsTurns, TurnsOut}
use Rattle.graph_turns.specs.Promise.Told.{Told}

-- a sum that wasn't known and is known now was told
learned_at : (known sums now : Option KnownSums) (k sum : List ℕ) → IsTaught known sums now → sum_in known k ≡ None → sum_in now k ≡ Some sum → sum_in sums k ≡ Some sum
learned_at (Some m) sums now k sum taught none at = sym (taught.1 k refl ∙ ap (λ o. option_or o (sum_in sums k)) none) ∙ at
learned_at None sums None k sum taught none at = absurd cc
learned_at None sums (Some m) k sum taught none at = absurd (let wrong = taught.0 in cc)

taught_as : (told known sums now new : Option KnownSums) → known ≡ told → new ≡ now → IsTaught known sums now → IsTaught told sums new
taught_as told known sums now new same is taught = subst (λ k. IsTaught k sums new) same (subst (IsTaught known sums) (sym is) taught)

-- what was known by another name, and what is known now by another one
module _ {T E : Type 0} (r : Result T E) (old known sums now new : Option KnownSums) (same : known ≡ old) (is : new ≡ now) where
  pub tells_turns : (w : Told) (kind : GraphKind) (start : State) (g : ModuleGraph) (store kept : Option JsrMetadataStore) (before after : ℕ) → old ≡ w.known.sums → kept ≡ store → OnOk r (TurnsOut w kind start g sums store before after) → OnOk r (IsTaught known sums now) → OnOk r (TellsTurns w kind start g new kept before after)
  tells_turns w kind start g store kept before after told stored turned taught = by r turned taught
    where
      by : (o : Result T E) → OnOk o (TurnsOut w kind start g sums store before after) → OnOk o (IsTaught known sums now) → OnOk o (TellsTurns w kind start g new kept before after)
      by (Ok x) t a = (sums, subst (λ (o : Option JsrMetadataStore). TurnsOut w kind start g sums o before after) (sym stored) t, taught_as w.known.sums known sums now new (same ∙ told) is a)
      by (Err e) t a = tt

  -- what holds of each sum that was told holds of each one that wasn't known and is now
  pub learns : (P : List ℕ → List ℕ → Type 0) → OnOk r ((k sum : List ℕ) → sum_in sums k ≡ Some sum → P k sum) → OnOk r (IsTaught known sums now) → OnOk r ((k sum : List ℕ) → sum_in old k ≡ None → sum_in new k ≡ Some sum → P k sum)
  learns P sources taught = by r sources taught
    where
      by : (o : Result T E) → OnOk o ((k sum : List ℕ) → sum_in sums k ≡ Some sum → P k sum) → OnOk o (IsTaught known sums now) → OnOk o ((k sum : List ℕ) → sum_in old k ≡ None → sum_in new k ≡ Some sum → P k sum)
      by (Ok x) s a = λ k sum none at. s k sum (learned_at old sums new k sum (taught_as old known sums now new same is a) none at)
      by (Err e) s a = tt

pub kept_as : (old known now new : Option KnownSums) → known ≡ old → new ≡ now → KeepsSums known now → KeepsSums old new
kept_as old known now new same is kept = subst (λ k. KeepsSums k new) same (subst (KeepsSums known) (sym is) kept)
