-- What a build that is done leaves.
use Rattle.std.proofs.Common.{Bool, false, ◌≡◌, ℕ, ◌+◌, Option, refl, sym, ap, ◌∙◌, subst}
use Rattle.std.specs.Prelude.{Result, Ok, Err, IfErr, IfOk, OnOk}
use Rattle.source_io.specs.declared.types.World.{World}
use Rattle.source_sums.specs.Sums.{KnownSums}
use Rattle.metadata_store.specs.declared.store.JsrMetadataStore.{JsrMetadataStore}
use Rattle.graph_core.specs.declared.graph.ModuleGraph.{ModuleGraph}
use Rattle.graph_turns.specs.Machine.Sums.{IsTaught}
use Rattle.graph_turns.specs.Machine.Turns.{IsTurnedFrom, begun}
use Rattle.graph_turns.specs.Promise.Input.{Given}
use Rattle.graph_turns.specs.Promise.Told.{Told}
use Rattle.graph_builder.specs.Calls.Loaders.{KeepsLoader}
use Rattle.graph_builder.proofs.Calls.Copies.{noted_kept}
use Rattle.cache_filling.specs.Noted.{Noted}
use Rattle.store_turns.specs.Builds.{LeavesTurns}

pub on_ok_at : {T E : Type 0} (r : Result T E) (P : Type 0) (x : T) → r ≡ Ok x → OnOk r P → P
on_ok_at (Ok y) P x is h = h
on_ok_at (Err e) P x is h = absurd cc

pub on_ok_any : {T E : Type 0} (r : Result T E) (P : Type 0) → P → OnOk r P
on_ok_any (Ok x) P h = h
on_ok_any (Err e) P h = tt

pub if_ok_so : {T E : Type 0} (r : Result T E) (P Q : T → Type 0) → IfOk r P → ((x : T) → P x → Q x) → IfOk r Q
if_ok_so (Ok x) P Q h so = so x h
if_ok_so (Err e) P Q h so = tt

-- by the names of what is given back
pub left_as : (told : Told) (given : Given) (g h : ModuleGraph) (known sums now as_now : Option KnownSums) (store as_store : Option JsrMetadataStore) (put as_put : ℕ)
    → h ≡ g → as_now ≡ now → as_store ≡ store → put ≡ as_put → known ≡ told.known.sums
    → IsTurnedFrom told given.kind (begun told given) g sums store put → IsTaught known sums now → LeavesTurns told given h as_now as_store as_put
left_as told given g h known sums now as_now store as_store put as_put graph locker stored counted is turned taught = (
  sums,
  subst (λ (n : ℕ). IsTurnedFrom told given.kind (begun told given) h sums as_store n) counted
      (subst (λ (s : Option JsrMetadataStore). IsTurnedFrom told given.kind (begun told given) h sums s put) (sym stored)
      (subst (λ (x : ModuleGraph). IsTurnedFrom told given.kind (begun told given) x sums store put) (sym graph) turned)),
  subst (λ (o : Option KnownSums). IsTaught told.known.sums sums o) (sym locker) (subst (λ (o : Option KnownSums). IsTaught o sums now) is taught),
)

-- ---- notes of cached copies

-- a loader that was kept is to be asked alike
pub if_ok_kept : {L : Type 0} {world : L → Option World} {may_fail : L → ℕ → Bool} {caches : L → Bool} {faults : L → ℕ} {old new : L} → KeepsLoader world may_fail caches faults old new
    → {T E : Type 0} (P : T → ModuleGraph → Type 0) (graph : T → ModuleGraph) (r : Result T E) → IfOk r (λ x. Noted (caches new) (world new) (P x) (graph x)) → IfOk r (λ x. Noted (caches old) (world old) (P x) (graph x))
if_ok_kept keeps {T = T} {E = E} P graph (Ok x) done = noted_kept keeps {T = T} {E = E} (P x) (graph x) (Ok x) done
if_ok_kept keeps P graph (Err e) done = tt

-- where none are noted, it is so of the graph itself
pub unnoted : {world : Option World} {P : ModuleGraph → Type 0} {u : ModuleGraph} → Noted false world P u → P u
unnoted {world} {P} {u} noted = subst P (sym noted.notes) noted.holds
