-- What turns of loads leave beside: what was answered about version files, contents that come later, packages, what is known, and that what
-- waits is named.
use Rattle.std.proofs.Common.{◌≡◌, ℕ, List, [], ◌∷◌, Bool, true, false, if◌then◌else◌, Option, None, Some, refl, sym, ◌∙◌, inl}
use Rattle.std.proofs.lemmas.Bool.{true≢false}
use Rattle.spec_base.specs.Specifier.{specifier_text}
use Rattle.url.specs.Parts.{Parts}
use Rattle.semver_npm.specs.declared.package.PackageNv.{PackageNv}
use Rattle.graph_errors.specs.Errors.{redirects_error}
use Rattle.graph_errors.specs.declared.errors.ModuleError.{ModuleError}
use Rattle.graph_errors.specs.declared.errors.ModuleErrorKind.TheVariants.{Load as LoadFails}
use Rattle.graph_errors.specs.declared.errors.ModuleLoadError.TheVariants.{Jsr, Npm}
use Rattle.graph_errors.specs.declared.jsr_error.JsrLoadError.TheVariants.{PackageFormat}
use Rattle.semver_npm.specs.declared.npm_error.NpmLoadError.TheVariants.{PackageReqReferenceParse}
use Rattle.graph_core.specs.declared.graph.ModuleGraph.{ModuleGraph}
use Rattle.module_slots.specs.declared.load.Load.{Load}
use Rattle.module_slots.specs.declared.load.LoadContext.{LoadContext}
use Rattle.module_slots.specs.declared.slot.ModuleSlot.{ModuleSlot}
use Rattle.module_slots.specs.declared.slot.ModuleSlot.TheVariants.{Err as Failed, Pending}
use Rattle.module_slots.specs.Slots.{failed_slot}
use Rattle.graph_turns.specs.declared.later_content.LaterContent.{LaterContent}
use Rattle.graph_turns.specs.declared.outcome.Outcome.{Outcome}
use Rattle.graph_turns.specs.declared.outcome.Outcome.TheVariants.{At, To}
use Rattle.graph_turns.specs.declared.state.State.{State}
use Rattle.graph_turns.specs.Machine.Redirects.{redirected_end, moved, renamed}
use Rattle.graph_turns.specs.Machine.Turns.{deferred_entered, dynamic_entered, waited_imports, waited_loads}
use Rattle.graph_turns.specs.Promise.Reached.{in_package}
use Rattle.graph_turns.specs.Promise.Slots.{external_slot, node_slot}
use Rattle.graph_turns.specs.Machine.Waiting.{waiting_at}
use Rattle.turn_laws.proofs.Budget.Named.{AllNamed, named_last}
use Rattle.turn_laws.proofs.Budget.Known.{IsKnown, by_renamed, known_moved, known_placed, known_put, known_renamed}
use Rattle.graph_turns.proofs.Entering.Enter.{Entered, Edged, how_entered, how_edged}
use Rattle.graph_turns.proofs.Entering.Enter.Entered.{refused, waits, stood as found, unstated, node, no_package, no_npm_package, passed_through, stays as stays_there, awaits, opens, resolves}
use Rattle.graph_turns.proofs.Entering.Enter.Edged.{queues, enters}
use Rattle.turn_laws.proofs.Entering.Placed.{Placed, how_placed}
use Rattle.turn_laws.proofs.Entering.Placed.Placed.{there, stood}
use Rattle.graph_turns.proofs.Leading.Ways.{slot_put}
use Rattle.turn_laws.proofs.Promise.Storing.{Moved, how_moved}
use Rattle.turn_laws.proofs.Promise.Storing.Moved.{cut, stays, put}
use Rattle.graph_turns.specs.Machine.Entering.{edges_from, enter, enter_all, enter_edge, enter_edges, hop, placed_at, redirected, redirects_ended, stored, stored_at, with_content, with_mark, is_end}

-- the answers about files, the contents and the packages are the same, what was known is known, and what waits is named as it was
pub record Beside (s u : State) : Type 0 where
  pub files : u.files ≡ s.files
  pub contents : u.contents ≡ s.contents
  pub packages : u.graph.packages ≡ s.graph.packages
  pub known : (k : List ℕ) → IsKnown s.graph k → IsKnown u.graph k
  pub named : AllNamed s.waiting → AllNamed u.waiting

pub beside_same : (s : State) → Beside s s
beside_same s = record { files = refl; contents = refl; packages = refl; known = λ k h. h; named = λ n. n }

pub beside_both : (s t u : State) → Beside s t → Beside t u → Beside s u
beside_both s t u a b = record {
  files = b.files ∙ a.files;
  contents = b.contents ∙ a.contents;
  packages = b.packages ∙ a.packages;
  known = λ k h. b.known k (a.known k h);
  named = λ n. b.named (a.named n);
}

-- ---- graphs

pub moved_packages : (g : ModuleGraph) (a n : Parts) (u : ModuleGraph) → Moved g a n u → u.packages ≡ g.packages
moved_packages g a n u (cut pending) = refl
moved_packages g a n u (stays still) = refl
moved_packages g a n u (put still) = refl

renamed_packages : (g : ModuleGraph) (a n : Parts) → (renamed g a n).packages ≡ g.packages
renamed_packages g a n = by_renamed g a n (λ u. u.packages ≡ g.packages) refl (moved_packages g a n (moved g a n) (how_moved g a n))

placed_packages : (g : ModuleGraph) (n : Parts) (v : ModuleSlot) (u : ModuleGraph) → Placed g n v u → u.packages ≡ g.packages
placed_packages g n v u (there free) = refl
placed_packages g n v u (stood o t) = refl

-- ---- entering

beside_entered : (s : State) (c : LoadContext) (at : Parts) (u : State) → Entered s c at u → Beside s u
beside_entered s c at u (refused {kind} e) = record { files = refl; contents = refl; packages = refl; known = known_put s.graph (specifier_text at) (failed_slot kind); named = λ n. n }
beside_entered s c at u (waits h w) = record { files = refl; contents = refl; packages = refl; known = λ k h. h; named = λ n. n }
beside_entered s c at u (found h) = record { files = refl; contents = refl; packages = refl; known = λ k h. h; named = λ n. n }
beside_entered s c at u (unstated {kind} f h e) = record { files = refl; contents = refl; packages = refl; known = known_put s.graph (specifier_text at) (failed_slot kind); named = λ n. n }
beside_entered s c at u (node h n) = record { files = refl; contents = refl; packages = refl; known = known_put s.graph (specifier_text at) (node_slot at); named = λ n. n }
beside_entered s c at u (no_package {e} f h j n) = record { files = refl; contents = refl; packages = refl; known = known_put s.graph (specifier_text at) (failed_slot (LoadFails at c.range (Jsr (PackageFormat e)))); named = λ n. n }
beside_entered s c at u (no_npm_package {e} f h j n) = record { files = refl; contents = refl; packages = refl; known = known_put s.graph (specifier_text at) (failed_slot (LoadFails at c.range (Npm (PackageReqReferenceParse e)))); named = λ n. n }
beside_entered s c at u (passed_through f h j n p) = record { files = refl; contents = refl; packages = refl; known = known_put s.graph (specifier_text at) (external_slot at false); named = λ n. n }
beside_entered s c at u (stays_there j t) = record { files = refl; contents = refl; packages = refl; known = λ k h. h; named = λ n. n }
beside_entered s c at u (awaits {r = r} f h j n p) = record { files = refl; contents = refl; packages = refl; known = λ k h. h; named = λ old. named_last s.waiting (waiting_at at r c) old n }
beside_entered s c at u (resolves f h j o n) = record { files = refl; contents = refl; packages = refl; known = λ k h. h; named = λ n. n }
beside_entered s c at u (opens free h n) = record { files = refl; contents = refl; packages = refl; known = known_put s.graph (specifier_text at) (Pending c.asset); named = λ n. n }

pub beside_enter : (s : State) (load : Load) → Beside s (enter s load)
beside_enter s load = beside_entered s load.context (redirected_end s.graph load.specifier) (enter s load) (how_entered s load)

pub beside_enter_all : (s : State) (loads : List Load) → Beside s (enter_all s loads)
unfolding enter_all
beside_enter_all s [] = beside_same s
beside_enter_all s (load ∷ loads) = beside_both s (enter s load) _ (beside_enter s load) (beside_enter_all (enter s load) loads)

beside_edged : (s : State) (load : Load) (u : State) → Edged s load u → Beside s u
beside_edged s load u (queues p f) = record { files = refl; contents = refl; packages = refl; known = λ k h. h; named = λ n. n }
beside_edged s load u enters = beside_enter s (with_mark s.root_names load)

pub beside_edges : (s : State) (loads : List Load) → Beside s (enter_edges s loads)
unfolding enter_edges
beside_edges s [] = beside_same s
beside_edges s (load ∷ loads) = beside_both s (enter_edge s load) _ (beside_edged s load (enter_edge s load) (how_edged s load)) (beside_edges (enter_edge s load) loads)

-- ---- storing

beside_placed : (s : State) (load : Load) (held : Option PackageNv) (name : Parts) (slot : ModuleSlot) → Beside s (placed_at s load held name slot)
beside_placed s load held name slot =
    let g = renamed s.graph load.specifier name in
    let how = how_placed (renamed s.graph load.specifier name) name slot in
    record {
      files = refl;
      contents = refl;
      packages = placed_packages g name slot _ how ∙ renamed_packages s.graph load.specifier name;
      known = λ k h. known_placed g name slot _ how k (known_renamed s.graph load.specifier name k h);
      named = λ n. n;
    }

pub beside_at : (s : State) (load : Load) (held : Option PackageNv) (name : Parts) (slot : ModuleSlot) → Beside s (stored_at s load held name slot)
beside_at s load held name slot = beside_both s (placed_at s load held name slot) _ (beside_placed s load held name slot) (beside_edges (placed_at s load held name slot) (edges_from s.graph.kind s.flags.skip_dynamic_deps slot (in_package held load.context)))

-- the content that an outcome leaves to come
abbrev pub comes_with : Outcome → Option LaterContent
comes_with (At name slot held content) = content
comes_with (To n) = None

pub beside_stored : (most : ℕ) (s : State) (load : Load) (o : Outcome) → Beside (with_content s (comes_with o)) (stored most s load o)
unfolding stored
beside_stored most s load (At name slot held content) = beside_at (with_content s content) load held name slot
beside_stored most s load (To n) = by_end (is_end most s load n)
  where
    by_end : (b : Bool) → Beside s (if b then redirects_ended s load else redirected s load n)
    by_end true = record { files = refl; contents = refl; packages = refl; known = known_put s.graph (specifier_text load.specifier) (Failed (redirects_error load.specifier load.context.range)); named = λ n. n }
    by_end false =
        let from = beside_enter (record s { graph = moved s.graph load.specifier n }) (record { specifier = n; context = hop load.context; is_type = false }) in
        record {
          files = from.files;
          contents = from.contents;
          packages = from.packages ∙ moved_packages s.graph load.specifier n (moved s.graph load.specifier n) (how_moved s.graph load.specifier n);
          known = λ k h. from.known k (known_moved s.graph load.specifier n k h);
          named = from.named;
        }

-- an error stands at its name
known_there : (g : ModuleGraph) (n : Parts) (x : ModuleError) (u : ModuleGraph) → Placed g n (Failed x) u → IsKnown u (specifier_text n)
known_there g n x u (there free) = inl (slot_put g (specifier_text n) (Failed x))
known_there g n x u (stood o t) = absurd (true≢false (sym o))

-- where an error is stored, it is known
pub known_error : (most : ℕ) (s : State) (load : Load) (held : Option PackageNv) (name : Parts) (x : ModuleError) → IsKnown (stored most s load (At name (Failed x) held None)).graph (specifier_text name)
unfolding stored
known_error most s load held name x =
    let g = renamed s.graph load.specifier name in
    let from = beside_edges (placed_at s load held name (Failed x)) (edges_from s.graph.kind s.flags.skip_dynamic_deps (Failed x) (in_package held load.context)) in
    from.known (specifier_text name) (known_there g name x _ (how_placed g name (Failed x)))

-- ---- where no load is open

pub beside_deferred : (s : State) → Beside s (deferred_entered s)
unfolding deferred_entered
beside_deferred s =
    let from = beside_enter_all (record s { deferred = [] }) (waited_loads s.deferred) in
    record { files = from.files; contents = from.contents; packages = from.packages; known = from.known; named = from.named }

pub beside_dynamic : (s : State) → Beside s (dynamic_entered s)
unfolding dynamic_entered
beside_dynamic s =
    let from = beside_enter_all (record s { dynamic = []; is_dynamic = true }) (waited_imports s.root_names s.dynamic) in
    record { files = from.files; contents = from.contents; packages = from.packages; known = from.known; named = from.named }

-- whatever content it leaves to come, files and packages are those before it, what was known is known, and what waits is named
pub record BesideContent (s u : State) : Type 0 where
  pub files : u.files ≡ s.files
  pub packages : u.graph.packages ≡ s.graph.packages
  pub known : (k : List ℕ) → IsKnown s.graph k → IsKnown u.graph k
  pub named : AllNamed s.waiting → AllNamed u.waiting

beside_content : (s : State) (c : Option LaterContent) (u : State) → Beside (with_content s c) u → BesideContent s u
beside_content s None u b = record { files = b.files; packages = b.packages; known = b.known; named = b.named }
beside_content s (Some l) u b = record { files = b.files; packages = b.packages; known = b.known; named = b.named }

pub beside_outcome : (most : ℕ) (s : State) (load : Load) (o : Outcome) → BesideContent s (stored most s load o)
beside_outcome most s load o = beside_content s (comes_with o) (stored most s load o) (beside_stored most s load o)
