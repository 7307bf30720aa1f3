-- What a build makes of the empty graph, by what is told: the graph that its turns leave, with the `npm:` specifiers that waited.
use Rattle.std.proofs.Common.{◌≡◌, ◌==◌, ℕ, zero, suc, List, [], ◌∷◌, ◌++◌, map, length, Bool, true, false, ◌&&◌, not, if◌then◌else◌, None, Some, is_some, refl, sym, ap, ◌∙◌, subst, ⊎_elim, arith}
use Rattle.std.specs.FinMap as finite
use Rattle.std.specs.List.{All, Contains}
use Rattle.std.proofs.lemmas.List.Elements.{All-nil}
use Rattle.std.proofs.lemmas.Bool.{true≢false}
use Rattle.url.specs.Parts.{Parts}
use Rattle.graph_dependencies.specs.declared.referrer_imports.ReferrerImports.{ReferrerImports}
use Rattle.semver_npm.specs.declared.package.PackageNv.{PackageNv}
use Rattle.semver_npm.specs.declared.package.PackageReq.{PackageReq}
use Rattle.graph_dependencies.specs.declared.graph_kind.GraphKind.{GraphKind}
use Rattle.graph_errors.specs.declared.jsr_error.JsrLoadError.TheVariants.{PackageReqNotFound}
use Rattle.graph_core.specs.Graph.{new_graph}
use Rattle.graph_core.specs.declared.graph.ModuleGraph.{ModuleGraph}
use Rattle.module_slots.specs.declared.slot.ModuleSlot.TheVariants.{Pending}
use Rattle.graph_turns.specs.declared.run.Run.{Run}
use Rattle.graph_turns.specs.declared.next.Next.TheVariants.{End}
use Rattle.graph_turns.specs.declared.run.Run.TheVariants.{First, Second}
use Rattle.graph_turns.specs.declared.state.State.{State}
use Rattle.graph_turns.specs.Machine.Runs.{begins_anew, told_first, told_for}
use Rattle.graph_turns.specs.Machine.Next.{next_of}
use Rattle.graph_turns.specs.Machine.Starting.{start_entered, told_start}
use Rattle.graph_turns.specs.Machine.Turns.{IsTurned, IsTurnedFrom, begun, turn, turns}
use Rattle.graph_turns.specs.Promise.Choices.{IsMade, IsMadeIn}
use Rattle.graph_turns.specs.Promise.Choices.IsMade.{at_once, once_more}
use Rattle.turn_laws.specs.Promise.Complete.{NonePending}
use Rattle.graph_turns.specs.Promise.Input.{Given, fresh_entry, resolved_import}
use Rattle.graph_turns.specs.Promise.Runs.{left_of}
use Rattle.graph_turns.specs.Promise.Slots.{jsr_slot}
use Rattle.graph_turns.specs.Promise.Told.{Told}
use Rattle.graph_core.proofs.At.{nothing_in_empty}
use Rattle.graph_turns.proofs.Entering.Next.{turn_as}
use Rattle.graph_turns.proofs.Entering.Rested.{not_zero}
use Rattle.turn_laws.proofs.Promise.Kept.{Kept}
use Rattle.turn_laws.proofs.Promise.KeptTurns.{IsRunFrom, KeptInRun, begins_by, entry_by, kept_begun, kept_turns, same_length}
use Rattle.turn_laws.proofs.Promise.KeptTurns.IsRunFrom.{only, first, second}
use Rattle.graph_turns.specs.Machine.Entering.{enter_all}
use Rattle.npm_resolver.specs.declared.types.NpmTable.{NpmTable}
use Rattle.module_slots.specs.declared.npm_load.NpmLoad.{NpmLoad}
use Rattle.graph_turns.specs.Machine.Npm.{IsEnded, ended_graph}
use Rattle.graph_core.specs.Npm.{asks_npm_graph, dynamic_npm, npm_told, static_npm, told_npm, told_npm_graph, told_npm_results}
use Rattle.graph_turns.specs.Machine.Npm.IsEnded.{as_it_is, settled}
use Rattle.turn_laws.specs.Promise.Keeps.{IsReachedNpm}
use Rattle.turn_laws.proofs.Promise.Ended.{choices_ended, ends_as, explained_ended}
use Rattle.turn_laws.proofs.Promise.KeptEnds.{made_in}

-- ---- the graph that is told is one that a build leaves

firsts_told : (table : NpmTable) (dynamic : Bool) (items : List NpmLoad) → map (λ e. e.0) (told_npm table dynamic items) ≡ items
firsts_told table dynamic [] = refl
firsts_told table dynamic (item ∷ items) = ap (λ is. item ∷ is) (firsts_told table dynamic items)

firsts_both : (table : NpmTable) (statics dynamics : List NpmLoad) → map (λ e. e.0) (told_npm table false statics ++ told_npm table true dynamics) ≡ statics ++ dynamics
firsts_both table [] dynamics = firsts_told table true dynamics
firsts_both table (item ∷ statics) dynamics = ap (λ is. item ∷ is) (firsts_both table statics dynamics)

asks_told : (table : NpmTable) (asks : Bool) → is_some (if asks then Some table.graph else None) ≡ asks
asks_told table true = refl
asks_told table false = refl

pub ended_is : (told : Told) (s : State) → IsEnded (Some told.npm) s (ended_graph told s)
ended_is told s = by s.flags.resolves_npm refl
  where
    by_flag : Bool → ModuleGraph
    by_flag b = if b then npm_told told.npm s.npm s.graph else s.graph

    by : (b : Bool) → s.flags.resolves_npm ≡ b → IsEnded (Some told.npm) s (by_flag s.flags.resolves_npm)
    by true on = settled on record {
      results = told_npm_results told.npm s.npm;
      graph = told_npm_graph told.npm s.npm;
      each = firsts_both told.npm (static_npm s.npm) (dynamic_npm s.npm);
      asks = asks_told told.npm (asks_npm_graph s.npm);
      is = ap by_flag on;
      told = ap by_flag on;
    }
    by false none = subst (IsEnded (Some told.npm) s) (sym (ap by_flag none)) (as_it_is none)

-- so what is made of the empty graph is so with it
made_ended : (told : Told) (given : Given) (s : State) → All (IsReachedNpm told (fresh_entry told given)) s.npm → IsMadeIn told given s.graph → IsMadeIn told given (ended_graph told s)
made_ended told given s reached made =
    let u = ended_graph told s in
    let adds = ends_as s u (ended_is told s) in
    record {
      explained = record {
        slots = λ k v e. ⊎_elim (made.explained.slots k v) (λ x. x) (explained_ended told (fresh_entry told given) s u reached (ended_is told s) k v e);
        redirects = λ k n e. made.explained.redirects k n (sym (ap (λ m. finite.get m k) adds.redirects) ∙ e);
      };
      choices = choices_ended told (fresh_entry told given) s u adds made.choices;
    }

-- where something is given
made_by : (told : Told) (given : Given) (s : State) → begins_anew (new_graph given.kind) (told_start told (left_of given)).roots (told_start told (left_of given)).imports ≡ true → KeptInRun told (new_graph given.kind) (told_start told (left_of given)) s → s.contents ≡ [] → NonePending s.graph → IsMade told given (ended_graph told s)
made_by told given s anew k none closed = by k.begun k.is_run k.kept
  where
    by : (run : Run) → IsRunFrom told (new_graph given.kind) (told_start told (left_of given)) run → Kept (told_for told run) (entry_by told.known.flags.is_dynamic (new_graph given.kind) (told_start told (left_of given)) run) (begins_by told.known.flags.is_dynamic (new_graph given.kind) (told_start told (left_of given)) run) s → IsMade told given (ended_graph told s)
    by run (only f) kept = absurd (true≢false (sym anew ∙ f))
    by run (first t) kept = at_once (made_ended (told_first told) given s kept.npm
        (made_in (told_first told) given (begins_by told.known.flags.is_dynamic (new_graph given.kind) (told_start told (left_of given)) (First (told_start told (left_of given)))) s kept none closed))
    by run (second {e} t lacks found) kept = once_more lacks found (made_ended (told_for told (Second e)) given s kept.npm
        (made_in (told_for told (Second e)) given (begins_by told.known.flags.is_dynamic (new_graph given.kind) (told_start told (left_of given)) (Second e)) s kept none closed))

none_long : {A : Type 0} (xs : List A) → (length xs == 0) ≡ true → xs ≡ []
none_long [] t = refl
none_long (x ∷ xs) t = absurd (true≢false (sym t ∙ not_zero (length xs)))

both_true : (a b : Bool) → not (a && b) ≡ false → (a ≡ true) × (b ≡ true)
both_true true true e = (refl, refl)
both_true true false e = absurd (true≢false e)
both_true false b e = absurd (true≢false e)

-- nothing is given to the empty graph
abbrev nothing : GraphKind → Given
nothing kind = record { kind = kind; roots = []; imports = [] }

ends_at_once : (told : Told) (kind : GraphKind) → next_of (begun told (nothing kind)) ≡ End
unfolding start_entered enter_all
ends_at_once told kind = refl

stands_still : (told : Told) (kind : GraphKind) (n : ℕ) → turns told kind n (begun told (nothing kind)) ≡ begun told (nothing kind)
unfolding turns
stands_still told kind zero = refl
stands_still told kind (suc n) = ap (turn told kind) (stands_still told kind n) ∙ turn_as told kind (begun told (nothing kind)) End (ends_at_once told kind)

made_of_nothing : (told : Told) (kind : GraphKind) → IsMadeIn (told_first told) (nothing kind) (begun told (nothing kind)).graph
unfolding start_entered enter_all
made_of_nothing told kind = record {
  explained = record {
    slots = λ k slot e. absurd (nothing_in_empty k slot e);
    redirects = λ k n e. absurd (nothing_in_empty k n e);
  };
  choices = record {
    mapped = λ req nv among. absurd (none_among (req, nv) among);
    not_met = λ k e says. absurd (nothing_in_empty k (jsr_slot says.0 says.1 (PackageReqNotFound e)) says.3);
  };
}
  where
    none_among : (e : PackageReq × PackageNv) → Contains {X = PackageReq × PackageNv} [] e → ⊥
    none_among e among = let below = among.1 in omega (arith, below)

-- no `npm:` specifier waits there
none_waits : (told : Told) (kind : GraphKind) → All (IsReachedNpm (told_first told) (fresh_entry (told_first told) (nothing kind))) (begun told (nothing kind)).npm
unfolding start_entered enter_all
none_waits told kind = All-nil (IsReachedNpm (told_first told) (fresh_entry (told_first told) (nothing kind)))

-- the turns of a build of what is given into the empty graph
pub made_turned : (told : Told) (given : Given) (g : ModuleGraph) → IsTurned told given g → NonePending g → IsMade told given g
made_turned told given g turned closed =
    subst (IsMade told given) (sym t.graph_is) (by (begins_anew (new_graph given.kind) given.roots (told_start told (left_of given)).imports) refl)
  where
    t : IsTurnedFrom told given.kind (begun told given) g turned.0 turned.1 turned.2
    t = turned.3

    s : State
    s = turns told given.kind t.count (begun told given)

    still_closed : NonePending s.graph
    still_closed k asset at = subst NonePending t.graph_is closed k asset ((ends_as s (ended_graph told s) (ended_is told s)).still k (Pending asset) at)

    of_nothing : (roots : List Parts) (imports : List ReferrerImports) → given ≡ record { kind = given.kind; roots = roots; imports = imports } → roots ≡ [] → imports ≡ [] → IsMade told given (ended_graph told s)
    of_nothing roots imports is r i =
        let none : given ≡ nothing given.kind = is ∙ ap (λ x. record { kind = given.kind; roots = x; imports = imports }) r ∙ ap (λ x. record { kind = given.kind; roots = []; imports = x }) i in
        subst (λ (x : Given). IsMade told x (ended_graph told (turns told x.kind t.count (begun told x)))) (sym none)
        (subst (λ (x : State). IsMade told (nothing given.kind) (ended_graph told x)) (sym (stands_still told given.kind t.count))
        (at_once (made_ended (told_first told) (nothing given.kind) (begun told (nothing given.kind)) (none_waits told given.kind) (made_of_nothing told given.kind))))

    by : (b : Bool) → begins_anew (new_graph given.kind) given.roots (told_start told (left_of given)).imports ≡ b → IsMade told given (ended_graph told s)
    by true anew = made_by told given s anew
        (kept_turns told (new_graph given.kind) (told_start told (left_of given)) t.count (begun told given) (kept_begun told (new_graph given.kind) (told_start told (left_of given))))
        t.done.none_comes still_closed
    by false f =
        let both = both_true (length given.roots == 0) (length (told_start told (left_of given)).imports == 0) f in
        of_nothing given.roots given.imports refl (none_long given.roots both.0)
        (none_long given.imports (ap (λ n. n == 0) (sym (same_length (resolved_import told.resolving) given.imports)) ∙ both.1))
