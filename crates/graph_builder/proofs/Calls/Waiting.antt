-- What is deferred was asked about as an asset, and what waits for the dynamic phase is among the dynamic imports.
use Rattle.std.proofs.Common.{◌≡◌, ℕ, zero, suc, ◌<◌, List, [], ◌∷◌, length, get_or, true, refl, sym, subst, inl, inr, ⊎_elim, ◌⊎◌, arith}
use Rattle.std.specs.List.{Contains}
use Rattle.url.specs.Parts.{Parts}
use Rattle.spec_base.specs.Specifier.{specifier_text}
use Rattle.module_slots.specs.declared.load.Load.{Load}
use Rattle.module_slots.specs.declared.load.LoadContext.{LoadContext}
use Rattle.graph_turns.specs.declared.state.State.{State}
use Rattle.graph_turns.specs.declared.question_of.Asked.{Asked}
use Rattle.turn_laws.specs.Budget.Asked.{IsKnown}
use Rattle.open_loads.specs.Budget.Runs.{Answered, BeganAgain, Filled, LookedUp, Passed, Read}
use Rattle.graph_builder.specs.Calls.Builds.{HasAsset}
use Rattle.graph_turns.specs.Machine.Entering.{Imports, Waits}
use Rattle.turn_laws.proofs.Budget.Deferred.{DeferredBy}
use Rattle.turn_laws.proofs.Budget.Known.{IsKnown as IsKnownText}
use Rattle.turn_laws.proofs.Budget.Pairs.{HasDeferred, HasPair}
use Rattle.graph_turns.proofs.Entering.Loads.{HasKey}
use Rattle.graph_builder.proofs.Budget.Orderly.{answered_in}

pub contains_later : {A : Type 0} (x y : A) (xs : List A) → Contains xs y → Contains (x ∷ xs) y
contains_later x y xs among = (suc among.0, omega (arith, among.1), among.2)

pub contains_first : {A : Type 0} (x : A) (xs : List A) → Contains (x ∷ xs) x
contains_first x xs = (0, omega arith, refl)

-- ---- what is deferred

deferred_at : (es : Waits) (i : ℕ) (d : Parts × LoadContext) → i < length es → HasDeferred (specifier_text (get_or es i d).0) es
deferred_at [] i d below = absurd (omega arith)
deferred_at (e ∷ es) zero d below = inl refl
deferred_at (e ∷ es) (suc i) d below = inr (deferred_at es i d (omega arith))

pair_among : (k : List ℕ) (loads : List Load) → HasPair k true loads → (load : Load) × Contains loads load × (specifier_text load.specifier ≡ k) × (load.context.asset ≡ true)
pair_among k [] h = absurd h
pair_among k (load ∷ loads) h = ⊎_elim
    (λ here. (load, (0, omega arith, refl), sym here.0, here.1))
    (λ r. let found = pair_among k loads r in (found.0, contains_later load found.0 loads found.1, found.2, found.3))
    h

asked_among : (past : List Passed) (k : List ℕ) → HasPair k true (answered_in past) → (load : Load) × (asked : Asked) × Contains past (Answered load asked) × (specifier_text load.specifier ≡ k) × (load.context.asset ≡ true)
asked_among [] k h = absurd h
asked_among (Answered load asked ∷ past) k h = ⊎_elim
    (λ here. (load, asked, contains_first (Answered load asked) past, sym here.0, here.1))
    (λ r. let found = asked_among past k r in (found.0, found.1, contains_later (Answered load asked) (Answered found.0 found.1) past found.2, found.3, found.4))
    h
asked_among (Read nv ∷ past) k h = let found = asked_among past k h in (found.0, found.1, contains_later (Read nv) (Answered found.0 found.1) past found.2, found.3, found.4)
asked_among (LookedUp file ∷ past) k h = let found = asked_among past k h in (found.0, found.1, contains_later (LookedUp file) (Answered found.0 found.1) past found.2, found.3, found.4)
asked_among (BeganAgain g put ∷ past) k h = absurd h
asked_among (Filled l ∷ past) k h = let found = asked_among past k h in (found.0, found.1, contains_later (Filled l) (Answered found.0 found.1) past found.2, found.3, found.4)

-- what is deferred is of the text of a load of an asset that is open or was asked about, or a slot or a redirect stands there
pub deferred_among : (past : List Passed) (s : State) → DeferredBy (λ k. HasPair k true (answered_in past) ⊎ IsKnownText s.graph k) s → (e : Parts × LoadContext) → Contains s.deferred e → HasAsset e.0 s.loads past ⊎ IsKnown s.graph e.0
deferred_among past s by e among =
    let at : HasDeferred (specifier_text e.0) s.deferred = subst (λ (x : Parts × LoadContext). HasDeferred (specifier_text x.0) s.deferred) among.2 (deferred_at s.deferred among.0 e among.1) in
    ⊎_elim
    (λ h. let found = pair_among (specifier_text e.0) s.loads h in inl (inl (found.0, found.1, found.2, found.3)))
    (λ p. ⊎_elim (λ h. let found = asked_among past (specifier_text e.0) h in inl (inr (found.0, found.1, found.2, found.3, found.4))) inr p)
    (by (specifier_text e.0) at)

-- ---- what waits

pub wait_among : (k : List ℕ) (es : Imports) → HasKey k es → (e : Parts × Load) × Contains es e × (specifier_text e.0 ≡ k)
wait_among k [] h = absurd h
wait_among k (e ∷ es) h = ⊎_elim
    (λ same. (e, (0, omega arith, refl), sym same))
    (λ r. let found = wait_among k es r in (found.0, contains_later e found.0 es found.1, found.2))
    h
