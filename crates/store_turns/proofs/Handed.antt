-- What is handed out and asked, and what is answered.
use Rattle.std.proofs.Common.{◌≡◌, ℕ, ◌+◌, ◌<◌, List, [], ◌∷◌, ◌++◌, length, Option, Some, None, refl, sym, ap, ◌∙◌, subst, arith, inl}
use Rattle.std.specs.Prelude.{IfSome, IfNone}
use Rattle.source_io.specs.Tickets.{IsUnused}
use Rattle.source_io.specs.declared.types.Question.{Question}
use Rattle.graph_builder.specs.Calls.Steps.{BuildState, Enters, HandsOut, HasQueued, IsGoing}
use Rattle.graph_builder.specs.Order.InFlight.{Matches}
use Rattle.open_loads.specs.Order.Means.{Directions}
use Rattle.open_loads.specs.Order.OpenLoads.{OpenLoads}
use Rattle.open_loads.specs.Order.Ordered.{IsTaken}
use Rattle.graph_builder.proofs.Calls.Entered.{EntersHow, going_entered, how}
use Rattle.graph_builder.proofs.Calls.Entered.EntersHow.{stood, fresh}
use Rattle.graph_builder.proofs.Calls.Going.{entered_numbers}
use Rattle.graph_builder.proofs.Calls.Started.{matches_none}
use Rattle.graph_builder.proofs.Order.Matching.{matches_asked, next_unused}

-- where nothing was handed out nothing is open
nothing_open : (tickets : List (ℕ × Question)) (b : OpenLoads) → b.taken ≡ 0 → Matches tickets b → tickets ≡ []
nothing_open [] b none m = refl
nothing_open (p ∷ ps) b none m = absurd (let low = ((m.flies p.0 p.1 (inl (refl, refl))).0).was_taken in omega (arith, low, none))

module _ {O : Type 0} where
  -- what is open is in flight still, once what is given has entered
  matches_how : (directions : Directions) (old entered : BuildState O) (tickets : List (ℕ × Question)) → IsGoing old → Enters directions old entered → Matches tickets old.turns → EntersHow directions old entered → Matches tickets entered.turns
  matches_how directions old entered tickets going e m (stood same) = subst (λ (b : BuildState O). Matches tickets b.turns) (sym same) m
  matches_how directions old entered tickets going e m (fresh f) =
      let zero_taken : old.turns.taken ≡ 0 = ap (λ (t : OpenLoads). t.taken) f.turns_are in
      matches_none tickets entered.turns (nothing_open tickets old.turns zero_taken m) ((entered_numbers directions old entered going e).0 ∙ zero_taken)

  -- a question was handed out under the next ticket
  pub record Handed (tickets : List (ℕ × Question)) (old new : BuildState O) (t : ℕ) (q : Question) : Type 0 where
    pub matches : Matches (tickets ++ (t, q) ∷ []) new.turns
    pub unused : IsUnused t tickets
    pub one : new.turns.taken ≡ old.turns.taken + 1
    pub most : new.turns.max_loads ≡ old.turns.max_loads
    pub below : old.turns.taken < old.turns.max_loads

  pub handed : (directions : Directions) (old new : BuildState O) (next : Option (ℕ × Question)) (t : ℕ) (q : Question) (tickets : List (ℕ × Question)) → IsGoing old → Matches tickets old.turns → HandsOut directions old new next → next ≡ Some (t, q) → Handed tickets old new t q
  handed directions old new next t q tickets going m out is =
      let entered = out.entered in
      let taken : IsTaken entered.turns new.turns t q = subst (λ (o : Option (ℕ × Question)). IfSome o (λ p. IsTaken entered.turns new.turns p.0 p.1)) is out.some in
      let here = matches_how directions old entered tickets going out.enters m (how directions old entered going out.enters) in
      let numbers = entered_numbers directions old entered going out.enters in
      let order = (going_entered directions old entered going out.enters).in_order in
      let below = taken.in_budget in
      let same_taken = numbers.0 in
      let same_most = numbers.1 in
      record {
        matches = matches_asked tickets entered.turns new.turns t q order here taken;
        unused = subst (λ (n : ℕ). IsUnused n tickets) (sym taken.is_next) (next_unused tickets entered.turns here);
        one = ap (λ (x : OpenLoads). x.taken) taken.one_more ∙ ap (λ (n : ℕ). n + 1) same_taken;
        most = ap (λ (x : OpenLoads). x.max_loads) taken.one_more ∙ same_most;
        below = omega (arith, below, same_taken, same_most);
      }

  -- none was
  pub record Rested (tickets : List (ℕ × Question)) (old new : BuildState O) : Type 0 where
    pub matches : Matches tickets new.turns
    pub same_taken : new.turns.taken ≡ old.turns.taken
    pub most : new.turns.max_loads ≡ old.turns.max_loads

  pub rested : (directions : Directions) (old new : BuildState O) (next : Option (ℕ × Question)) (tickets : List (ℕ × Question)) → IsGoing old → Matches tickets old.turns → HandsOut directions old new next → next ≡ None → Rested tickets old new
  rested directions old new next tickets going m out is =
      let entered = out.entered in
      let same : new ≡ entered = (subst (λ (o : Option (ℕ × Question)). IfNone o ((new ≡ entered) × (HasQueued new → ⊥))) is out.none).0 in
      let here = matches_how directions old entered tickets going out.enters m (how directions old entered going out.enters) in
      let numbers = entered_numbers directions old entered going out.enters in
      record {
        matches = subst (λ (b : BuildState O). Matches tickets b.turns) (sym same) here;
        same_taken = ap (λ (b : BuildState O). b.turns.taken) same ∙ numbers.0;
        most = ap (λ (b : BuildState O). b.turns.max_loads) same ∙ numbers.1;
      }
