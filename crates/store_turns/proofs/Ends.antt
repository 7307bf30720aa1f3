-- Turns have one end.
use Rattle.std.proofs.Common.{◌≡◌, ℕ, zero, suc, ◌+◌, ◌≤◌, Option, refl, sym, ap, ◌∙◌, subst, arith, inl, inr}
use Rattle.std.specs.Prelude.{◌-◌}
use Rattle.std.proofs.lemmas.Bool.{cases_lt}
use Rattle.source_sums.specs.Sums.{KnownSums}
use Rattle.metadata_store.specs.declared.store.JsrMetadataStore.{JsrMetadataStore}
use Rattle.graph_dependencies.specs.declared.graph_kind.GraphKind.{GraphKind}
use Rattle.graph_core.specs.declared.graph.ModuleGraph.{ModuleGraph}
use Rattle.graph_turns.specs.declared.state.State.{State}
use Rattle.graph_turns.specs.Machine.Npm.{ended_graph}
use Rattle.graph_turns.specs.Machine.Turns.{IsAtEnd, IsTurnedFrom, next_cost, put_by, turn, turns}
use Rattle.graph_turns.specs.Promise.Told.{Told}
use Rattle.graph_turns.proofs.Entering.Resting.{cost_end, put_more, turn_end, turns_more}

module _ (told : Told) (kind : GraphKind) where
  -- turns from a state at its end change nothing, and put nothing
  pub record Stays (s : State) (more : ℕ) : Type 0 where
    pub states : turns told kind more s ≡ s
    pub put : put_by told kind more s ≡ 0

  pub stays : (s : State) (more : ℕ) → IsAtEnd s → Stays s more
  unfolding turns put_by
  stays s zero end = record { states = refl; put = refl }
  stays s (suc more) end =
      let before = stays s more end in
      let free = ap (next_cost told) before.states ∙ cost_end told kind s end in
      let none = before.put in
      record {
        states = ap (turn told kind) before.states ∙ turn_end told kind s end;
        put = omega (arith, free, none);
      }

  pub record EndsAlike (start : State) (m n : ℕ) : Type 0 where
    pub states : turns told kind m start ≡ turns told kind n start
    pub put : put_by told kind m start ≡ put_by told kind n start

  -- behind their end they stay there
  pub past : (start : State) (m n : ℕ) → n ≤ m → IsAtEnd (turns told kind n start) → EndsAlike start m n
  past start m n le end =
      let e : m ≡ (m - n) + n = omega arith in
      let there = stays (turns told kind n start) (m - n) end in
      let none = there.put in
      let all = put_more told kind (m - n) n start in
      record {
        states = ap (λ k. turns told kind k start) e ∙ turns_more told kind (m - n) n start ∙ there.states;
        put = ap (λ k. put_by told kind k start) e ∙ omega (arith, all, none);
      }

  -- turns have one end
  pub one_end : (start : State) (m n : ℕ) → IsAtEnd (turns told kind m start) → IsAtEnd (turns told kind n start) → EndsAlike start m n
  one_end start m n end_m end_n =
      elim (cases_lt m n) [
        | inl lt ↦ let back = past start n m (omega arith) end_m in record { states = sym back.states; put = sym back.put }
        | inr le ↦ past start m n le end_n
      ]

  -- what two builds of the same turns leave
  pub record LeaveAlike (g h : ModuleGraph) (g_put h_put : ℕ) : Type 0 where
    pub graphs : h ≡ g
    pub put : h_put ≡ g_put

  pub leave_alike : (start : State) (g h : ModuleGraph) (g_sums h_sums : Option KnownSums) (g_store h_store : Option JsrMetadataStore) (g_put h_put : ℕ) → IsTurnedFrom told kind start g g_sums g_store g_put → IsTurnedFrom told kind start h h_sums h_store h_put → LeaveAlike g h g_put h_put
  leave_alike start g h g_sums h_sums g_store h_store g_put h_put t u =
      let end = one_end start u.count t.count u.done t.done in
      record {
        graphs = u.graph_is ∙ ap (ended_graph told) end.states ∙ sym t.graph_is;
        put = u.questions ∙ end.put ∙ sym t.questions;
      }
