-- Known redirects, followed.
use Rattle.std.proofs.Common.{◌≡◌, ℕ, zero, suc, ◌+◌, ◌-◌, ◌<◌, List, [], ◌∷◌, ◌++◌, Bool, true, false, Option, None, Some, refl, sym, ap, ◌∙◌, subst, arith, if◌then◌else◌}
use Rattle.std.specs.List.{list_any}
use Rattle.url.specs.Parts.{Parts}
use Rattle.spec_base.specs.Options.{by_option}
use Rattle.spec_base.specs.Specifier.{same_specifier}
use Rattle.graph_core.specs.declared.graph.ModuleGraph.{ModuleGraph}
use Rattle.graph_core.specs.Graph.{has_slot, redirect_at}
use Rattle.graph_turns.specs.Machine.Redirects.{follow, onward_at}

module _ (g : ModuleGraph) where
  pub onward_slot : (s : Parts) → has_slot g s ≡ true → onward_at g s ≡ None
  onward_slot s h = ap (λ b. if b then None else redirect_at g s) h

  pub onward_free : (s : Parts) → has_slot g s ≡ false → onward_at g s ≡ redirect_at g s
  onward_free s h = ap (λ b. if b then None else redirect_at g s) h

  -- a redirect that leads on is one of a specifier without a slot
  pub onward_parts : (s t : Parts) → onward_at g s ≡ Some t → (has_slot g s ≡ false) × (redirect_at g s ≡ Some t)
  onward_parts s t e = by_slot (has_slot g s) refl
    where
      by_slot : (b : Bool) → has_slot g s ≡ b → (has_slot g s ≡ false) × (redirect_at g s ≡ Some t)
      by_slot true h = absurd (let none = onward_slot s h in cc)
      by_slot false h = (h, sym (onward_free s h) ∙ e)

  pub follow_zero : (met : List Parts) (s : Parts) → follow g zero met s ≡ s
  unfolding follow
  follow_zero met s = refl

  pub follow_last : (n : ℕ) (met : List Parts) (s : Parts) → onward_at g s ≡ None → follow g n met s ≡ s
  unfolding follow
  follow_last zero met s e = refl
  follow_last (suc n) met s e = ap (λ o. by_option o s (λ t. if list_any (same_specifier t) met then s else follow g n (met ++ t ∷ []) t)) e

  follow_by : (n : ℕ) (met : List Parts) (s t : Parts) → onward_at g s ≡ Some t → follow g (suc n) met s ≡ (if list_any (same_specifier t) met then s else follow g n (met ++ t ∷ []) t)
  unfolding follow
  follow_by n met s t e = ap (λ o. by_option o s (λ t. if list_any (same_specifier t) met then s else follow g n (met ++ t ∷ []) t)) e

  -- what comes next was met
  pub follow_met : (n : ℕ) (met : List Parts) (s t : Parts) → onward_at g s ≡ Some t → list_any (same_specifier t) met ≡ true → follow g (suc n) met s ≡ s
  follow_met n met s t e m = follow_by n met s t e ∙ ap (λ b. if b then s else follow g n (met ++ t ∷ []) t) m

  -- what comes next is new
  pub follow_new : (n : ℕ) (met : List Parts) (s t : Parts) → onward_at g s ≡ Some t → list_any (same_specifier t) met ≡ false → follow g (suc n) met s ≡ follow g n (met ++ t ∷ []) t
  follow_new n met s t e m = follow_by n met s t e ∙ ap (λ b. if b then s else follow g n (met ++ t ∷ []) t) m

  -- what each known redirect keeps, the end of them keeps
  pub follow_keeps : (P : Parts → Type 0) → ((s t : Parts) → P s → onward_at g s ≡ Some t → P t) → (n : ℕ) (met : List Parts) (s : Parts) → P s → P (follow g n met s)
  follow_keeps P on zero met s p = subst P (sym (follow_zero met s)) p
  follow_keeps P on (suc n) met s p = by_next (λ t. follow_keeps P on n (met ++ t ∷ []) t) (onward_at g s) refl
    where
      by_met : (t : Parts) → onward_at g s ≡ Some t → P (follow g n (met ++ t ∷ []) t) → (b : Bool) → list_any (same_specifier t) met ≡ b → P (follow g (suc n) met s)
      by_met t e rest true m = subst P (sym (follow_met n met s t e m)) p
      by_met t e rest false m = subst P (sym (follow_new n met s t e m)) rest

      by_next : ((t : Parts) → P t → P (follow g n (met ++ t ∷ []) t)) → (o : Option Parts) → onward_at g s ≡ o → P (follow g (suc n) met s)
      by_next next None e = subst P (sym (follow_last (suc n) met s e)) p
      by_next next (Some t) e = by_met t e (next t (on s t p e)) (list_any (same_specifier t) met) refl

  -- steps of a loop that counts up
  pub follow_step : (m i : ℕ) (met : List Parts) (s t : Parts) → i < m → onward_at g s ≡ Some t → list_any (same_specifier t) met ≡ false → follow g (m - i) met s ≡ follow g (m - (i + 1)) (met ++ t ∷ []) t
  follow_step m i met s t below e new =
      let more : m - i ≡ suc (m - (i + 1)) = omega arith in
      ap (λ n. follow g n met s) more ∙ follow_new (m - (i + 1)) met s t e new

  pub follow_stop : (m i : ℕ) (met : List Parts) (s t : Parts) → i < m → onward_at g s ≡ Some t → list_any (same_specifier t) met ≡ true → follow g (m - i) met s ≡ s
  follow_stop m i met s t below e was =
      let more : m - i ≡ suc (m - (i + 1)) = omega arith in
      ap (λ n. follow g n met s) more ∙ follow_met (m - (i + 1)) met s t e was
