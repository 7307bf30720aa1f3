-- The answer that a turn waits for, where it is kept.
use Rattle.std.proofs.Common.{◌≡◌, ℕ, Option, None, Some, sym, ap, ◌∙◌, subst}
use Rattle.std.specs.Prelude.{IfNone, IfSome}
use Rattle.std.specs.Ordering.{nat_cmp}
use Rattle.std.specs.FinMap as finite
use Rattle.source_io.specs.declared.types.Answer.{Answer}
use Rattle.open_loads.specs.Order.Asking.{awaited}
use Rattle.open_loads.specs.Order.OpenLoads.{OpenLoads}
use Rattle.open_loads.specs.Order.Ordered.{IsResting, TakesOut}

-- no turn stands
pub rests : (old : OpenLoads) → awaited old.stage ≡ None → IsResting old
rests old none t e = absurd (let wrong : None ≡ Some t = sym none ∙ e in cc)

same_ticket : (t u : ℕ) → Some t ≡ Some u → t ≡ u
same_ticket t u e = cc

-- it is taken out
pub taken_out : (r : Option Answer) (b old : OpenLoads) (t : ℕ) (kept : finite.FinMap nat_cmp Answer) → b ≡ old → awaited b.stage ≡ Some t → r ≡ finite.get b.kept t → kept ≡ finite.remove b.kept t → IfSome r (λ a. TakesOut old a (record b { kept = kept }))
taken_out None b old t kept same waits is left = tt
taken_out (Some a) b old t kept same waits is left = record {
  ticket = t;
  waits = ap (λ (x : OpenLoads). awaited x.stage) (sym same) ∙ waits;
  here = ap (λ (x : OpenLoads). finite.get x.kept t) (sym same) ∙ sym is;
  left = ap (λ (k : finite.FinMap nat_cmp Answer). record b { kept = k }) left ∙ ap (λ (x : OpenLoads). record x { kept = finite.remove x.kept t }) same;
}

-- or isn't there
pub not_there : (r : Option Answer) (b old : OpenLoads) (t : ℕ) (kept : finite.FinMap nat_cmp Answer) → b ≡ old → awaited b.stage ≡ Some t → r ≡ finite.get b.kept t → IfNone r (kept ≡ b.kept) → IfNone r ((record b { kept = kept } ≡ old) × IsResting old)
not_there (Some a) b old t kept same waits is stays = tt
not_there None b old t kept same waits is stays = (ap (λ (k : finite.FinMap nat_cmp Answer). record b { kept = k }) stays ∙ same, resting)
  where
    resting : IsResting old
    resting u e =
        subst (λ x. finite.get old.kept x ≡ None) (same_ticket t u (sym waits ∙ ap (λ (x : OpenLoads). awaited x.stage) same ∙ e))
        (ap (λ (x : OpenLoads). finite.get x.kept t) (sym same) ∙ sym is)
