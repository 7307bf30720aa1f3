use Rattle.std.proofs.Common.{◌≡◌, ◌∙◌, ℕ, Option, subst}
use Rattle.std.specs.Prelude.{IfNone, IfSome}
use Rattle.open_loads.specs.declared.turn_stage.Stage.TheVariants.{AsksAgain}
use Rattle.open_loads.specs.Order.Numbered.{asked_again}
use Rattle.open_loads.proofs.open_loads.OpenLoads.ask_again.Goals as goal

pub returns-in-Ok-Some-clause-again : goal.returns-in-Ok-Some-clause-again
returns-in-Ok-Some-clause-again g c =
    let now = c.put_again.new.self in
    c.stand.ensures ∙ subst (λ (o : Option ℕ). IfSome o (λ t. record now { stage = AsksAgain t c.args.asked c.args.first } ≡ asked_again c.args.self.now c.args.asked c.args.first)) c.in-Ok-Some.field-0-is (c.in-Ok-Some.ensures.put c.args.first)

pub returns-in-Ok-None-clause-again : goal.returns-in-Ok-None-clause-again
returns-in-Ok-None-clause-again g c =
    subst (λ (o : Option ℕ). IfNone o (c.put_again.new.self ≡ asked_again c.args.self.now c.args.asked c.args.first)) c.in-Ok-None.field-0-is (c.in-Ok-None.ensures.none c.args.first)
