use Rattle.std.proofs.Common.{◌≡◌, ◌∙◌, ℕ, Option, subst}
use Rattle.std.specs.Prelude.{IfNone, IfSome}
use Rattle.open_loads.specs.declared.turn_stage.Stage.TheVariants.{Asks}
use Rattle.open_loads.specs.Order.Numbered.{asked_first}
use Rattle.open_loads.proofs.open_loads.OpenLoads.ask_now.Goals as goal

pub returns-in-Ok-Some-clause-asked : goal.returns-in-Ok-Some-clause-asked
returns-in-Ok-Some-clause-asked g c =
    let now = c.put_first.new.self in
    c.stand.ensures ∙ subst (λ (o : Option ℕ). IfSome o (λ t. record now { stage = Asks t c.args.asked } ≡ asked_first c.args.self.now c.args.asked)) c.in-Ok-Some.field-0-is c.in-Ok-Some.ensures.put

pub returns-in-Ok-None-clause-asked : goal.returns-in-Ok-None-clause-asked
returns-in-Ok-None-clause-asked g c =
    subst (λ (o : Option ℕ). IfNone o (c.put_first.new.self ≡ asked_first c.args.self.now c.args.asked)) c.in-Ok-None.field-0-is c.in-Ok-None.ensures.none
