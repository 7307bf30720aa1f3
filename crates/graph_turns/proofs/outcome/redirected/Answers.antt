use Rattle.std.proofs.Common.{refl, sym, ap}
use Rattle.graph_turns.specs.declared.question_of.Asked.{Asked}
use Rattle.graph_turns.specs.Machine.Outcomes.Suits.{goes_on}
use Rattle.graph_turns.proofs.Entering.Outcomes.{suits_as, suits_failed}
use Rattle.graph_turns.proofs.outcome.redirected.Goals as goal

pub returns-in_default-clause-suits : goal.returns-in_default-clause-suits
returns-in_default-clause-suits c = goes_on refl

pub returns-clause-suits : goal.returns-clause-suits
returns-clause-suits c =
    suits_as c.refused.result c.args.load.now _ _ (suits_failed c.args.load.now _ c.outside.result.held _ (sym (ap (λ (a : Asked). a.held) c.outside.ensures))) c.refused.ensures
