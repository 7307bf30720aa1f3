use Rattle.std.proofs.Common.{◌≡◌, Some, subst}
use Rattle.std.specs.Prelude.{IfOk}
use Rattle.graph_turns.proofs.Entering.Joined.{sum_missing, sum_stands}
use Rattle.graph_turns.proofs.sums.KnownSums.source.Goals as goal

pub returns-in-Some-2 : goal.returns-in-Some-2
returns-in-Some-2 g c = sum_stands g.L.Locker.remote c.args.self.now.locker.now c.in-Some.locker c.args.self.now.run.now c.args.specifier.now _ c.in-Some.is c.in_ok-sum-in-Some.ensures c.in-Some-2.sum c.in-Some-2.is

pub returns-in-None-2 : goal.returns-in-None-2
returns-in-None-2 g c =
    subst (λ x. IfOk c.earlier_sum.result (λ sum. sum ≡ x))
    (sum_missing g.L.Locker.remote c.args.self.now.locker.now c.in-Some.locker c.args.self.now.run.now c.args.specifier.now _ c.in-Some.is c.in_ok-sum-in-Some.ensures c.in-None-2.is)
    c.earlier_sum.ensures
