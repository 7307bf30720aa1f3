use Rattle.std.proofs.Common.{◌≡◌, Some, subst}
use Rattle.std.specs.Prelude.{IfOk}
use Rattle.graph_turns.proofs.Entering.Joined.{manifest_missing, manifest_stands}
use Rattle.graph_turns.proofs.sums.KnownSums.manifest.Goals as goal

pub returns-in-Some-2 : goal.returns-in-Some-2
returns-in-Some-2 g c = manifest_stands g.L.Locker.manifests c.args.self.now.locker.now c.in-Some.locker c.args.self.now.run.now c.args.nv.now _ c.in-Some.is c.in_ok-sum-in-Some.ensures c.in-Some-2.sum c.in-Some-2.is

pub returns-in-None-2 : goal.returns-in-None-2
returns-in-None-2 g c =
    subst (λ x. IfOk c.earlier_manifest.result (λ sum. sum ≡ x))
    (manifest_missing g.L.Locker.manifests c.args.self.now.locker.now c.in-Some.locker c.args.self.now.run.now c.args.nv.now _ c.in-Some.is c.in_ok-sum-in-Some.ensures c.in-None-2.is)
    c.earlier_manifest.ensures
