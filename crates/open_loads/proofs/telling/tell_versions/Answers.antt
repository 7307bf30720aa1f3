use Rattle.std.proofs.Common.{rules, ◌≡◌, None, Some}
use Rattle.std.proofs.lemmas.Result.{on_ok_weaker}
use Rattle.std.specs.FinMap as finite
use Rattle.graph_turns.specs.Machine.Runs.{earlier_manifests}
use Rattle.open_loads.proofs.Order.Telling.{learns_both, learns_first}
use Rattle.open_loads.proofs.telling.tell_versions.Goals as goal

pub returns-in-None-clause-taught : goal.returns-in-None-clause-taught
returns-in-None-clause-taught g c =
    let none : earlier_manifests c.args.run.now ≡ None = search rules in
    on_ok_weaker c.tell_manifests.result (learns_first c.args.run.now (g.L.Locker.manifests c.args.locker.now) (g.L.Locker.manifests c.tell_manifests.new.locker) (finite.get c.args.files.now) none) c.tell_manifests.ensures.taught

pub returns-in_ok-tell_earlier-in-Some-clause-taught : goal.returns-in_ok-tell_earlier-in-Some-clause-taught
returns-in_ok-tell_earlier-in-Some-clause-taught g c =
    let found : earlier_manifests c.args.run.now ≡ Some c.in-Some.manifests.now = search rules in
    on_ok_weaker c.tell_manifests-in-Some.result
    (learns_both c.args.run.now (g.L.Locker.manifests c.args.locker.now) (g.L.Locker.manifests c.tell_earlier.new.locker) (g.L.Locker.manifests c.tell_manifests-in-Some.new.locker) c.in-Some.manifests.now (finite.get c.args.files.now) found c.in_ok-tell_earlier-in-Some.ensures.taught)
    c.tell_manifests-in-Some.ensures.taught

pub returns-in_ok-tell_earlier-in-Some-clause-kept : goal.returns-in_ok-tell_earlier-in-Some-clause-kept
returns-in_ok-tell_earlier-in-Some-clause-kept g c = λ nv sum e. c.tell_manifests-in-Some.ensures.kept nv sum (c.tell_earlier.ensures.kept nv sum e)
