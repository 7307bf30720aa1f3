use Rattle.std.proofs.Common.{◌≡◌, subst, sym}
use Rattle.std.proofs.lemmas.Result.{on_ok_weaker}
use Rattle.std.specs.FinMap as finite
use Rattle.graph_turns.specs.Machine.Known.{Known}
use Rattle.graph_turns.specs.Machine.Sums.{IsTaught, KeepsSums, LearnsAtMost}
use Rattle.open_loads.specs.Taught.{KeepsStore, LearnsManifests, StillKnows}
use Rattle.open_loads.specs.Order.OpenLoads.{known_now}
use Rattle.open_loads.specs.Order.Numbered.{filled_store}
use Rattle.open_loads.proofs.Order.Telling.{known_then, said, settled_end, settled_ended}
use Rattle.open_loads.proofs.open_loads.OpenLoads.close.Goals as goal

pub returns-clause-same : goal.returns-clause-same
returns-clause-same g c =
    on_ok_weaker c.settle_npm.result (settled_end c.args.self.now c.teach.new.self c.settle_npm.new.self c.settle_npm.ensures.same c.in_ok-teach.ensures.same) c.settle_npm.ensures.settles

pub returns-clause-ended : goal.returns-clause-ended
returns-clause-ended g c =
    on_ok_weaker c.settle_npm.result (settled_ended c.args.self.now c.teach.new.self c.settle_npm.new.self c.settle_npm.ensures.same c.in_ok-teach.ensures.same) c.settle_npm.ensures.ended

pub returns-clause-flags : goal.returns-clause-flags
returns-clause-flags g c =
    let old = c.args.self.now in
    subst (λ (k : Known). k.flags ≡ old.known.flags) (sym (known_then c.args.self.now c.teach.new.self c.settle_npm.new.self c.settle_npm.ensures.same)) c.teach.ensures.flags

pub returns-clause-taught : goal.returns-clause-taught
returns-clause-taught g c =
    let old = c.args.self.now in
    said c.settle_npm.result (subst (λ (k : Known). IsTaught old.known.sums old.state.sums k.sums) (sym (known_then c.args.self.now c.teach.new.self c.settle_npm.new.self c.settle_npm.ensures.same)) c.in_ok-teach.ensures.taught)

pub returns-clause-learned : goal.returns-clause-learned
returns-clause-learned g c =
    let old = c.args.self.now in
    subst (λ (k : Known). LearnsAtMost old.known.sums old.state.sums k.sums) (sym (known_then c.args.self.now c.teach.new.self c.settle_npm.new.self c.settle_npm.ensures.same)) c.teach.ensures.learned

pub returns-clause-kept : goal.returns-clause-kept
returns-clause-kept g c =
    let old = c.args.self.now in
    subst (λ (k : Known). KeepsSums old.known.sums k.sums) (sym (known_then c.args.self.now c.teach.new.self c.settle_npm.new.self c.settle_npm.ensures.same)) c.teach.ensures.kept

pub returns-clause-manifests : goal.returns-clause-manifests
returns-clause-manifests g c =
    let old = c.args.self.now in
    said c.settle_npm.result (subst (λ (k : Known). LearnsManifests (known_now old).manifests (finite.get old.state.files) k.manifests) (sym (known_then c.args.self.now c.teach.new.self c.settle_npm.new.self c.settle_npm.ensures.same)) c.in_ok-teach.ensures.manifests)

pub returns-clause-manifests_kept : goal.returns-clause-manifests_kept
returns-clause-manifests_kept g c =
    let old = c.args.self.now in
    subst (λ (k : Known). StillKnows old.known.manifests k.manifests) (sym (known_then c.args.self.now c.teach.new.self c.settle_npm.new.self c.settle_npm.ensures.same)) c.teach.ensures.manifests_kept

pub returns-clause-store : goal.returns-clause-store
returns-clause-store g c =
    let old = c.args.self.now in
    said c.settle_npm.result (subst (λ (k : Known). k.store ≡ filled_store old.known.store old.added) (sym (known_then c.args.self.now c.teach.new.self c.settle_npm.new.self c.settle_npm.ensures.same)) c.in_ok-teach.ensures.store)

pub returns-clause-store_kept : goal.returns-clause-store_kept
returns-clause-store_kept g c =
    let old = c.args.self.now in
    subst (λ (k : Known). KeepsStore old.known.store k.store) (sym (known_then c.args.self.now c.teach.new.self c.settle_npm.new.self c.settle_npm.ensures.same)) c.teach.ensures.store_kept
