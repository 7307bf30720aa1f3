use Rattle.std.proofs.Common.{◌∙◌, Option, sym, ap, subst}
use Rattle.std.proofs.lemmas.Result.{on_ok_weaker}
use Rattle.std.specs.FinMap as finite
use Rattle.metadata_store.specs.declared.store.JsrMetadataStore.{JsrMetadataStore}
use Rattle.graph_turns.specs.Machine.Sums.{IsTaught, KeepsSums, LearnsAtMost}
use Rattle.open_loads.specs.Taught.{KeepsStore, LearnsManifests, StillKnows}
use Rattle.open_loads.specs.Order.OpenLoads.{OpenLoads, known_now}
use Rattle.open_loads.specs.Order.Numbered.{filled_store}
use Rattle.open_loads.proofs.Order.KeptStores.{store_kept}
use Rattle.open_loads.proofs.Order.Telling.{closed, closed_store, said}
use Rattle.open_loads.proofs.open_loads.OpenLoads.teach.Goals as goal

pub returns-in_err-tell_sums-clause-store_kept : goal.returns-in_err-tell_sums-clause-store_kept
returns-in_err-tell_sums-clause-store_kept g c = store_kept c.args.self.now.known.store c.tell_sums.new.self.known.store c.tell_sums.ensures.store

pub returns-clause-same : goal.returns-clause-same
returns-clause-same g c =
    let mid = c.tell_sums.new.self in
    on_ok_weaker c.fill_store.result (closed c.args.self.now mid c.fill_store.new.self (filled_store mid.known.store mid.added) c.tell_sums.ensures.same) c.fill_store.ensures.filled

pub returns-clause-flags : goal.returns-clause-flags
returns-clause-flags g c = ap (λ (x : OpenLoads). x.known.flags) c.fill_store.ensures.same ∙ c.tell_sums.ensures.flags

pub returns-clause-taught : goal.returns-clause-taught
returns-clause-taught g c =
    let old = c.args.self.now in
    said c.fill_store.result (subst (IsTaught old.known.sums old.state.sums) (sym (ap (λ (x : OpenLoads). x.known.sums) c.fill_store.ensures.same)) c.in_ok-tell_sums.ensures.taught)

pub returns-clause-learned : goal.returns-clause-learned
returns-clause-learned g c = subst (LearnsAtMost c.args.self.now.known.sums c.args.self.now.state.sums) (sym (ap (λ (x : OpenLoads). x.known.sums) c.fill_store.ensures.same)) c.tell_sums.ensures.learned

pub returns-clause-kept : goal.returns-clause-kept
returns-clause-kept g c = subst (KeepsSums c.args.self.now.known.sums) (sym (ap (λ (x : OpenLoads). x.known.sums) c.fill_store.ensures.same)) c.tell_sums.ensures.kept

pub returns-clause-manifests : goal.returns-clause-manifests
returns-clause-manifests g c =
    let old = c.args.self.now in
    said c.fill_store.result (subst (LearnsManifests (known_now old).manifests (finite.get old.state.files)) (sym (ap (λ (x : OpenLoads). x.known.manifests) c.fill_store.ensures.same)) c.in_ok-tell_sums.ensures.manifests)

pub returns-clause-manifests_kept : goal.returns-clause-manifests_kept
returns-clause-manifests_kept g c = subst (StillKnows c.args.self.now.known.manifests) (sym (ap (λ (x : OpenLoads). x.known.manifests) c.fill_store.ensures.same)) c.tell_sums.ensures.manifests_kept

pub returns-clause-store : goal.returns-clause-store
returns-clause-store g c = on_ok_weaker c.fill_store.result (closed_store c.args.self.now c.tell_sums.new.self c.fill_store.new.self c.tell_sums.ensures.same c.tell_sums.ensures.store) c.fill_store.ensures.filled

pub returns-clause-store_kept : goal.returns-clause-store_kept
returns-clause-store_kept g c = subst (λ (s : Option JsrMetadataStore). KeepsStore s c.fill_store.new.self.known.store) c.tell_sums.ensures.store c.fill_store.ensures.kept
