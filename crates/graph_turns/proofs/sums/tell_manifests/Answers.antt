use Rattle.std.proofs.Common.{◌≡◌, ℕ, List, ◌∷◌, Option, Some, Ok, Err, refl, sym, ap, ◌∙◌, subst}
use Rattle.std.specs.Prelude.{T}
use Rattle.std.specs.Option.{option_or}
use Rattle.std.specs.FinMap as finite
use Rattle.std.specs.FinMap.{entries_sorted, find, get-entries, is_sorted}
use Rattle.semver_npm.specs.Orders.{nv_cmp}
use Rattle.source_sums.specs.Manifests.{KnownManifests}
use Rattle.metadata_store.specs.Store.{with_answer}
use Rattle.graph_turns.specs.Machine.Sums.{file_sum}
use Rattle.graph_turns.proofs.Entering.Files.{answer_stays}
use Rattle.graph_turns.proofs.Entering.ToldManifests.{in_order_rest, one_failed, one_read}
use Rattle.graph_turns.proofs.sums.tell_manifests.Goals as goal

pub loop-nv-init : goal.loop-nv-init
loop-nv-init g c =
    let files = c.args.files.now in
    let steps = c.into_iter-nv-iterator.ensures.into_iter_gives ∙ c.iter-nv-items.ensures.rest ∙ c.as_map.ensures in
    record {
      kept = λ k sum e. e;
      taught = λ k. ap (λ es. option_or (finite.get (g.L.Locker.manifests c.args.locker.now) k) (file_sum (find nv_cmp k es))) steps
          ∙ ap (λ r. option_or (finite.get (g.L.Locker.manifests c.args.locker.now) k) (file_sum r)) (sym (get-entries files k));
      in_order = subst (λ es. T (is_sorted nv_cmp es)) (sym steps) (entries_sorted files);
      others = refl;
    }

-- its sum is told
pub loop-nv-preserved-in-Continue-1 : goal.loop-nv-preserved-in-Continue-1
loop-nv-preserved-in-Continue-1 g c =
    let inv = c.loop-nv.invariant in
    let knows = g.L.Locker.manifests c.loop-nv.locker in
    let nv = c.in-Some.nv.now in
    let v = c.in-Ok.version in
    let left = c.next.new.self in
    let new : g.L.Locker.manifests c.tell_manifest.new.locker ≡ with_answer knows nv v.file.checksum = c.in_ok-tell_manifest.ensures.told in
    let steps = c.in-Some.ensures.steps ∙ ap (λ r. (nv, r) ∷ left) c.in-Ok.is in
    record {
      kept = λ k sum e. ap (λ (m : KnownManifests). finite.get m k) new ∙ answer_stays knows nv v.file.checksum k sum (inv.kept k sum e);
      taught = λ k. ap (λ (m : KnownManifests). option_or (finite.get m k) (file_sum (find nv_cmp k left))) new
          ∙ one_read knows nv v left k
          ∙ sym (ap (λ es. option_or (finite.get knows k) (file_sum (find nv_cmp k es))) steps)
          ∙ inv.taught k;
      in_order = in_order_rest (nv, Ok v) left (subst (λ es. T (is_sorted nv_cmp es)) steps inv.in_order);
      others = c.tell_manifest.ensures.others ∙ inv.others;
    }

pub returns-in_err-tell_manifest-clause-kept : goal.returns-in_err-tell_manifest-clause-kept
returns-in_err-tell_manifest-clause-kept g c = λ k sum e. ap (λ (m : KnownManifests). finite.get m k) c.in_err-tell_manifest.ensures.kept ∙ c.loop-nv.invariant.kept k sum e

-- its file wasn't read
pub loop-nv-preserved : goal.loop-nv-preserved
loop-nv-preserved g c =
    let inv = c.loop-nv.invariant in
    let knows = g.L.Locker.manifests c.loop-nv.locker in
    let nv = c.in-Some.nv.now in
    let left = c.next.new.self in
    let steps = c.in-Some.ensures.steps ∙ ap (λ r. (nv, r) ∷ left) c.in_default.is in
    let order : T (is_sorted nv_cmp ((nv, Err c.in_default.field-0) ∷ left)) = subst (λ es. T (is_sorted nv_cmp es)) steps inv.in_order in
    record {
      kept = inv.kept;
      taught = λ k. one_failed knows nv c.in_default.field-0 left k order
          ∙ sym (ap (λ es. option_or (finite.get knows k) (file_sum (find nv_cmp k es))) steps)
          ∙ inv.taught k;
      in_order = in_order_rest (nv, Err c.in_default.field-0) left order;
      others = inv.others;
    }
