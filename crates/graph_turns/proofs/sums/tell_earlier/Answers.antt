use Rattle.std.proofs.Common.{◌≡◌, ℕ, List, ◌∷◌, Option, Some, refl, sym, ap, ◌∙◌}
use Rattle.std.specs.Option.{option_or}
use Rattle.std.specs.FinMap as finite
use Rattle.std.specs.FinMap.{find, get-entries}
use Rattle.semver_npm.specs.Orders.{nv_cmp}
use Rattle.source_sums.specs.Manifests.{KnownManifests}
use Rattle.source_sums.specs.VersionKeys.{nv_exact, nv_total}
use Rattle.metadata_store.specs.Store.{with_answer}
use Rattle.graph_turns.proofs.Entering.Files.{answer_stays}
use Rattle.graph_turns.proofs.Entering.Joined.{first_told, or_none}
use Rattle.graph_turns.proofs.sums.tell_earlier.Goals as goal

pub loop-nv-init : goal.loop-nv-init
loop-nv-init g c =
    let steps = c.into_iter-nv-iterator.ensures.into_iter_gives ∙ c.iter-nv-items.ensures.rest ∙ c.as_map.ensures in
    record {
      kept = λ k sum e. e;
      taught = λ k. ap (option_or (finite.get (g.L.Locker.manifests c.args.locker.now) k)) (ap (find nv_cmp k) steps ∙ sym (get-entries c.args.manifests.now k));
      others = refl;
    }

pub loop-nv-preserved : goal.loop-nv-preserved
loop-nv-preserved g c =
    let inv = c.loop-nv.invariant in
    let knows = g.L.Locker.manifests c.loop-nv.locker in
    let nv = c.in-Some.nv.now in
    let sum = c.in-Some.sum.now in
    let left = c.next.new.self in
    let new : g.L.Locker.manifests c.tell_manifest.new.locker ≡ with_answer knows nv sum = c.in_ok-tell_manifest.ensures.told in
    record {
      kept = λ k x e. ap (λ (m : KnownManifests). finite.get m k) new ∙ answer_stays knows nv sum k x (inv.kept k x e);
      taught = λ k. ap (λ (m : KnownManifests). option_or (finite.get m k) (find nv_cmp k left)) new
          ∙ first_told nv_total nv_exact knows nv sum left k
          ∙ sym (ap (λ es. option_or (finite.get knows k) (find nv_cmp k es)) c.in-Some.ensures.steps)
          ∙ inv.taught k;
      others = c.tell_manifest.ensures.others ∙ inv.others;
    }

pub returns-in_err-tell_manifest-clause-kept : goal.returns-in_err-tell_manifest-clause-kept
returns-in_err-tell_manifest-clause-kept g c = λ k sum e. ap (λ (m : KnownManifests). finite.get m k) c.in_err-tell_manifest.ensures.kept ∙ c.loop-nv.invariant.kept k sum e
