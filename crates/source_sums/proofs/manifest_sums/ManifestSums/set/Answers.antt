use Rattle.std.proofs.Common.{ap, ◌∙◌}
use Rattle.std.specs.FinMap as finite
use Rattle.source_sums.specs.Manifests.{manifests_in}
use Rattle.source_sums.specs.VersionKeys.{nv_exact, nv_total}
use Rattle.source_sums.proofs.HashedByOrder.{insert_is}
use Rattle.source_sums.proofs.HashedByVersion.{nv_agrees, same_nv}
use Rattle.source_sums.proofs.manifest_sums.ManifestSums.set.Goals as goal

pub returns-clause-ok : goal.returns-clause-ok
returns-clause-ok c =
    let put = insert_is same_nv nv_total nv_exact nv_agrees c.in_ok-key.key c.args.checksum c.self.inside.map.entries c.insert.new.self.entries c.in_ok-insert.ensures.updates.0 in
    rw (← c.self.view_is) (put ∙ ap (λ k. finite.insert (manifests_in c.self.inside.map) k c.args.checksum) c.in_ok-key.ensures)
