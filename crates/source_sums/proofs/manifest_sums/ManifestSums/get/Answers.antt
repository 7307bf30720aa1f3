use Rattle.std.proofs.Common.{ap, ◌∙◌, Some}
use Rattle.source_sums.specs.VersionKeys.{nv_exact, nv_total}
use Rattle.source_sums.proofs.HashedByOrder.{get_is}
use Rattle.source_sums.proofs.HashedByVersion.{nv_agrees, same_nv}
use Rattle.source_sums.proofs.manifest_sums.ManifestSums.get.Goals as goal

pub returns-in_ok-try_clone-in-Some : goal.returns-in_ok-try_clone-in-Some
returns-in_ok-try_clone-in-Some c = rw (← c.self.view_is) (ap Some c.in_ok-try_clone-in-Some.ensures ∙ c.in-Some.ensures.value ∙ get_is same_nv nv_total nv_exact nv_agrees c.self.inside.map c.args.package_nv.now)

pub returns-in-None : goal.returns-in-None
returns-in-None c = rw (← c.self.view_is) (c.in-None.ensures.value ∙ get_is same_nv nv_total nv_exact nv_agrees c.self.inside.map c.args.package_nv.now)
