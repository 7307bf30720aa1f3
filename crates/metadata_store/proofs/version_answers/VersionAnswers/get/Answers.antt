use Rattle.std.proofs.Common.{◌∙◌}
use Rattle.source_sums.specs.VersionKeys.{nv_total}
use Rattle.metadata_store.proofs.FiniteLemmas.{get_is}
use Rattle.metadata_store.proofs.version_answers.VersionAnswers.get.Goals as goal

pub returns : goal.returns
returns g c = rw (← c.self.view_is) (c.get.ensures.value ∙ get_is nv_total c.self.inside.map c.args.nv.now)
