use Rattle.std.proofs.Common.{◌∙◌, sym}
use Rattle.source_sums.specs.VersionKeys.{nv_total}
use Rattle.metadata_store.proofs.FiniteLemmas.{len_is}
use Rattle.metadata_store.proofs.version_answers.VersionAnswers.len.Goals as goal

pub returns-clause-exact : goal.returns-clause-exact
returns-clause-exact g c = rw (← c.self.view_is) (c.len.ensures.len ∙ sym (len_is nv_total c.self.inside.map.entries c.len.ensures.ordered))
