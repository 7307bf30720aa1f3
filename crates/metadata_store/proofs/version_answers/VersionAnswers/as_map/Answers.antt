use Rattle.std.proofs.Common.{◌∙◌, ap, sym}
use Rattle.std.specs.FinMap as finite
use Rattle.source_sums.specs.VersionKeys.{nv_total}
use Rattle.metadata_store.proofs.FiniteLemmas.{entries_are}
use Rattle.metadata_store.proofs.version_answers.VersionAnswers.as_map.Goals as goal

pub returns : goal.returns
returns g c = sym (entries_are nv_total c.self.inside.map.entries c.len.ensures.ordered) ∙ ap finite.entries c.self.view_is
