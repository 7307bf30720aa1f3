use Rattle.std.proofs.Common.{◌∙◌, ap}
use Rattle.std.specs.Map.{lookup}
use Rattle.std.specs.BTreeMap.{is_at}
use Rattle.spec_base.specs.Shown.{text_cmp}
use Rattle.pkg_records.proofs.KeptLemmas.{lookup_shown}
use Rattle.pkg_records.proofs.version_lists.VersionLists.get.Goals as goal

pub returns : goal.returns
returns c = c.get.ensures.value ∙ lookup_shown c.args.name.now c.self.inside.lists.entries ∙ ap (lookup (is_at (text_cmp c.args.name.now))) c.self.view_is
