use Rattle.std.proofs.Common.{◌∙◌, rules}
use Rattle.pkg_records.proofs.CopyLemmas.{same_lists}
use Rattle.pkg_records.proofs.version_lists.VersionLists.try_clone.Goals as goal

pub returns : goal.returns
returns c =
    same_lists _ c.self.inside.lists.entries c.in_ok-lists.lists.entries (search rules) c.in_ok-lists.ensures.cases ∙ c.self.view_is
