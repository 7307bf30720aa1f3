use Rattle.std.proofs.Common.{◌∙◌, ap}
use Rattle.std.specs.List.{list_any}
use Rattle.std.specs.BTreeMap.{is_at}
use Rattle.spec_base.specs.Shown.{text_cmp}
use Rattle.file_tree.proofs.TextSets.{by_order}
use Rattle.file_tree.proofs.text_set.TextSet.has.Goals as goal

pub returns : goal.returns
returns c =
    c.contains.ensures ∙ ap (list_any (is_at (text_cmp c.args.text.now))) c.self.view_is
    ∙ by_order c.args.text.now c.args.self.now
