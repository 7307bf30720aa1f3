use Rattle.std.proofs.Common.{◌∙◌}
use Rattle.spec_base.proofs.CopyLemmas.{same_shown}
use Rattle.spec_base.proofs.sorted_texts.SortedTexts.try_clone.Goals as goal

pub returns : goal.returns
returns g c =
    same_shown _ c.self.inside.map.entries c.in_ok-map.map.entries c.requires c.in_ok-map.ensures.cases ∙ c.self.view_is
