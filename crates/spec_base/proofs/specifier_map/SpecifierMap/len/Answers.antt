use Rattle.std.proofs.Common.{◌∙◌, sym}
use Rattle.spec_base.proofs.ByText.{len_by_text}
use Rattle.spec_base.proofs.specifier_map.SpecifierMap.len.Goals as goal

pub returns : goal.returns
returns g c = rw (← c.self.view_is) (c.len.ensures.len ∙ sym (len_by_text c.self.inside.map.entries c.len.ensures.ordered))
