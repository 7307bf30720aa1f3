use Rattle.std.proofs.Common.{◌∙◌}
use Rattle.spec_base.proofs.ByText.{get_by_text}
use Rattle.spec_base.proofs.specifier_map.SpecifierMap.get.Goals as goal

pub returns : goal.returns
returns g c = rw (← c.self.view_is) (c.get.ensures.value ∙ get_by_text c.self.inside.map c.args.specifier.now)
