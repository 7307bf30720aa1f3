use Rattle.std.proofs.Common.{ap, ◌∙◌, is_some}
use Rattle.spec_base.proofs.ByText.{get_by_text}
use Rattle.spec_base.proofs.specifier_map.SpecifierMap.contains_key.Goals as goal

pub returns : goal.returns
returns g c = rw (← c.self.view_is) (c.contains_key.ensures ∙ ap is_some (get_by_text c.self.inside.map c.args.specifier.now))
