use Rattle.std.proofs.Common.{sym, ap, ◌∙◌}
use Rattle.std.specs.FinMap as finite
use Rattle.spec_base.proofs.ByText.{entries_by_text}
use Rattle.spec_base.proofs.specifier_map.SpecifierMap.as_map.Goals as goal

pub returns : goal.returns
returns g c = sym (entries_by_text c.self.inside.map.entries c.len.ensures.ordered) ∙ ap finite.entries c.self.view_is
