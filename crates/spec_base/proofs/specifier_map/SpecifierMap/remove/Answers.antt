use Rattle.std.proofs.Common.{ap, ◌∙◌}
use Rattle.std.specs.FinMap.{from_entries}
use Rattle.spec_base.specs.Specifier.{by_text}
use Rattle.spec_base.proofs.ByText.{get_by_text, remove_by_text}
use Rattle.spec_base.proofs.specifier_map.SpecifierMap.remove.Goals as goal

pub returns-clause-map : goal.returns-clause-map
returns-clause-map g c = rw (← c.self.view_is) (ap (λ es. from_entries (by_text es)) c.remove.ensures.entries ∙ remove_by_text c.self.inside.map.entries c.args.specifier.now c.len.ensures.ordered)

pub returns-clause-before : goal.returns-clause-before
returns-clause-before g c = rw (← c.self.view_is) (c.remove.ensures.value ∙ get_by_text c.self.inside.map c.args.specifier.now)
