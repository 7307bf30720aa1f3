use Rattle.std.proofs.Common.{ap, ◌∙◌}
use Rattle.std.specs.FinMap.{from_entries}
use Rattle.spec_base.specs.Specifier.{by_text}
use Rattle.spec_base.proofs.ByText.{get_by_text, insert_by_text}
use Rattle.spec_base.proofs.specifier_map.SpecifierMap.insert.Goals as goal

pub returns-clause-ok : goal.returns-clause-ok
returns-clause-ok g c = rw (← c.self.view_is) (ap (λ es. from_entries (by_text es)) c.in_ok-before.ensures.entries ∙ insert_by_text c.self.inside.map.entries c.args.specifier c.args.value)

pub returns-clause-before : goal.returns-clause-before
returns-clause-before g c = rw (← c.self.view_is) (c.in_ok-before.ensures.old ∙ get_by_text c.self.inside.map c.args.specifier)
