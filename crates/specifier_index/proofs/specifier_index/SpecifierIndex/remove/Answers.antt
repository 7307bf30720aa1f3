use Rattle.std.proofs.Common.{◌∙◌}
use Rattle.specifier_index.proofs.HashLemmas.{get_hashed, remove_hashed}
use Rattle.specifier_index.proofs.specifier_index.SpecifierIndex.remove.Goals as goal

pub returns-clause-map : goal.returns-clause-map
returns-clause-map g c =
    let u = c.swap_remove.ensures.updates in
    rw (← c.self.view_is) (remove_hashed c.self.inside.map.entries _ c.args.specifier.now u.1 u.3)

pub returns-clause-before : goal.returns-clause-before
returns-clause-before g c = rw (← c.self.view_is) (c.swap_remove.ensures.value ∙ get_hashed c.self.inside.map.entries c.args.specifier.now)
