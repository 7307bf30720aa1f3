use Rattle.std.proofs.Common.{sym, subst}
use Rattle.std.specs.FinMap as finite
use Rattle.specifier_index.proofs.TableLemmas.{Covers, covered_cut}
use Rattle.specifier_index.proofs.specifier_table.SpecifierTable.remove.Goals as goal

pub invariant_of-self : goal.invariant_of-self
invariant_of-self g c =
    let t = c.self.inside in
    subst (Covers c.remove.new.self.keys) (sym c.remove-2.ensures.map) (covered_cut t.order.keys c.remove.new.self.keys t.values c.args.specifier.now c.remove.ensures.keys c.self.invariant)
