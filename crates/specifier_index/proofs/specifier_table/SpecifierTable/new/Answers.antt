use Rattle.specifier_index.proofs.TableLemmas.{none_covered}
use Rattle.specifier_index.proofs.specifier_table.SpecifierTable.new.Goals as goal

pub invariant_of-result : goal.invariant_of-result
invariant_of-result g c = none_covered c.new.result.keys c.new-2.result c.new-2.ensures
