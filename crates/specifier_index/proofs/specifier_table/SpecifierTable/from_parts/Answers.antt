use Rattle.specifier_index.proofs.TableLemmas.{covered_left}
use Rattle.specifier_index.proofs.specifier_table.SpecifierTable.from_parts.Goals as goal

pub invariant_of-result : goal.invariant_of-result
invariant_of-result g c = covered_left c.args.order.keys c.with_values-valued.result.keys c.args.values c.with_values-valued.ensures c.requires
