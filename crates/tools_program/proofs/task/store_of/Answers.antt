use Rattle.std.proofs.Common.{arith, rules}
use Rattle.graph_store.specs.Stores.{entries_in}
use Rattle.tools_program.proofs.StoreLemmas.{leaves_none, store_read, store_unread}
use Rattle.tools_program.proofs.task.store_of.Goals as goal

pub returns-in-Ok : goal.returns-in-Ok
returns-in-Ok c = store_read c.args.bytes.now (entries_in c.in-Ok.store) c.in-Ok.ensures.found

pub returns-in-Err-Is : goal.returns-in-Err-Is
returns-in-Err-Is c = store_unread c.args.bytes.now (λ i. omega (arith, c.type_inv.bytes i)) (λ es is. leaves_none c.in-Err-Is.field-0 _ es (search rules) (c.in-Err-Is.ensures.only es is))
