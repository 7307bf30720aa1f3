use Rattle.std.proofs.Common.{◌≡◌, ℕ, List, IfOk, subst}
use Rattle.source_io.specs.Calls.{lists_within}
use Rattle.source_io.specs.Loaders.{may_fail_in}
use Rattle.tools_program.proofs.stores.loader_of.Goals as goal

pub returns-clause-may_fail : goal.returns-clause-may_fail
returns-clause-may_fail c = subst (λ (numbers : List ℕ). IfOk c.new.result (λ l. (n : ℕ) → may_fail_in l n ≡ lists_within numbers n)) c.into_vec-2.ensures c.new.ensures.may_fail
