-- So many redirects were followed.
use Rattle.graph_turns.specs.Machine.Redirects.{unknown_at}
use Rattle.graph_turns.proofs.Leading.Ends.{Steps}
use Rattle.graph_turns.proofs.redirects.leads_back.Given as goal

abbrev pub invariant-loop : goal.invariant-loop
invariant-loop l = Steps (unknown_at l.fn.graph l.fn.asked) l.counter l.fn.name l.at
