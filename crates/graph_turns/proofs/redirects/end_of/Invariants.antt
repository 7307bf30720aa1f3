-- So many redirects were followed.
use Rattle.graph_turns.proofs.Leading.Ends.{Steps}
use Rattle.graph_turns.proofs.redirects.end_of.Given as goal

abbrev pub invariant-loop : goal.invariant-loop
invariant-loop l = Steps l.fn.graph l.counter l.fn.specifier l.at
