use Rattle.std.proofs.Common.{sym, ◌∙◌}
use Rattle.graph_turns.proofs.Leading.Back.{asked_last, other_onward}
use Rattle.graph_turns.proofs.redirects.onward_but.Goals as goal

pub returns-then-eq : goal.returns-then-eq
returns-then-eq c = sym (asked_last c.args.graph.now c.args.asked.now c.args.at.now (sym c.if-eq.ensures))

pub returns : goal.returns
returns c = c.onward.ensures ∙ sym (other_onward c.args.graph.now c.args.asked.now c.args.at.now (sym c.if-eq.ensures))
