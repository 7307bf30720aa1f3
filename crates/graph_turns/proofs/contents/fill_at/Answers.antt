use Rattle.std.proofs.Common.{sym, ◌∙◌}
use Rattle.graph_turns.proofs.Entering.Contents.{filled_none}
use Rattle.graph_turns.proofs.contents.fill_at.Goals as goal

pub returns-in_default : goal.returns-in_default
returns-in_default c = c.remove_slot.ensures.removed ∙ filled_none c.args.graph.now c.args.specifier.now c.args.content (sym c.remove_slot.ensures.before ∙ c.in_default.is)
