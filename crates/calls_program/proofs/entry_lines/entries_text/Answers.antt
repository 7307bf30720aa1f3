use Rattle.std.proofs.Common.{◌∙◌, ◌++◌, true, ap}
use Rattle.std.specs.Prelude.{flat_map}
use Rattle.graph_walk.specs.Options.{how}
use Rattle.graph_walk.specs.Order.{rest, walk_order, texts}
use Rattle.graph_printing.specs.WalkLines.{entry_line}
use Rattle.calls_program.specs.Lines.{errors_how}
use Rattle.calls_program.proofs.entry_lines.entries_text.Goals as goal

pub loop-specifier-init : goal.loop-specifier-init
loop-specifier-init c =
    ap (λ t. t ++ flat_map entry_line (rest (how (λ _ _. true)) c.in_ok-walk.walk)) c.new-text.ensures.bytes
    ∙ ap (flat_map entry_line)
    (c.in_ok-walk.ensures.order
    ∙ ap (λ o. walk_order c.args.graph.now o (texts c.as_slice.result.now)) c.options_of-options.ensures
    ∙ ap (λ roots. walk_order c.args.graph.now (errors_how c.args.called.now.how) (texts roots)) c.as_slice.ensures)
