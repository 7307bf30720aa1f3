-- the lines of what was given, and of what is left of the walk, are all lines
use Rattle.std.proofs.Common.{◌≡◌, ◌++◌, true, length}
use Rattle.std.specs.Prelude.{flat_map, string_bytes}
use Rattle.graph_walk.specs.Options.{how}
use Rattle.graph_walk.specs.Order.{rest, walk_order, texts}
use Rattle.graph_printing.specs.WalkLines.{entry_line, walk_how}
use Rattle.graph_printing.proofs.walk_lines.walk_text.Given as goal

abbrev pub invariant-loop-specifier : goal.invariant-loop-specifier
invariant-loop-specifier l =
    string_bytes l.text ++ flat_map entry_line (rest (how (λ _ _. true)) l.walk) ≡ flat_map entry_line (walk_order l.graph (walk_how l.fn.kind) (texts l.graph.roots))

abbrev pub decreases-loop-specifier : goal.decreases-loop-specifier
decreases-loop-specifier l = length (rest (how (λ _ _. true)) l.walk)
