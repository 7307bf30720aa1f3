-- the lines that are written, and those of what is left of the errors, are all lines
use Rattle.std.proofs.Common.{◌≡◌, ◌++◌, true, length}
use Rattle.std.specs.Prelude.{flat_map, string_bytes}
use Rattle.graph_walk.specs.Errors.{rest_errors}
use Rattle.graph_walk.specs.Options.{how}
use Rattle.calls_program.specs.Lines.{error_line, errors_lines}
use Rattle.calls_program.proofs.error_lines.errors_text.Given as goal

abbrev pub invariant-loop-found : goal.invariant-loop-found
invariant-loop-found l =
    string_bytes l.text ++ flat_map error_line (rest_errors (how (λ _ _. true)) l.errors) ≡ errors_lines l.fn.listed l.graph

abbrev pub decreases-loop-found : goal.decreases-loop-found
decreases-loop-found l = length (rest_errors (how (λ _ _. true)) l.errors)
