-- What was written so far, and then the lines of the names still to come, is the whole text.
use Rattle.std.proofs.Common.{◌≡◌, ℕ, List, ◌++◌, drop}
use Rattle.std.specs.Fmt.{HasWritten, IsPlainFormatter}
use Rattle.graph_errors.specs.JsrErrors.{further_lines}
use Rattle.graph_errors.proofs.jsr_error_texts.write_further.Given as goal

abbrev pub invariant-loop-name : goal.invariant-loop-name
invariant-loop-name g l =
    IsPlainFormatter l.fn.f → (done : List ℕ) × HasWritten g.W.Write.write_str_gives l.fn.f done l.f
    × (done ++ further_lines (drop l.name-index l.names) ≡ further_lines l.names)
