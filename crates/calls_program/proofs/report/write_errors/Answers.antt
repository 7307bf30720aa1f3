use Rattle.std.proofs.Common.{◌≡◌, ◌==◌, ◌∙◌, true, ap, eq-eqb, length, string_bytes}
use Rattle.calls_program.specs.Lines.{listed_errors}
use Rattle.calls_program.proofs.ErrorLines.{some_found}
use Rattle.calls_program.proofs.report.write_errors.Goals as goal

pub returns-in-Ok-write_all-clause-found : goal.returns-in-Ok-write_all-clause-found
returns-in-Ok-write_all-clause-found g c =
    let text = string_bytes c.in-Ok.text in
    some_found (listed_errors c.args.listed c.args.graph.now) (λ empty.
    let is_empty : (length text == 0) ≡ true = eq-eqb (length text) 0 (ap length c.in-Ok.ensures ∙ empty) in
    cc)
