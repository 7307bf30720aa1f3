use Rattle.std.proofs.Common.{sym}
use Rattle.tools_program.proofs.LineLemmas.{line_at, line_none}
use Rattle.tools_program.proofs.lines.first_line.Goals as goal

pub returns-in-Some : goal.returns-in-Some
returns-in-Some c = sym (line_at c.args.bytes.now c.in-Some.at c.in-Some.ensures.inside c.in-Some.ensures.broken c.in-Some.ensures.first)

pub returns-in-None : goal.returns-in-None
returns-in-None c = sym (line_none c.args.bytes.now c.in-None.ensures.none)
