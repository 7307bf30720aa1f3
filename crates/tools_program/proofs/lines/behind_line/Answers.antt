use Rattle.std.proofs.Common.{◌+◌, drop, length, sym, ◌∙◌, arith}
use Rattle.std.proofs.lemmas.List.{length-drop, take_all}
use Rattle.tools_program.proofs.LineLemmas.{behind_at, behind_none}
use Rattle.tools_program.proofs.lines.behind_line.Goals as goal

pub returns-in-Some : goal.returns-in-Some
returns-in-Some c =
    let rest = drop (c.in-Some.at + 1) c.args.bytes.now in
    take_all _ rest (omega (arith, length-drop (c.in-Some.at + 1) c.args.bytes.now))
    ∙ sym (behind_at c.args.bytes.now c.in-Some.at c.in-Some.ensures.inside c.in-Some.ensures.broken c.in-Some.ensures.first)

pub returns-in-None : goal.returns-in-None
returns-in-None c = sym (behind_none c.args.bytes.now c.in-None.ensures.none)
