use Rattle.std.proofs.Common.{sym, ◌∙◌, arith}
use Rattle.std.proofs.lemmas.List.{nil_from_length}
use Rattle.std.proofs.lemmas.Grind.{common_steps}
use Rattle.file_tree.proofs.FormLemmas.{after_here, after_later, after_none}
use Rattle.file_tree.proofs.form.after_part.Goals as goal

pub loop-left-preserved : goal.loop-left-preserved
loop-left-preserved c =
    sym (after_later _ _ _ _ c.in-Some.ensures.cases.0 (sym c.loop-left-test.ensures.value)) ∙ c.loop-left.invariant

pub returns-in-None : goal.returns-in-None
returns-in-None c =
    sym (after_none _ _ (nil_from_length _ c.in-None.ensures.cases) (sym c.loop-left-test.ensures.value)) ∙ c.loop-left.invariant

pub returns : goal.returns
returns c =
    let e = after_here c.args.part.now c.loop-left.left.now (sym c.loop-left-test.ensures.value) in
    grind (arith, common_steps)
