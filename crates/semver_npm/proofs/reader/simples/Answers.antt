use Rattle.std.proofs.Common.{List, ap, sym, ◌∙◌, length, None, Some, arith, ◌-◌, ◌+◌}
use Rattle.semver_npm.specs.Reader.{another, ended, further, simples_from}
use Rattle.semver_npm.specs.Views.{as_follow, item_view}
use Rattle.semver_npm.specs.declared.simple.Simple.{Simple}
use Rattle.semver_npm.proofs.Loops.{simples_ended, simples_snoc, simples_step, with_simples}
use Rattle.semver_npm.proofs.reader.simples.Goals as goal

pub returns-in_default : goal.returns-in_default
returns-in_default c = simples_step _ _ _ _ _ None c.loop-test.true c.loop.invariant (ap item_view (sym c.in_default.is) ∙ c.in_ok-simple.ensures)

pub returns-in-End : goal.returns-in-End
returns-in-End c =
    ap (λ (l : List Simple). Some (l, None)) c.in_ok-push.ensures.ok
    ∙ simples_step _ _ _ _ _ (Some (c.in-Some.simple, ended)) c.loop-test.true c.loop.invariant
    (ap (λ f. Some (c.in-Some.simple, as_follow f)) (sym c.in-End.is) ∙ ap item_view (sym c.in-Some.is) ∙ c.in_ok-simple.ensures)

pub returns-in-Range : goal.returns-in-Range
returns-in-Range c =
    ap (λ (l : List Simple). Some (l, Some c.in-Range.after.now)) c.in_ok-push.ensures.ok
    ∙ simples_step _ _ _ _ _ (Some (c.in-Some.simple, another c.in-Range.after.now)) c.loop-test.true c.loop.invariant
    (ap (λ f. Some (c.in-Some.simple, as_follow f)) (sym c.in-Range.is) ∙ ap item_view (sym c.in-Some.is) ∙ c.in_ok-simple.ensures)

pub loop-preserved : goal.loop-preserved
loop-preserved c =
    let rest = simples_from (length c.args.bytes.now - (c.loop.counter + 1)) c.in-Simple.after.now in
    ap (λ (l : List Simple). with_simples l rest) c.in_ok-push.ensures.ok
    ∙ simples_snoc c.loop.simples c.in-Some.simple rest
    ∙ simples_step _ _ _ _ _ (Some (c.in-Some.simple, further c.in-Simple.after.now)) c.loop-test.true c.loop.invariant
    (ap (λ f. Some (c.in-Some.simple, as_follow f)) (sym c.in-Simple.is) ∙ ap item_view (sym c.in-Some.is) ∙ c.in_ok-simple.ensures)

pub returns : goal.returns
returns c = simples_ended _ _ _ _ _ (omega (arith, c.loop-test.false)) c.loop.invariant
