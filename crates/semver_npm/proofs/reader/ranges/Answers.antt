use Rattle.std.proofs.Common.{List, [], ◌∷◌, ◌++◌, ap, sym, ◌∙◌, length, None, Some, arith, ◌-◌, ◌+◌}
use Rattle.semver_npm.specs.Reader.{ranges_from}
use Rattle.semver_npm.specs.Views.{simples_view, text_view}
use Rattle.semver_npm.specs.declared.simple.Simple.{Simple}
use Rattle.semver_npm.proofs.Loops.{ranges_ended, ranges_snoc, ranges_step, with_ranges}
use Rattle.semver_npm.proofs.reader.ranges.Goals as goal

pub returns-in_default : goal.returns-in_default
returns-in_default c = ranges_step _ _ _ _ _ None c.loop-test.true c.loop.invariant (ap simples_view (sym c.in_default.is) ∙ c.in_ok-simples.ensures)

pub returns-in-None : goal.returns-in-None
returns-in-None c =
    ap Some (c.in_ok-push.ensures.ok ∙ ap (λ (r : List Simple). c.loop.ranges ++ r ∷ []) c.from.ensures)
    ∙ ranges_step _ _ _ _ _ (Some (c.in-Some.simples, None)) c.loop-test.true c.loop.invariant
    (ap (λ t. Some (c.in-Some.simples, text_view t)) (sym c.in-None.is) ∙ ap simples_view (sym c.in-Some.is) ∙ c.in_ok-simples.ensures)

pub loop-preserved : goal.loop-preserved
loop-preserved c =
    let rest = ranges_from (length c.args.text.now - (c.loop.counter + 1)) c.in-Some-after.after.now in
    ap (λ (l : List (List Simple)). with_ranges l rest) (c.in_ok-push.ensures.ok ∙ ap (λ (r : List Simple). c.loop.ranges ++ r ∷ []) c.from.ensures)
    ∙ ranges_snoc c.loop.ranges c.in-Some.simples rest
    ∙ ranges_step _ _ _ _ _ (Some (c.in-Some.simples, Some c.in-Some-after.after.now)) c.loop-test.true c.loop.invariant
    (ap (λ t. Some (c.in-Some.simples, text_view t)) (sym c.in-Some-after.is) ∙ ap simples_view (sym c.in-Some.is) ∙ c.in_ok-simples.ensures)

pub returns : goal.returns
returns c = ranges_ended _ _ _ _ _ (omega (arith, c.loop-test.false)) c.loop.invariant
