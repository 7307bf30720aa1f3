use Rattle.std.proofs.Common.{◌∙◌, ◌<◌, sym, subst, arith}
use Rattle.std.proofs.lemmas.List.{drop_all}
use Rattle.graph_turns.proofs.Entering.Wants.{PackagesFrom, no_packages_yet, package_added, package_passed, packages_all, stands_at}
use Rattle.graph_turns.proofs.passes.add_packages.Goals.{in-Some+then-not-is_package_known+in_ok-try_clone+in_ok-add+in_ok-try_clone-2+in_ok-push_back, in-Some+else-not-is_package_known, in_default}
use Rattle.graph_turns.proofs.passes.add_packages.Goals as goal

pub loop-place-init : goal.loop-place-init
loop-place-init c =
    subst (λ asked. PackagesFrom c.args.known.now asked c.args.items.now 0 c.args.wanted.now c.args.wanted.now) (sym c.new-asked.ensures) (no_packages_yet _ c.args.known.now c.args.items.now c.args.wanted.now)

pub loop-place-preserved : goal.loop-place-preserved
loop-place-preserved c =
    elim c.match-get.branch [
      | in-Some+then-not-is_package_known+in_ok-try_clone+in_ok-add+in_ok-try_clone-2+in_ok-push_back w ↦
          rw (w.asked-is, w.wanted-is)
          (package_added c.args.known.now c.loop-place.asked c.args.items.now c.loop-place.place w.in-Some.item.now c.args.wanted.now c.loop-place.wanted (sym w.in-Some.ensures) c.loop-place.invariant _ w.in_ok-try_clone.field-0 w.in_ok-try_clone-2.field-0 w.add.new.self w.push_back.new.self
          (sym w.is_package_known.ensures ∙ w.if-not-is_package_known.true) w.in_ok-try_clone.ensures w.in_ok-try_clone-2.ensures w.in_ok-add.ensures.ok w.in_ok-push_back.ensures.ok)
      | in-Some+else-not-is_package_known w ↦
          rw (w.asked-is, w.wanted-is) (package_passed c.args.known.now c.loop-place.asked c.args.items.now c.loop-place.place w.in-Some.item.now c.args.wanted.now c.loop-place.wanted (sym w.in-Some.ensures) c.loop-place.invariant (sym w.is_package_known.ensures ∙ w.if-not-is_package_known.false))
      | in_default w ↦ absurd (stands_at c.args.items.now c.loop-place.place (subst (λ n. c.loop-place.place < n) c.len-place-end.ensures c.loop-place-test.true) (sym w.in_default.ensures))
    ]

pub returns : goal.returns
returns c =
    packages_all c.args.known.now c.loop-place.asked c.args.items.now c.loop-place.place c.args.wanted.now c.loop-place.wanted (drop_all c.loop-place.place c.args.items.now (omega arith)) c.loop-place.invariant
