use Rattle.std.proofs.Common.{◌∙◌, ◌<◌, sym, subst, arith}
use Rattle.std.proofs.lemmas.List.{drop_all}
use Rattle.graph_turns.proofs.Entering.Wants.{VersionsFrom, no_versions_yet, version_added, version_passed, versions_all, stands_at}
use Rattle.graph_turns.proofs.passes.add_versions.Goals.{in-Some+then-not-is_version_known+in_ok-try_clone+in_ok-add+in_ok-try_clone-2+in_ok-push_back, in-Some+else-not-is_version_known, in_default}
use Rattle.graph_turns.proofs.passes.add_versions.Goals as goal

pub loop-place-init : goal.loop-place-init
loop-place-init c =
    subst (λ asked. VersionsFrom c.args.known.now asked c.args.chosen.now 0 c.args.wanted.now c.args.wanted.now) (sym c.new-asked.ensures) (no_versions_yet _ c.args.known.now c.args.chosen.now c.args.wanted.now)

pub loop-place-preserved : goal.loop-place-preserved
loop-place-preserved c =
    elim c.match-get.branch [
      | in-Some+then-not-is_version_known+in_ok-try_clone+in_ok-add+in_ok-try_clone-2+in_ok-push_back w ↦
          rw (w.asked-is, w.wanted-is)
          (version_added c.args.known.now c.loop-place.asked c.args.chosen.now c.loop-place.place w.in-Some.one.now c.args.wanted.now c.loop-place.wanted (sym w.in-Some.ensures) c.loop-place.invariant _ w.in_ok-try_clone.field-0 w.in_ok-try_clone-2.field-0 w.add.new.self w.push_back.new.self
          (sym w.is_version_known.ensures ∙ w.if-not-is_version_known.true) w.in_ok-try_clone.ensures w.in_ok-try_clone-2.ensures w.in_ok-add.ensures.ok w.in_ok-push_back.ensures.ok)
      | in-Some+else-not-is_version_known w ↦
          rw (w.asked-is, w.wanted-is) (version_passed c.args.known.now c.loop-place.asked c.args.chosen.now c.loop-place.place w.in-Some.one.now c.args.wanted.now c.loop-place.wanted (sym w.in-Some.ensures) c.loop-place.invariant (sym w.is_version_known.ensures ∙ w.if-not-is_version_known.false))
      | in_default w ↦ absurd (stands_at c.args.chosen.now c.loop-place.place (subst (λ n. c.loop-place.place < n) c.len-place-end.ensures c.loop-place-test.true) (sym w.in_default.ensures))
    ]

pub returns : goal.returns
returns c =
    versions_all c.args.known.now c.loop-place.asked c.args.chosen.now c.loop-place.place c.args.wanted.now c.loop-place.wanted (drop_all c.loop-place.place c.args.chosen.now (omega arith)) c.loop-place.invariant
