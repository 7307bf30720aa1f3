-- That a turn which puts no question stays in its run, or finds that the build is to begin once more.
use Rattle.std.proofs.Common.{◌≡◌, List, refl, ap, ◌∙◌}
use Rattle.version_dates.specs.declared.newest_date.NewestDependencyDateOptions.{NewestDependencyDateOptions}
use Rattle.registry_urls.specs.Meaning.{RegistryMeaning}
use Rattle.graph_turns.specs.declared.choosing.Verdict.{Verdict}
use Rattle.graph_turns.specs.declared.next.Next.{Next}
use Rattle.graph_turns.specs.declared.next.Next.TheVariants.{Restart}
use Rattle.graph_turns.specs.declared.passes.Pass.{Pass}
use Rattle.graph_turns.specs.declared.run.Run.TheVariants.{First, Due}
use Rattle.graph_turns.specs.declared.starting.ResolvedStart.{ResolvedStart}
use Rattle.graph_turns.specs.declared.state.State.{State}
use Rattle.graph_turns.specs.declared.waiting.WaitingPackage.{WaitingPackage}
use Rattle.graph_turns.specs.Machine.Choosing.{judged, judged_by}
use Rattle.graph_turns.specs.Machine.Passes.{versions_asked_in}
use Rattle.graph_turns.specs.Machine.Runs.{wanted_again}
use Rattle.graph_turns.specs.Machine.Turns.{gone_on}
use Rattle.graph_turns.proofs.Entering.Judged.{Judged, Judges, how_judged}
use Rattle.graph_turns.proofs.Entering.Judged.Judges.{asks_again, looks, restarts, unmet, gets, unread, unasked}
use Rattle.graph_turns.proofs.Entering.Next.{NextIs}
use Rattle.graph_turns.proofs.Entering.Next.NextIs.{notes as comes_notes, loads as comes_load, wanted as comes_file, restart as comes_restart, item as comes_item, versions as comes_versions, exports as comes_exports, deferred as comes_deferred, waiting as comes_waiting, dynamic as comes_dynamic, content as comes_content, ends as comes_end}
use Rattle.graph_turns.proofs.Entering.Rested.{still_deferred, still_dynamic, still_exports}

-- a turn stays in its run, or finds that the build is to begin once more
pub data RunGoes (s u : State) : Type 0 where
  same : u.run ≡ s.run → RunGoes s u
  falls_due : {start : ResolvedStart} → s.run ≡ First start → u.run ≡ Due start → RunGoes s u

run_judged : (newest : NewestDependencyDateOptions) (s : State) (p : Pass) (first : WaitingPackage) (others : List WaitingPackage) → Judged newest s p first others (judged newest s) → RunGoes s (judged newest s)
run_judged newest s p first others how = by how.verdict how.by how.is
  where
    by : (v : Verdict) → Judges newest s p first others v → judged newest s ≡ judged_by s p first others v → RunGoes s (judged newest s)
    by v (looks file are) is = same (ap (λ (u : State). u.run) is)
    by v (asks_again file over lacks run unknown) is = same (ap (λ (u : State). u.run) is)
    by v (restarts file over lacks run) is = falls_due run (ap (λ (u : State). u.run) is ∙ ap wanted_again run)
    by v (unmet file over lacks so) is = same (ap (λ (u : State). u.run) is)
    by v (gets file over picked) is = same (ap (λ (u : State). u.run) is)
    by v (unread file) is = same (ap (λ (u : State). u.run) is)
    by v (unasked file) is = same (ap (λ (u : State). u.run) is)

pub run_next : (registry : RegistryMeaning) (newest : NewestDependencyDateOptions) (s : State) (n : Next) → NextIs s n → (n ≡ Restart → ⊥) → RunGoes s (gone_on registry newest s n)
run_next registry newest s n (comes_notes e) other = same refl
run_next registry newest s n (comes_load e l) other = same refl
run_next registry newest s n (comes_file e l w) other = same refl
run_next registry newest s n (comes_restart e l w d) other = absurd (other refl)
run_next registry newest s n (comes_item {p} {first} {others} c goes judging items) other = run_judged newest s p first others (how_judged newest s p first others goes items)
run_next registry newest s n (comes_versions {p} c goes judging items) other = same (ap (λ (u : State). u.run) (ap (versions_asked_in s) goes))
run_next registry newest s n (comes_exports c goes entering) other = same (still_exports s).run
run_next registry newest s n (comes_deferred outside e) other = same (still_deferred s).run
run_next registry newest s n (comes_waiting outside d e) other = same refl
run_next registry newest s n (comes_dynamic outside d w e) other = same (still_dynamic s).run
run_next registry newest s n (comes_content i e) other = same refl
run_next registry newest s n (comes_end end) other = same refl
