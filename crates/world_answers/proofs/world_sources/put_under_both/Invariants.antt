-- What is done and what is left are all.
use Rattle.std.proofs.Common.{◌≡◌, ◌++◌}
use Rattle.std.specs.Vec.Iter.{into_iter_items}
use Rattle.world_answers.specs.WorldSources.{answers_under_both}
use Rattle.world_answers.proofs.world_sources.put_under_both.Given as goal

abbrev pub invariant-loop-entry : goal.invariant-loop-entry
invariant-loop-entry l = l.fn.answers ++ answers_under_both l.fn.sources ≡ l.answers ++ answers_under_both (into_iter_items l.entry-iterator)
