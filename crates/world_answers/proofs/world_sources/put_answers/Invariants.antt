-- What is done and what is left are all.
use Rattle.std.proofs.Common.{◌≡◌, ◌++◌}
use Rattle.std.specs.Vec.Iter.{into_iter_items}
use Rattle.world_answers.specs.WorldSources.{answers_under}
use Rattle.world_answers.proofs.world_sources.put_answers.Given as goal

abbrev pub invariant-loop-key : goal.invariant-loop-key
invariant-loop-key l = l.fn.answers ++ answers_under l.fn.setting l.fn.sources ≡ l.answers ++ answers_under l.fn.setting (into_iter_items l.key-iterator)
