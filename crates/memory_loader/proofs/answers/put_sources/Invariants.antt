-- The sources that were put and those that are left are all.
use Rattle.std.proofs.Common.{◌≡◌}
use Rattle.std.specs.Vec.Iter.{into_iter_items}
use Rattle.memory_loader.specs.Sources.{with_sources}
use Rattle.memory_loader.proofs.answers.put_sources.Given as goal

abbrev pub invariant-loop-key : goal.invariant-loop-key
invariant-loop-key l = with_sources l.fn.answers l.fn.sources.items ≡ with_sources l.answers (into_iter_items l.key-iterator)
