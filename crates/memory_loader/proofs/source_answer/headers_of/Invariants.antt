-- The headers that were put and those that are left are all.
use Rattle.std.proofs.Common.{◌≡◌, []}
use Rattle.std.specs.Vec.Iter.{into_iter_items}
use Rattle.memory_loader.specs.Headers.{with_headers}
use Rattle.memory_loader.proofs.source_answer.headers_of.Given as goal

abbrev pub invariant-loop-header : goal.invariant-loop-header
invariant-loop-header l = with_headers [] l.fn.given.items ≡ with_headers l.headers (into_iter_items l.header-iterator)
