-- What is put in and what is left to put in are all.
use Rattle.std.proofs.Common.{◌≡◌, []}
use Rattle.std.specs.Vec.Iter.{into_iter_items}
use Rattle.spec_base.specs.Shown.{shown}
use Rattle.world_answers.specs.EntryModules.{headers_from}
use Rattle.world_answers.proofs.entry_modules.headers_from.Given as goal

abbrev pub invariant-loop-header : goal.invariant-loop-header
invariant-loop-header l = headers_from [] l.fn.headers ≡ headers_from (shown l.found.entries) (into_iter_items l.header-iterator)
