-- The values before the place were cut, and those from it on are left.
use Rattle.std.proofs.Common.{◌≡◌, length}
use Rattle.import_records.specs.Cut.{cut, cut_one}
use Rattle.import_records.proofs.EntryLemmas.{changed_from}
use Rattle.import_records.proofs.kind_cut.cut_all.Given as goal

abbrev pub invariant-loop-at : goal.invariant-loop-at
invariant-loop-at l =
    (l.at-end ≡ length l.dependencies.entries)
    × (changed_from (cut_one l.kind l.skip_dynamic_deps) l.at l.dependencies.entries ≡ cut l.kind l.skip_dynamic_deps l.fn.dependencies.entries)
