-- The records so far were put.
use Rattle.std.proofs.Common.{◌≡◌, true, [], fold}
use Rattle.std.specs.Vec.Iter.{into_iter_items}
use Rattle.spec_base.specs.Shown.{shown}
use Rattle.import_records.specs.Importing.{importing, is_told_importer}
use Rattle.import_records.specs.Growing.{put}
use Rattle.import_records.proofs.importer.Importer.put_all.Given as goal

abbrev pub invariant-loop-found : goal.invariant-loop-found
invariant-loop-found g l =
    is_told_importer g.R.Resolver.is_told l.self ≡ true →
    fold (put (importing g.U.JsrUrlProvider.meaning g.R.Resolver.meaning l.self)) [] l.fn.records
    ≡ fold (put (importing g.U.JsrUrlProvider.meaning g.R.Resolver.meaning l.self)) (shown l.dependencies.entries) (into_iter_items l.found-iterator)
