-- The records so far and those of what is left are the records of all.
use Rattle.std.proofs.Common.{◌≡◌, ◌++◌, drop}
use Rattle.std.specs.List.{filter_map}
use Rattle.import_records.specs.Importing.{importing}
use Rattle.import_records.specs.Records.{jsdoc_record}
use Rattle.import_records.proofs.importer.Importer.add_jsdoc.Given as goal

abbrev pub invariant-loop-jsdoc : goal.invariant-loop-jsdoc
invariant-loop-jsdoc g l =
    l.fn.found ++ filter_map (jsdoc_record (importing g.U.JsrUrlProvider.meaning g.R.Resolver.meaning l.self)) l.imports
    ≡ l.found ++ filter_map (jsdoc_record (importing g.U.JsrUrlProvider.meaning g.R.Resolver.meaning l.self)) (drop l.jsdoc-index l.imports)
