-- The records so far and those of what is left are the records of all.
use Rattle.std.proofs.Common.{◌≡◌, ◌++◌, drop}
use Rattle.std.specs.List.{filter_map}
use Rattle.import_records.specs.Importing.{importing}
use Rattle.import_records.specs.Records.{reference_record}
use Rattle.import_records.proofs.importer.Importer.add_references.Given as goal

abbrev pub invariant-loop-reference : goal.invariant-loop-reference
invariant-loop-reference g l =
    l.fn.found ++ filter_map (reference_record (importing g.U.JsrUrlProvider.meaning g.R.Resolver.meaning l.self)) l.references
    ≡ l.found ++ filter_map (reference_record (importing g.U.JsrUrlProvider.meaning g.R.Resolver.meaning l.self)) (drop l.reference-index l.references)
