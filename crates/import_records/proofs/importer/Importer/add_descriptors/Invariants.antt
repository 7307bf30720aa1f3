-- The records so far and those of what is left are the records of all.
use Rattle.std.proofs.Common.{◌≡◌, ◌++◌, drop}
use Rattle.std.specs.List.{filter_map}
use Rattle.import_records.specs.Importing.{importing}
use Rattle.import_records.specs.Records.{descriptor_record}
use Rattle.import_records.proofs.importer.Importer.add_descriptors.Given as goal

abbrev pub invariant-loop-descriptor : goal.invariant-loop-descriptor
invariant-loop-descriptor g l =
    l.fn.found ++ filter_map (descriptor_record (importing g.U.JsrUrlProvider.meaning g.R.Resolver.meaning l.self)) l.descriptors
    ≡ l.found ++ filter_map (descriptor_record (importing g.U.JsrUrlProvider.meaning g.R.Resolver.meaning l.self)) (drop l.descriptor-index l.descriptors)
