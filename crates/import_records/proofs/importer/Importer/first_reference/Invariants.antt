-- No reference so far is one to types.
use Rattle.std.proofs.Common.{◌≡◌, drop}
use Rattle.import_records.specs.Importing.{importing}
use Rattle.import_records.specs.TypesDependency.{first_reference}
use Rattle.import_records.proofs.importer.Importer.first_reference.Given as goal

abbrev pub invariant-loop-reference : goal.invariant-loop-reference
invariant-loop-reference g l =
    first_reference (importing g.U.JsrUrlProvider.meaning g.R.Resolver.meaning l.self) l.references
    ≡ first_reference (importing g.U.JsrUrlProvider.meaning g.R.Resolver.meaning l.self) (drop l.reference-index l.references)
