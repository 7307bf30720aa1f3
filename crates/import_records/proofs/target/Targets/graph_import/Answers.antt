use Rattle.std.proofs.Common.{◌∙◌, ap}
use Rattle.import_records.specs.Imports.{imported_types}
use Rattle.import_records.specs.Target.{resolving}
use Rattle.import_records.proofs.ImportLemmas.{all_inserted, import_of}
use Rattle.import_records.proofs.target.Targets.graph_import.Goals as goal

pub returns : goal.returns
returns g c = λ told.
    ap import_of (c.in_ok-dependencies.ensures told ∙ all_inserted (imported_types (resolving g.U.JsrUrlProvider.meaning g.R.Resolver.meaning c.args.self.now) c.args.referrer.now) c.args.imports.now)
