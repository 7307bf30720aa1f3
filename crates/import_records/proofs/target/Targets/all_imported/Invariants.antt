-- The texts so far were put.
use Rattle.std.proofs.Common.{◌≡◌, true, [], fold, bytes_eq, drop}
use Rattle.indexmap.specs.IndexMap.{insert_entry}
use Rattle.import_records.specs.Imports.{imported_types}
use Rattle.import_records.specs.Target.{resolving, is_told_resolver}
use Rattle.import_records.proofs.target.Targets.all_imported.Given as goal

abbrev pub invariant-loop-text : goal.invariant-loop-text
invariant-loop-text g l =
    is_told_resolver g.R.Resolver.is_told l.self.resolver ≡ true →
    fold (λ es text. insert_entry bytes_eq es text (imported_types (resolving g.U.JsrUrlProvider.meaning g.R.Resolver.meaning l.self) l.referrer text)) [] l.imports
    ≡ fold (λ es text. insert_entry bytes_eq es text (imported_types (resolving g.U.JsrUrlProvider.meaning g.R.Resolver.meaning l.self) l.referrer text)) l.dependencies (drop l.text-index l.imports)
