use Rattle.std.proofs.Common.{◌≡◌, Bool, None, IfOk, subst}
use Rattle.import_records.specs.Cut.{kept}
use Rattle.import_records.specs.Dependencies.{dependencies_of}
use Rattle.import_records.specs.Importing.{Importing}
use Rattle.media_types.specs.declared.media.MediaType.TheVariants.{Wasm}
use Rattle.slot_making.specs.Makers.{importing_by}
use Rattle.slot_making.proofs.wasm.dependencies_of.Goals as goal

pub returns : goal.returns
returns g c = λ told.
    let m = c.args.maker.now in
    let a : Importing = importing_by g.S.Urls.JsrUrlProvider.meaning g.S.Resolve.Resolver.meaning m c.args.specifier.now Wasm in
    subst (λ (b : Bool). IfOk c.kept_dependencies.result (λ found. found ≡ kept m.kind m.skip_dynamic_deps None (dependencies_of (record a { with_types = b }) c.args.info.now)))
    c.include_types.ensures (c.kept_dependencies.ensures told)
