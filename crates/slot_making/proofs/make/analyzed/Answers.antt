use Rattle.std.specs.Prelude.{option_copied}
use Rattle.import_records.specs.Importing.{importing}
use Rattle.slot_making.specs.Made.{by_info, told_info}
use Rattle.slot_making.proofs.MadeLemmas.{script_made}
use Rattle.slot_making.proofs.make.analyzed.Goals as goal

pub returns-in-Ok-clause-told : goal.returns-in-Ok-clause-told
returns-in-Ok-clause-told g c = λ told.
    let importer = c.args.importer.now in
    let parts = c.args.parts.now in
    script_made _ (g.S.Analyze.ModuleAnalyzer.infos c.args.maker.now.analyzer.now) c.in-Ok.info
    (λ i text. told_info i (g.S.Tree.FileTree.paths c.args.maker.now.tree.now) c.args.given importer.specifier.now text importer.media)
    (by_info (importing g.S.Urls.JsrUrlProvider.meaning g.S.Resolve.Resolver.meaning importer) parts.kind parts.skip_dynamic_deps (option_copied parts.header) parts.mtime c.args.source)
    c.as_str-text.result.now c.args.source.text c.as_str-text.ensures c.in-Ok.ensures (c.script_of.ensures.told told)
