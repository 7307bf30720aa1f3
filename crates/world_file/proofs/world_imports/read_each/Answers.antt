use Rattle.std.proofs.Common.{◌∙◌, ◌++◌, option_map, ap, sym, rules}
use Rattle.serde_json.specs.View as serde
use Rattle.json_documents.specs.Documents.{items_left, view}
use Rattle.json_forms.specs.Form.{items_of}
use Rattle.json_forms.proofs.Options.{items_of-push}
use Rattle.world_file.specs.WorldImports.{referrer_imports}
use Rattle.world_file.proofs.world_imports.read_each.Goals as goal

pub loop-item-preserved : goal.loop-item-preserved
loop-item-preserved c =
    let l = c.loop-item in
    let left = serde.items_of (items_left c.next.new.self) in
    l.invariant
    ∙ ap (λ ds. option_map (λ vs. l.imports ++ vs) (items_of referrer_imports (serde.items_of ds))) c.in-Some.ensures.steps
    ∙ items_of-push referrer_imports (view c.in-Some.item) left c.in_ok-read_referrer_imports.field-0 l.imports (search rules)
    ∙ ap (λ read. option_map (λ vs. read ++ vs) (items_of referrer_imports left)) (sym c.in_ok-push.ensures.ok)
