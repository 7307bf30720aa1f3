use Rattle.std.proofs.Common.{◌≡◌, ◌≤◌, ℕ, List, Some, ap, sym, subst, ◌∙◌, option_and_then, All, string_bytes, [], ◌∷◌, ◌++◌}
use Rattle.std.proofs.lemmas.List.Elements.{All-from_recursion, recursion_from_All}
use Rattle.json_forms.specs.Whole.{is_whole}
use Rattle.serde_json.specs.Data.{Data, depth}
use Rattle.serde_json.specs.Read.{max_depth}
use Rattle.serde_json.specs.View.{view}
use Rattle.serde_json.specs.Written.{compact_text}
use Rattle.world_file.specs.WorldFile.{whole_input}
use Rattle.world_upgrade.specs.Told.{IsTold, IsEntryAgain}
use Rattle.world_upgrade.specs.Upgraded.{upgraded_text, upgraded_value}
use Rattle.world_upgrade.proofs.Laws.{all_told, is_of_whole, later_fits, same_input, same_text}
use Rattle.world_upgrade.proofs.upgrade.upgraded_value.Goals as goal

pub upgraded_json-requires : goal.upgraded_json-requires
upgraded_json-requires c = All-from_recursion IsTold c.in-Ok.input.world.answers (all_told (view c.args.value.now) c.in-Ok.input c.in-Ok.ensures)

pub line_of-requires-clause-whole : goal.line_of-requires-clause-whole
line_of-requires-clause-whole c =
    let d = view c.args.value.now in
    let fits = later_fits d c.in-Ok.input.world.answers (is_of_whole d c.in-Ok.input c.in-Ok.ensures) c.requires in
    ap is_whole c.in_ok-upgraded.ensures.value ∙ fits.whole

pub line_of-requires-clause-nests : goal.line_of-requires-clause-nests
line_of-requires-clause-nests c =
    let d = view c.args.value.now in
    let fits = later_fits d c.in-Ok.input.world.answers (is_of_whole d c.in-Ok.input c.in-Ok.ensures) c.requires in
    subst (λ (x : Data). depth x ≤ max_depth) (sym c.in_ok-upgraded.ensures.value) fits.nests

pub returns-clause-text : goal.returns-clause-text
returns-clause-text c =
    let d = view c.args.value.now in
    ap (option_and_then (λ i. Some (upgraded_text d i.world.answers))) c.in-Ok.ensures
    ∙ ap Some (sym (c.in_ok-line_of.ensures.text ∙ ap (λ x. compact_text x ++ 10 ∷ []) c.in_ok-upgraded.ensures.value))

pub returns-clause-same : goal.returns-clause-same
returns-clause-same c =
    let d = view c.args.value.now in
    let again = recursion_from_All IsEntryAgain c.in-Ok.input.world.answers c.in_ok-upgraded.ensures.again in
    ap (option_and_then whole_input) (c.in_ok-line_of.ensures.reads ∙ ap Some c.in_ok-upgraded.ensures.value)
    ∙ same_input d c.in-Ok.input c.in-Ok.ensures c.requires again ∙ sym c.in-Ok.ensures

pub returns-clause-settled : goal.returns-clause-settled
returns-clause-settled c =
    let d = view c.args.value.now in
    let again = recursion_from_All IsEntryAgain c.in-Ok.input.world.answers c.in_ok-upgraded.ensures.again in
    ap (option_and_then upgraded_value) (c.in_ok-line_of.ensures.reads ∙ ap Some c.in_ok-upgraded.ensures.value)
    ∙ same_text d c.in-Ok.input c.in-Ok.ensures c.requires again
    ∙ ap Some (sym (c.in_ok-line_of.ensures.text ∙ ap (λ x. compact_text x ++ 10 ∷ []) c.in_ok-upgraded.ensures.value))
