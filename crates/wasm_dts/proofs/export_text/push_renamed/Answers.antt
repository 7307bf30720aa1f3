use Rattle.std.proofs.Common.{string_bytes, ap, ◌∙◌, ◌++◌}
use Rattle.wasm_dts.specs.Declarations.{declaration, local_name, export_list}
use Rattle.wasm_dts.proofs.Pushes.{first_part, same_part}
use Rattle.wasm_dts.proofs.export_text.push_renamed.Goals as goal

pub returns : goal.returns
returns c =
    let r = c.push_export_list.result in
    let spaces = c.args.spaces.now in
    let export = c.args.export.now in
    let name = local_name c.args.number in
    let declared = c.in_ok-push_declaration.ensures ∙ ap (λ local. string_bytes c.args.out.now ++ declaration spaces local export.export_type) (c.as_str.ensures.value ∙ c.in_ok-local.ensures) in
    let named = ap (λ local. export_list local c.as_str-3.result.now) (c.as_str-2.ensures.value ∙ c.in_ok-local.ensures) ∙ ap (export_list name) c.as_str-3.ensures in
    first_part r (string_bytes c.args.out.now) (declaration spaces name export.export_type) _ _ _ declared
    (same_part r (string_bytes c.push_declaration.new.out) _ (export_list name export.name) _ named c.push_export_list.ensures)
