use Rattle.std.proofs.Common.{codes, string_bytes}
use Rattle.wasm_dts.proofs.Pushes.{first_part, last_part}
use Rattle.wasm_dts.proofs.export_text.push_export_list.Goals as goal

pub returns : goal.returns
returns c =
    let r = c.push_str-5.result in
    first_part r (string_bytes c.args.out.now) (codes "export { ") _ _ _ c.in_ok-push_str.ensures.bytes
    (first_part r (string_bytes c.push_str.new.self) c.args.local.now _ _ _ c.in_ok-push_str-2.ensures.bytes
    (first_part r (string_bytes c.push_str-2.new.self) (codes " as \"") _ _ _ c.in_ok-push_str-3.ensures.bytes
    (first_part r (string_bytes c.push_str-3.new.self) c.args.name.now _ _ _ c.in_ok-push_str-4.ensures.bytes
    (last_part r (string_bytes c.push_str-4.new.self) (codes "\" };\n") _ c.push_str-5.ensures.bytes))))
