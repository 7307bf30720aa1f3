use Rattle.std.proofs.Common.{codes, string_bytes}
use Rattle.std.specs.Prelude.{decimal}
use Rattle.wasm_dts.proofs.Pushes.{first_part, last_part}
use Rattle.wasm_dts.proofs.import_text.push_named.Goals as goal

pub returns : goal.returns
returns c =
    let r = c.push_str-4.result in
    first_part r (string_bytes c.args.out.now) (codes "\"") _ _ _ c.in_ok-push_str.ensures.bytes
    (first_part r (string_bytes c.push_str.new.self) c.args.name.now _ _ _ c.in_ok-push_str-2.ensures.bytes
    (first_part r (string_bytes c.push_str-2.new.self) (codes "\" as __deno_wasm_import_") _ _ _ c.in_ok-push_str-3.ensures.bytes
    (first_part r (string_bytes c.push_str-3.new.self) (decimal c.args.count) _ _ _ c.in_ok-write.ensures.bytes
    (last_part r (string_bytes c.write.new.self) (codes "__") _ c.push_str-4.ensures.bytes))))
