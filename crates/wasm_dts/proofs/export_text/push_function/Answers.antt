use Rattle.std.proofs.Common.{codes, string_bytes, ap, ◌∙◌, ◌++◌}
use Rattle.wasm_dts.specs.Declarations.{numbered, listed_argument, returned}
use Rattle.wasm_dts.proofs.Pushes.{first_part, last_part}
use Rattle.wasm_dts.proofs.export_text.push_function.Goals as goal

pub returns : goal.returns
returns c =
    let r = c.push_str-5.result in
    let signature = c.args.signature.now in
    let arguments = c.in_ok-push_arguments.ensures ∙ ap (λ types. string_bytes c.push_str-3.new.self ++ numbered listed_argument 0 types) c.as_slice.ensures in
    let results = c.in_ok-push_returned.ensures ∙ ap (λ types. string_bytes c.push_str-4.new.self ++ returned types) c.as_slice-2.ensures in
    first_part r (string_bytes c.args.out.now) (codes "declare function ") _ _ _ c.in_ok-push_str.ensures.bytes
    (first_part r (string_bytes c.push_str.new.self) c.args.name.now _ _ _ c.in_ok-push_str-2.ensures.bytes
    (first_part r (string_bytes c.push_str-2.new.self) (codes "(") _ _ _ c.in_ok-push_str-3.ensures.bytes
    (first_part r (string_bytes c.push_str-3.new.self) (numbered listed_argument 0 signature.parameters) _ _ _ arguments
    (first_part r (string_bytes c.push_arguments.new.out) (codes "): ") _ _ _ c.in_ok-push_str-4.ensures.bytes
    (first_part r (string_bytes c.push_str-4.new.self) (returned signature.results) _ _ _ results
    (last_part r (string_bytes c.push_returned.new.out) (codes ";\n") _ c.push_str-5.ensures.bytes))))))
