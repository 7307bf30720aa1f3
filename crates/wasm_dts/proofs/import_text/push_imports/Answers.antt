use Rattle.std.proofs.Common.{◌+◌, drop, string_bytes, ap, ◌∙◌, ◌++◌, arith}
use Rattle.wasm_dts.specs.Declarations.{import_statements}
use Rattle.wasm_dts.proofs.Numbering.{one_more_statement, all_stated}
use Rattle.wasm_dts.proofs.import_text.push_imports.Goals as goal

pub loop-origin-preserved : goal.loop-origin-preserved
loop-origin-preserved c =
    let l = c.loop-origin in
    let next = one_more_statement l.count l.origin-index c.args.origins.now c.origin-item.result c.origin-item.result (string_bytes l.out) (string_bytes c.push_statement.new.out) (string_bytes c.args.out.now ++ import_statements 0 c.args.origins.now) c.loop-origin-test.true c.origin-item.is c.in_ok-push_statement.ensures l.invariant.written in
    record {
      written = ap (λ n. string_bytes c.push_statement.new.out ++ import_statements (l.count + n) (drop (l.origin-index + 1) c.args.origins.now)) c.len-names.ensures ∙ next;
      count = omega arith;
    }

pub returns : goal.returns
returns c =
    let l = c.loop-origin in
    all_stated l.count l.origin-index c.args.origins.now (string_bytes l.out) (string_bytes c.args.out.now ++ import_statements 0 c.args.origins.now) c.loop-origin-test.false l.invariant.written

pub push_statement-requires : goal.push_statement-requires
push_statement-requires c = omega (arith, c.len-names.ensures, c.len-names.type_inv)
