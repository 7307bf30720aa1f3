use Rattle.std.proofs.Common.{◌++◌, ◌∷◌, [], ap, ◌∙◌, arith}
use Rattle.wasm_dts.proofs.Origins.{found, put_name}
use Rattle.wasm_dts.proofs.import_text.Origins.with_next.Goals as goal

pub index_mut-requires : goal.index_mut-requires
index_mut-requires c =
    let f = found c.args.self.list.items c.args.import.now 0 c.args.place c.requires in
    omega (arith, f.within, c.args.self.list.ok.0)

pub invariant_of-result : goal.invariant_of-result
invariant_of-result c =
    let name = c.in_ok-push.ensures.ok ∙ ap (λ x. c.index_mut.result.now.names ++ x ∷ []) c.in_ok-try_clone.ensures in
    record { in_step = c.args.self.in_step ∙ (put_name c.args.self.list.items c.args.import.now c.args.place c.index_mut.result.now c.push.new.self c.requires c.index_mut.ensures.value name).1 }

pub returns : goal.returns
returns c =
    let name = c.in_ok-push.ensures.ok ∙ ap (λ x. c.index_mut.result.now.names ++ x ∷ []) c.in_ok-try_clone.ensures in
    (put_name c.args.self.list.items c.args.import.now c.args.place c.index_mut.result.now c.push.new.self c.requires c.index_mut.ensures.value name).0
