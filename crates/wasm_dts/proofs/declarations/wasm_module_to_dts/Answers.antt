use Rattle.std.proofs.Common.{subst}
use Rattle.spec_base.specs.Refusal.{Answers}
use Rattle.wasm_dts.specs.Declarations.{text_view}
use Rattle.wasm_dts.proofs.ModuleAgreement.{declared_found, declared_only}
use Rattle.wasm_dts.proofs.declarations.wasm_module_to_dts.Goals as goal

pub returns-clause-found : goal.returns-clause-found
returns-clause-found c = declared_found c.args.bytes.now c.module_declarations.result c.module_declarations.ensures

pub returns-clause-only : goal.returns-clause-only
returns-clause-only c = λ text h. subst (λ f. Answers (text_view c.module_declarations.result) f) (declared_only c.args.bytes.now text h) c.module_declarations.ensures
