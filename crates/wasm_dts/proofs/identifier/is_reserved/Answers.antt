use Rattle.wasm_dts.specs.Identifier.{is_reserved}
use Rattle.wasm_dts.proofs.identifier.is_reserved.Goals as goal

pub returns : goal.returns
unfolding is_reserved
returns c = c.is_among.ensures
