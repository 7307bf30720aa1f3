use Rattle.source_io.proofs.TypesLemmas.{types_found}
use Rattle.source_io.proofs.types_index.TypesIndex.first_types.Goals as goal

pub returns : goal.returns
returns c = types_found c.args.self.now.entries _ c.args.self.now.places c.args.specifier.now _ _ c.args.self.now.indexed c.as_slice.ensures c.get.ensures c.types_at.ensures
