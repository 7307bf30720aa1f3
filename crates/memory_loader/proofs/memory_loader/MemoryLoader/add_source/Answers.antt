use Rattle.memory_loader.proofs.KeptLemmas.{added_listed}
use Rattle.memory_loader.proofs.memory_loader.MemoryLoader.add_source.Goals as goal

pub returns-clause-latest : goal.returns-clause-latest
returns-clause-latest c = added_listed c.args.specifier.now c.args.source c.args.self.now.answers c.put_source.new.answers c.put_source.result c.put_source.ensures.put
