use Rattle.memory_loader.proofs.KeptLemmas.{last_listed}
use Rattle.memory_loader.proofs.memory_loader.MemoryLoader.new.Goals as goal

pub returns-clause-latest : goal.returns-clause-latest
returns-clause-latest c = λ p s. last_listed p s c.args.sources.items c.new-answers.result c.put_sources.new.answers c.new-answers.ensures c.in_ok-put_sources.ensures
