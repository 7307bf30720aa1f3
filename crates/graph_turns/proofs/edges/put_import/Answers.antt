use Rattle.std.proofs.Common.{◌∙◌, ap}
use Rattle.indexmap.specs.IndexMap.{insert_entry}
use Rattle.spec_base.specs.Specifier.{same_specifier}
use Rattle.graph_turns.proofs.edges.put_import.Goals as goal

pub returns : goal.returns
returns c = c.in_ok-before.ensures.ok ∙ ap (λ s. insert_entry same_specifier c.args.waiting.now s c.args.load) c.in-Ok.ensures.cases
