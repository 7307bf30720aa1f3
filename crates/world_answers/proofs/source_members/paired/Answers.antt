use Rattle.std.proofs.lemmas.Iterator.{YieldsList-from_zip, items_from_collect}
use Rattle.std.proofs.lemmas.Iterator.Adapters.{YieldsList-from_vec}
use Rattle.world_answers.proofs.source_members.paired.Goals as goal

pub returns : goal.returns
returns c =
    items_from_collect c.collect.result c.collect.ensures.ran
    (YieldsList-from_zip (YieldsList-from_vec c.args.keys (cc) (cc)) (YieldsList-from_vec c.args.sources (cc) (cc)))
