use Rattle.std.proofs.lemmas.Iterator.{YieldsList-from_zip, items_from_collect}
use Rattle.std.proofs.lemmas.Iterator.Adapters.{YieldsList-from_vec}
use Rattle.npm_settling.proofs.settling.paired.Goals as goal

pub returns : goal.returns
returns c =
    items_from_collect c.collect.result c.collect.ensures.ran
    (YieldsList-from_zip (YieldsList-from_vec c.args.reqs.items (cc) (cc)) (YieldsList-from_vec c.args.results (cc) (cc)))
