use Rattle.std.proofs.Common.{rules}
use Rattle.source_io.proofs.ChainLemmas.{index_start, index_step}
use Rattle.source_io.proofs.resolution_index.chains_of.Goals as goal

pub loop-entry-init : goal.loop-entry-init
loop-entry-init c = rw (c.new-heads.ensures, c.new-links.ensures.items) (index_start c.args.entries.now)

pub loop-entry-preserved : goal.loop-entry-preserved
loop-entry-preserved c =
    index_step c.args.entries.now c.loop-entry.left.now c.in-Some.others.now c.in-Some.entry.now c.loop-entry.heads c.insert.new.self c.loop-entry.links.items c.push_front.new.self.items
    c.in_ok-referrer.referrer _ c.copied.result c.loop-entry.invariant (search rules) (search rules) (search rules) (search rules) c.in_ok-insert.ensures.ok c.in_ok-push_front.ensures.items
