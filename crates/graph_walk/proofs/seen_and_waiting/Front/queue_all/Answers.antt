use Rattle.std.proofs.Common.{◌∙◌, ap}
use Rattle.spec_base.specs.Specifier.{specifier_text}
use Rattle.graph_walk.specs.Order.{FrontView, texts}
use Rattle.graph_walk.proofs.Offers.{queue_fits, queue_same, queue_end, no_items}
use Rattle.graph_walk.proofs.seen_and_waiting.Front.queue_all.Goals as goal

pub queue-requires : goal.queue-requires
queue-requires c = queue_fits c.args.self.now c.loop-first.self (texts c.args.roots.now) (texts c.loop-first.left.now) (specifier_text c.in-Some.first.now) (texts c.in-Some.others.now) c.loop-first.invariant.same c.loop-first.invariant.bound (ap texts c.in-Some.ensures.cases.0) c.requires

pub loop-first-preserved : goal.loop-first-preserved
loop-first-preserved c = record {
  same = queue_same c.args.self.now c.loop-first.self c.queue.new.self (texts c.args.roots.now) (texts c.loop-first.left.now) (specifier_text c.in-Some.first.now) (texts c.in-Some.others.now) c.loop-first.invariant.same (ap texts c.in-Some.ensures.cases.0) c.queue.ensures;
  bound = ap (λ (f : FrontView). f.bound) c.queue.ensures ∙ c.loop-first.invariant.bound;
}

pub returns : goal.returns
returns c = queue_end c.args.self.now c.loop-first.self (texts c.args.roots.now) (texts c.loop-first.left.now) c.loop-first.invariant.same c.loop-first.invariant.bound (ap texts (no_items c.loop-first.left.now c.in_default.ensures.cases))
