use Rattle.std.proofs.Common.{rules, ◌∙◌, ap, []}
use Rattle.spec_base.specs.Shown.{shown}
use Rattle.graph_walk.specs.Options.{how}
use Rattle.graph_walk.specs.Order.{FrontView, targets_back, followed_targets}
use Rattle.graph_walk.proofs.Offers.{turn_fits, turn_same, turn_end, back_parts, back_end}
use Rattle.graph_walk.proofs.seen_and_waiting.Front.offer_followed.Goals as goal

pub offer_if_followed-requires : goal.offer_if_followed-requires
offer_if_followed-requires g c =
    let o = how g.C.CheckJsResolver.resolves c.args.options.now in
    let l = c.loop-dependency in
    turn_fits c.args.self.now l.self (targets_back o c.args.dependencies.now) (targets_back o (shown l.left)) (followed_targets o ([], c.in-Some.dependency.now)) (targets_back o (shown c.in-Some.others)) l.invariant.same l.invariant.bound
    (back_parts o l.left c.in-Some.others (c.in-Some.field-0-0-0.now, c.in-Some.dependency.now) c.in-Some.ensures.parts) c.requires

pub loop-dependency-preserved : goal.loop-dependency-preserved
loop-dependency-preserved g c =
    let o = how g.C.CheckJsResolver.resolves c.args.options.now in
    let l = c.loop-dependency in
    record {
      same = turn_same c.args.self.now l.self c.offer_if_followed.new.self (targets_back o c.args.dependencies.now) (targets_back o (shown l.left)) (followed_targets o ([], c.in-Some.dependency.now)) (targets_back o (shown c.in-Some.others)) l.invariant.same
          (back_parts o l.left c.in-Some.others (c.in-Some.field-0-0-0.now, c.in-Some.dependency.now) c.in-Some.ensures.parts) c.offer_if_followed.ensures;
      bound = ap (λ (f : FrontView). f.bound) c.offer_if_followed.ensures ∙ l.invariant.bound;
    }

pub returns : goal.returns
returns g c =
    let o = how g.C.CheckJsResolver.resolves c.args.options.now in
    let l = c.loop-dependency in
    turn_end c.args.self.now l.self (targets_back o c.args.dependencies.now) (targets_back o (shown l.left)) l.invariant.same l.invariant.bound
    (back_end o l.left (search rules))
