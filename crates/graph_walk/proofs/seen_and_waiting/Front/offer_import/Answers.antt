use Rattle.std.proofs.Common.{rules, ◌∙◌, ap, []}
use Rattle.spec_base.specs.Shown.{shown}
use Rattle.graph_walk.specs.Options.{how}
use Rattle.graph_walk.specs.Order.{FrontView, import_targets, targets_of}
use Rattle.graph_walk.proofs.Offers.{turn_fits, turn_same, turn_end, import_parts, import_end}
use Rattle.graph_walk.proofs.seen_and_waiting.Front.offer_import.Goals as goal

pub offer_targets-requires : goal.offer_targets-requires
offer_targets-requires g c =
    let o = how g.C.CheckJsResolver.resolves c.args.options.now in
    let l = c.loop-text in
    turn_fits c.args.self.now l.self (import_targets o c.args.dependencies.now) (import_targets o (shown l._text-iterator)) (targets_of o ([], c.in-Some.dependency.now)) (import_targets o (shown c.next.new.self)) l.invariant.same l.invariant.bound
    (import_parts o l._text-iterator c.next.new.self (c.in-Some._text.now, c.in-Some.dependency.now) (search rules)) c.requires

pub loop-text-preserved : goal.loop-text-preserved
loop-text-preserved g c =
    let o = how g.C.CheckJsResolver.resolves c.args.options.now in
    let l = c.loop-text in
    record {
      same = turn_same c.args.self.now l.self c.offer_targets.new.self (import_targets o c.args.dependencies.now) (import_targets o (shown l._text-iterator)) (targets_of o ([], c.in-Some.dependency.now)) (import_targets o (shown c.next.new.self)) l.invariant.same
          (import_parts o l._text-iterator c.next.new.self (c.in-Some._text.now, c.in-Some.dependency.now) (search rules)) c.offer_targets.ensures;
      bound = ap (λ (f : FrontView). f.bound) c.offer_targets.ensures ∙ l.invariant.bound;
    }

pub returns : goal.returns
returns g c =
    let o = how g.C.CheckJsResolver.resolves c.args.options.now in
    let l = c.loop-text in
    turn_end c.args.self.now l.self (import_targets o c.args.dependencies.now) (import_targets o (shown l._text-iterator)) l.invariant.same l.invariant.bound
    (import_end o l._text-iterator (search rules))
