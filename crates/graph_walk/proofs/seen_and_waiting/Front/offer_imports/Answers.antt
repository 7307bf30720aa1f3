use Rattle.std.proofs.Common.{rules, ◌∙◌, ap}
use Rattle.graph_walk.specs.Options.{how}
use Rattle.graph_walk.specs.Order.{FrontView, import_targets, imported}
use Rattle.graph_walk.proofs.Offers.{turn_fits, turn_same, turn_end, referrer_parts, referrer_end}
use Rattle.graph_walk.proofs.seen_and_waiting.Front.offer_imports.Goals as goal

pub offer_import-requires : goal.offer_import-requires
offer_import-requires g c =
    let o = how g.C.CheckJsResolver.resolves c.args.options.now in
    let l = c.loop-referrer in
    turn_fits c.args.self.now l.self (import_targets o (imported c.args.imports.now)) (import_targets o (imported l._referrer-iterator)) (import_targets o c.in-Some.import.now.dependencies) (import_targets o (imported c.next.new.self)) l.invariant.same l.invariant.bound
    (referrer_parts o l._referrer-iterator c.next.new.self (c.in-Some._referrer.now, c.in-Some.import.now) (search rules)) c.requires

pub loop-referrer-preserved : goal.loop-referrer-preserved
loop-referrer-preserved g c =
    let o = how g.C.CheckJsResolver.resolves c.args.options.now in
    let l = c.loop-referrer in
    record {
      same = turn_same c.args.self.now l.self c.offer_import.new.self (import_targets o (imported c.args.imports.now)) (import_targets o (imported l._referrer-iterator)) (import_targets o c.in-Some.import.now.dependencies) (import_targets o (imported c.next.new.self)) l.invariant.same
          (referrer_parts o l._referrer-iterator c.next.new.self (c.in-Some._referrer.now, c.in-Some.import.now) (search rules)) c.offer_import.ensures;
      bound = ap (λ (f : FrontView). f.bound) c.offer_import.ensures ∙ l.invariant.bound;
    }

pub returns : goal.returns
returns g c =
    let o = how g.C.CheckJsResolver.resolves c.args.options.now in
    let l = c.loop-referrer in
    turn_end c.args.self.now l.self (import_targets o (imported c.args.imports.now)) (import_targets o (imported l._referrer-iterator)) l.invariant.same l.invariant.bound
    (referrer_end o l._referrer-iterator (search rules))
