use Rattle.std.proofs.Common.{◌≡◌, [], sym, ◌∙◌, ap, arith, subst, ℕ}
use Rattle.std.specs.declared.option.Option.TheVariants.{None}
use Rattle.spec_base.specs.Specifier.{specifier_text}
use Rattle.graph_walk.specs.Options.{how}
use Rattle.graph_walk.specs.Order.{FrontView, left}
use Rattle.graph_walk.specs.Room.{IsReady}
use Rattle.graph_walk.specs.EntryValue.{entry_value}
use Rattle.graph_walk.proofs.Steps.{early_fits, gives, skips, nearer, now_sound, left_none}
use Rattle.graph_walk.proofs.walk.next_entry.Goals as goal

pub visit-requires : goal.visit-requires
visit-requires g c =
    let o = how g.C.CheckJsResolver.resolves c.args.options.now in
    let r = c.loop-specifier.invariant.ready in
    early_fits c.args.graph.now o r.0 c.loop-specifier.front c.take.new.self (specifier_text c.in-Some.specifier.now) r.1 c.in-Some.ensures.some c.in-Some.ensures.seen c.in-Some.ensures.bound

pub returns-in-Some-visit-clause-steps : goal.returns-in-Some-visit-clause-steps
returns-in-Some-visit-clause-steps g c =
    let o = how g.C.CheckJsResolver.resolves c.args.options.now in
    let r = c.loop-specifier.invariant.ready in
    let n = gives c.args.graph.now o r.0 c.loop-specifier.front c.take.new.self (specifier_text c.in-Some.specifier.now) r.1 c.in-Some.ensures.some c.in-Some.ensures.seen c.in-Some.ensures.bound
    c.visit.new.front c.visit.ensures.front (entry_value c.in-Some-visit.entry) (sym c.in-Some-visit.ensures.entry) in
    (c.loop-specifier.invariant.same ∙ n.0, n.1)

pub returns-in-Some-visit-clause-nearer : goal.returns-in-Some-visit-clause-nearer
returns-in-Some-visit-clause-nearer g c =
    let o = how g.C.CheckJsResolver.resolves c.args.options.now in
    let r = c.loop-specifier.invariant.ready in
    let n = nearer c.args.graph.now o r.0 c.loop-specifier.front c.take.new.self (specifier_text c.in-Some.specifier.now) r.1 c.in-Some.ensures.some c.in-Some.ensures.seen c.in-Some.ensures.bound
    c.visit.new.front c.visit.ensures.front in
    omega (arith, n, c.loop-specifier.invariant.nearer)

pub loop-specifier-smaller : goal.loop-specifier-smaller
loop-specifier-smaller g c =
    let o = how g.C.CheckJsResolver.resolves c.args.options.now in
    let r = c.loop-specifier.invariant.ready in
    let n = nearer c.args.graph.now o r.0 c.loop-specifier.front c.take.new.self (specifier_text c.in-Some.specifier.now) r.1 c.in-Some.ensures.some c.in-Some.ensures.seen c.in-Some.ensures.bound
    c.visit.new.front c.visit.ensures.front in
    omega (arith, n)

pub loop-specifier-preserved : goal.loop-specifier-preserved
loop-specifier-preserved g c =
    let o = how g.C.CheckJsResolver.resolves c.args.options.now in
    let r = c.loop-specifier.invariant.ready in
    record {
      ready = (r.0, now_sound c.args.graph.now o r.0 c.loop-specifier.front c.take.new.self (specifier_text c.in-Some.specifier.now) r.1 c.in-Some.ensures.some c.in-Some.ensures.seen c.in-Some.ensures.bound c.visit.new.front c.visit.ensures.front, λ x a. absurd a);
      same = c.loop-specifier.invariant.same ∙ skips c.args.graph.now o r.0 c.loop-specifier.front c.take.new.self (specifier_text c.in-Some.specifier.now) r.1 c.in-Some.ensures.some c.in-Some.ensures.seen c.in-Some.ensures.bound
          c.visit.new.front c.visit.ensures.front (sym c.in-None.ensures.entry)
          ∙ ap (λ (b : ℕ). left b c.args.graph.now o c.visit.new.front.front) (sym (ap (λ (v : FrontView). v.bound) c.visit.ensures.front ∙ c.in-Some.ensures.bound));
      nearer = let n = nearer c.args.graph.now o r.0 c.loop-specifier.front c.take.new.self (specifier_text c.in-Some.specifier.now) r.1 c.in-Some.ensures.some c.in-Some.ensures.seen c.in-Some.ensures.bound
          c.visit.new.front c.visit.ensures.front in
          omega (arith, n, c.loop-specifier.invariant.nearer);
    }

pub returns-clause-steps : goal.returns-clause-steps
returns-clause-steps g c =
    let o = how g.C.CheckJsResolver.resolves c.args.options.now in
    let r = c.loop-specifier.invariant.ready in
    let none = left_none c.loop-specifier.front.bound c.args.graph.now o c.loop-specifier.front.front c.in_default.ensures.none in (
      c.loop-specifier.invariant.same ∙ none,
      subst (λ (v : FrontView). left v.bound c.args.graph.now o v.front ≡ []) (sym c.in_default.ensures.same) none,
      subst (λ (v : FrontView). IsReady c.args.graph.now o None v) (sym c.in_default.ensures.same) r,
    )
