use Rattle.std.proofs.Common.{rules, ◌≡◌, ◌∙◌, ◌-◌, ◌<◌, drop, length, sym, subst}
use Rattle.registry_urls.specs.Meaning.{RegistryMeaning}
use Rattle.open_loads.specs.Order.OpenLoads.{OpenLoads}
use Rattle.open_loads.specs.Order.Numbered.{ahead_all, manner_at, one_ahead}
use Rattle.open_loads.proofs.Order.Opening.{ahead_next, ahead_none, one_fewer, place_at, past_places}
use Rattle.open_loads.proofs.open_loads.OpenLoads.put_ahead.Goals as goal

pub loop-alloc-smaller : goal.loop-alloc-smaller
loop-alloc-smaller g c =
    let registry : RegistryMeaning = g.U.JsrUrlProvider.meaning c.args.urls.now in
    let b = c.loop-alloc.self in
    let at = place_at b.state.loads (length b.behind) (search rules) in
    let step : c.place.new.self ≡ one_ahead registry b at.0 = c.in_ok-place.ensures.placed at.0 (manner_at registry b at.0) (c.in_ok-first.ensures at.0 at.1) in
    subst (λ (x : OpenLoads). length x.state.loads - length x.behind < length b.state.loads - length b.behind) (sym step) (one_fewer registry b at.0 at.1)

pub loop-alloc-preserved : goal.loop-alloc-preserved
loop-alloc-preserved g c =
    let registry : RegistryMeaning = g.U.JsrUrlProvider.meaning c.args.urls.now in
    let b = c.loop-alloc.self in
    let at = place_at b.state.loads (length b.behind) (search rules) in
    let step : c.place.new.self ≡ one_ahead registry b at.0 = c.in_ok-place.ensures.placed at.0 (manner_at registry b at.0) (c.in_ok-first.ensures at.0 at.1) in
    record {
      ahead = subst (λ (x : OpenLoads). ahead_all registry (drop (length x.behind) x.state.loads) x ≡ ahead_all registry (drop (length c.args.self.now.behind) c.args.self.now.state.loads) c.args.self.now) (sym step) (sym (ahead_next registry b at.0 at.1) ∙ c.loop-alloc.invariant.ahead);
      known = c.in_ok-place.ensures.known ∙ c.loop-alloc.invariant.known;
    }

pub returns-clause-ahead : goal.returns-clause-ahead
returns-clause-ahead g c =
    let registry : RegistryMeaning = g.U.JsrUrlProvider.meaning c.args.urls.now in
    let b = c.loop-alloc.self in
    sym (ahead_none registry b (past_places b.state.loads (length b.behind) (search rules))) ∙ c.loop-alloc.invariant.ahead
