use Rattle.std.proofs.Common.{rules, ◌≡◌, ◌∙◌, ◌-◌, ◌<◌, drop, length, sym, subst}
use Rattle.registry_urls.specs.Meaning.{RegistryMeaning}
use Rattle.open_loads.specs.Order.OpenLoads.{OpenLoads}
use Rattle.open_loads.specs.Order.Numbered.{one_wanted, wanted_all}
use Rattle.open_loads.proofs.Order.Opening.{fewer_wanted, past_places, place_at, wanted_next, wanted_none}
use Rattle.open_loads.proofs.open_loads.OpenLoads.put_wanted.Goals as goal

pub loop-alloc-smaller : goal.loop-alloc-smaller
loop-alloc-smaller g c =
    let registry : RegistryMeaning = g.U.JsrUrlProvider.meaning c.args.urls.now in
    let b = c.loop-alloc.self in
    let at = place_at b.state.wanted (length b.wanted) (search rules) in
    let step : c.place_file.new.self ≡ one_wanted registry b at.0 = c.in_ok-place_file.ensures.placed registry at.0 (c.in_ok-question.ensures at.0 at.1) in
    subst (λ (x : OpenLoads). length x.state.wanted - length x.wanted < length b.state.wanted - length b.wanted) (sym step) (fewer_wanted registry b at.0 at.1)

pub loop-alloc-preserved : goal.loop-alloc-preserved
loop-alloc-preserved g c =
    let registry : RegistryMeaning = g.U.JsrUrlProvider.meaning c.args.urls.now in
    let b = c.loop-alloc.self in
    let at = place_at b.state.wanted (length b.wanted) (search rules) in
    let step : c.place_file.new.self ≡ one_wanted registry b at.0 = c.in_ok-place_file.ensures.placed registry at.0 (c.in_ok-question.ensures at.0 at.1) in
    record {
      wanted = subst (λ (x : OpenLoads). wanted_all registry (drop (length x.wanted) x.state.wanted) x ≡ wanted_all registry (drop (length c.args.self.now.wanted) c.args.self.now.state.wanted) c.args.self.now) (sym step) (sym (wanted_next registry b at.0 at.1) ∙ c.loop-alloc.invariant.wanted);
      known = c.in_ok-place_file.ensures.known ∙ c.loop-alloc.invariant.known;
    }

pub returns-clause-wanted : goal.returns-clause-wanted
returns-clause-wanted g c =
    let registry : RegistryMeaning = g.U.JsrUrlProvider.meaning c.args.urls.now in
    let b = c.loop-alloc.self in
    sym (wanted_none registry b (past_places b.state.wanted (length b.wanted) (search rules))) ∙ c.loop-alloc.invariant.wanted
