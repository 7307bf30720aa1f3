use Rattle.std.proofs.lemmas.Result.{err_from_is_err_and}
use Rattle.std.proofs.Common.{refl, ◌≡◌, ◌+◌, ◌≤◌, ◌<◌, ◌∙◌, ℕ, List, [], ◌∷◌, None, sym, ap, arith, subst, length, IfErr}
use Rattle.source_io.specs.declared.types.Question.{Question}
use Rattle.source_io.specs.Tickets.{IsPut, IsUnused}
use Rattle.spec_base.specs.Counters.{risen}
use Rattle.open_loads.specs.declared.fault.BuildFault.TheVariants as fault
use Rattle.open_loads.specs.Order.OpenLoads.{OpenLoads}
use Rattle.graph_builder.specs.Calls.Steps.{SpendsBudget}
use Rattle.open_loads.specs.Order.Ordered.{IsTaken}
use Rattle.graph_builder.specs.Order.InFlight.{Matches}
use Rattle.graph_builder.proofs.Calls.Driven.{err_so, later_more, later_question, spent_before}
use Rattle.graph_builder.proofs.Calls.Keeps.{build_keeps, loader_keeps}
use Rattle.graph_builder.proofs.Calls.Going.{hands_next, spent_here, taken_one, taken_none}
use Rattle.graph_builder.proofs.Order.Matching.{next_unused, matches_asked, one_more_open}
use Rattle.graph_builder.specs.Calls.Makers.{directions_in}
use Rattle.open_loads.specs.Order.Means.{untold}
use Rattle.graph_builder.proofs.running.ask_all.Goals as goal

put_more : (n m before now next : ℕ) → IsPut n before now → next ≡ risen 1 now → m ≡ n + 1 → IsPut m before next
put_more n m before now next p e one = grind arith

put_same : (n m before now : ℕ) → IsPut n before now → m ≡ n → IsPut m before now
put_same n m before now p e = subst (λ (k : ℕ). IsPut k before now) (sym e) p

-- a count that rises stays within a bound that rises with it
below_more : (from_now from_start now start next n m : ℕ) → from_now + start ≤ from_start + now → next ≡ risen 1 from_now → m ≡ now + 1 → next + start ≤ from_start + m
below_more from_now from_start now start next n m le e one = grind arith

nothing_queued : (queue : List Question) → (0 < length queue → ⊥) → queue ≡ []
nothing_queued [] none = refl
nothing_queued (q ∷ qs) none = absurd (none (omega arith))

pub returns-in_err-ticket-clause-within : goal.returns-in_err-ticket-clause-within
returns-in_err-ticket-clause-within g c =
    let inv = c.loop-ticket.invariant in
    omega (arith, inv.below, inv.going.in_order.numbered.in_budget, (inv.later None (untold (g.S.Urls.JsrUrlProvider.meaning c.args.build.now.options.jsr_url_provider.now) c.args.build.now.options.jsr_version_resolver.now.newest_dependency_date_options)).budget)

pub returns-in_err-ticket-clause-counted_over : goal.returns-in_err-ticket-clause-counted_over
returns-in_err-ticket-clause-counted_over g c =
    let b = c.loop-ticket.build in
    let inv = c.loop-ticket.invariant in
    let directions = (directions_in g.S.Urls.JsrUrlProvider.meaning g.S.Resolve.Resolver.is_told g.S.Resolve.Resolver.meaning b) in
    let p = err_from_is_err_and c.from_residual.result c.from_residual.ensures.1 in
    let budget : IfErr c.from_residual.result (λ f. f ≡ fault.Budget → SpendsBudget directions b c.take_question.new.self) = subst (λ r. IfErr r (λ f. f ≡ fault.Budget → SpendsBudget directions b c.take_question.new.self)) (sym p.1) (λ is. c.in_err-ticket.ensures.budget (sym p.2 ∙ is)) in
    err_so c.from_residual.result _ _ budget (λ f spent is before p. put_same b.turns.taken _ before _ (inv.counted before p) (sym (inv.later None (untold (g.S.Urls.JsrUrlProvider.meaning c.args.build.now.options.jsr_url_provider.now) c.args.build.now.options.jsr_version_resolver.now.newest_dependency_date_options)).budget ∙ sym (spent is).all_taken))

pub returns-in_err-ticket-clause-over : goal.returns-in_err-ticket-clause-over
returns-in_err-ticket-clause-over g c =
    let b = c.loop-ticket.build in
    let inv = c.loop-ticket.invariant in
    let directions = (directions_in g.S.Urls.JsrUrlProvider.meaning g.S.Resolve.Resolver.is_told g.S.Resolve.Resolver.meaning b) in
    let p = err_from_is_err_and c.from_residual.result c.from_residual.ensures.1 in
    let budget : IfErr c.from_residual.result (λ f. f ≡ fault.Budget → SpendsBudget directions b c.take_question.new.self) = subst (λ r. IfErr r (λ f. f ≡ fault.Budget → SpendsBudget directions b c.take_question.new.self)) (sym p.1) (λ is. c.in_err-ticket.ensures.budget (sym p.2 ∙ is)) in
    err_so c.from_residual.result _ _ budget (λ f spent is. let here = spent_here directions b c.take_question.new.self (inv.later None (untold (g.S.Urls.JsrUrlProvider.meaning c.args.build.now.options.jsr_url_provider.now) c.args.build.now.options.jsr_version_resolver.now.newest_dependency_date_options)).begun (spent is) in spent_before c.args.build.now b inv.later inv.going.in_order here.0 here.1)

pub ask-requires : goal.ask-requires
ask-requires g c =
    let b = c.loop-ticket.build in
    let next = hands_next (directions_in g.S.Urls.JsrUrlProvider.meaning g.S.Resolve.Resolver.is_told g.S.Resolve.Resolver.meaning b) b c.take_question.new.self _ (c.loop-ticket.invariant.later None (untold (g.S.Urls.JsrUrlProvider.meaning c.args.build.now.options.jsr_url_provider.now) c.args.build.now.options.jsr_version_resolver.now.newest_dependency_date_options)).begun c.in_ok-ticket.ensures.next in
    let taken : IsTaken b.turns c.take_question.new.self.turns c.in-Some.ticket c.in-Some.question = rw c.in-Some.is at next.some in
    subst (λ t. IsUnused t (g.L.LoaderCore.open_tickets c.loop-ticket.loader)) (sym taken.is_next) (next_unused _ b.turns c.loop-ticket.invariant.matches)

pub loop-ticket-smaller : goal.loop-ticket-smaller
loop-ticket-smaller g c =
    let b = c.loop-ticket.build in
    let new = c.take_question.new.self in
    let next = hands_next (directions_in g.S.Urls.JsrUrlProvider.meaning g.S.Resolve.Resolver.is_told g.S.Resolve.Resolver.meaning b) b c.take_question.new.self _ (c.loop-ticket.invariant.later None (untold (g.S.Urls.JsrUrlProvider.meaning c.args.build.now.options.jsr_url_provider.now) c.args.build.now.options.jsr_version_resolver.now.newest_dependency_date_options)).begun c.in_ok-ticket.ensures.next in
    let taken : IsTaken b.turns c.take_question.new.self.turns c.in-Some.ticket c.in-Some.question = rw c.in-Some.is at next.some in
    let one : new.turns.taken ≡ b.turns.taken + 1 = ap (λ (x : OpenLoads). x.taken) taken.one_more in
    let most : new.turns.max_loads ≡ b.turns.max_loads = ap (λ (x : OpenLoads). x.max_loads) taken.one_more in
    let below = taken.in_budget in
    omega (arith, one, most, below)

pub loop-ticket-preserved : goal.loop-ticket-preserved
loop-ticket-preserved g c =
    let b = c.loop-ticket.build in
    let new = c.take_question.new.self in
    let inv = c.loop-ticket.invariant in
    let e = c.in_ok-ticket.ensures in
    let asked = c.in_ok-ask.ensures in
    let next = hands_next (directions_in g.S.Urls.JsrUrlProvider.meaning g.S.Resolve.Resolver.is_told g.S.Resolve.Resolver.meaning b) b c.take_question.new.self _ (c.loop-ticket.invariant.later None (untold (g.S.Urls.JsrUrlProvider.meaning c.args.build.now.options.jsr_url_provider.now) c.args.build.now.options.jsr_version_resolver.now.newest_dependency_date_options)).begun c.in_ok-ticket.ensures.next in
    let taken : IsTaken b.turns c.take_question.new.self.turns c.in-Some.ticket c.in-Some.question = rw c.in-Some.is at next.some in
    let one : new.turns.taken ≡ b.turns.taken + 1 = ap (λ (x : OpenLoads). x.taken) taken.one_more in
    record {
      going = e.going;
      later = λ told means. later_more told means c.args.build.now b new (inv.later told means) (later_question told means b new inv.going.in_order (inv.later told means).begun next.same (taken_one b.turns new.turns c.in-Some.ticket c.in-Some.question taken));
      matches = rw asked.opened (matches_asked (g.L.LoaderCore.open_tickets c.loop-ticket.loader) b.turns new.turns c.in-Some.ticket c.in-Some.question inv.going.in_order inv.matches taken);
      keeps = build_keeps c.args.build.now b new inv.keeps e.keeps;
      finished = λ unfinished. e.finished (inv.finished unfinished);
      below = below_more _ _ b.turns.taken c.args.build.now.turns.taken _ 0 _ inv.below asked.counted one;
      counted = λ before p. put_more b.turns.taken _ before _ _ (inv.counted before p) asked.counted one;
      opened = λ n h. let more = ap length asked.opened ∙ one_more_open _ _ in let old = inv.opened n h in omega arith;
      loader = loader_keeps g.L.LoaderCore.world g.L.LoaderCore.may_fail g.L.LoaderCore.caches g.L.LoaderCore.faults c.args.loader.now c.loop-ticket.loader c.ask.new.self inv.loader (record { same_world = c.ask.ensures.world; same_may_fail = c.ask.ensures.may_fail; same_caches = c.ask.ensures.caches; later = c.ask.ensures.faults });
    }

pub returns-in_err-ask-clause-within : goal.returns-in_err-ask-clause-within
returns-in_err-ask-clause-within g c =
    let inv = c.loop-ticket.invariant in
    let same = c.in_err-ask.ensures.uncounted in
    omega (arith, inv.below, inv.going.in_order.numbered.in_budget, (inv.later None (untold (g.S.Urls.JsrUrlProvider.meaning c.args.build.now.options.jsr_url_provider.now) c.args.build.now.options.jsr_version_resolver.now.newest_dependency_date_options)).budget, same)

pub returns-clause-asked : goal.returns-clause-asked
returns-clause-asked g c =
    let b = c.loop-ticket.build in
    let new = c.take_question.new.self in
    let inv = c.loop-ticket.invariant in
    let e = c.in_ok-ticket.ensures in
    let next = hands_next (directions_in g.S.Urls.JsrUrlProvider.meaning g.S.Resolve.Resolver.is_told g.S.Resolve.Resolver.meaning b) b c.take_question.new.self _ (c.loop-ticket.invariant.later None (untold (g.S.Urls.JsrUrlProvider.meaning c.args.build.now.options.jsr_url_provider.now) c.args.build.now.options.jsr_version_resolver.now.newest_dependency_date_options)).begun c.in_ok-ticket.ensures.next in
    let none = rw c.in_default.is at next.none in
    record {
      going = e.going;
      later = λ told means. later_more told means c.args.build.now b new (inv.later told means) (later_question told means b new inv.going.in_order (inv.later told means).begun next.same (taken_none b.turns new.turns (ap (λ x. x.turns) none)));
      done = rw c.in_default.is at e.done;
    }

pub returns-clause-matches : goal.returns-clause-matches
returns-clause-matches g c =
    let b = c.loop-ticket.build in
    let inv = c.loop-ticket.invariant in
    let next = hands_next (directions_in g.S.Urls.JsrUrlProvider.meaning g.S.Resolve.Resolver.is_told g.S.Resolve.Resolver.meaning b) b c.take_question.new.self _ (c.loop-ticket.invariant.later None (untold (g.S.Urls.JsrUrlProvider.meaning c.args.build.now.options.jsr_url_provider.now) c.args.build.now.options.jsr_version_resolver.now.newest_dependency_date_options)).begun c.in_ok-ticket.ensures.next in
    let none = rw c.in_default.is at next.none in
    subst (Matches (g.L.LoaderCore.open_tickets c.loop-ticket.loader)) (ap (λ x. x.turns) (sym none)) inv.matches

pub returns-clause-within : goal.returns-clause-within
returns-clause-within g c =
    let inv = c.loop-ticket.invariant in
    omega (arith, inv.below, inv.going.in_order.numbered.in_budget, (inv.later None (untold (g.S.Urls.JsrUrlProvider.meaning c.args.build.now.options.jsr_url_provider.now) c.args.build.now.options.jsr_version_resolver.now.newest_dependency_date_options)).budget)

pub returns-clause-counted : goal.returns-clause-counted
returns-clause-counted g c = λ before p.
    let b = c.loop-ticket.build in
    let next = hands_next (directions_in g.S.Urls.JsrUrlProvider.meaning g.S.Resolve.Resolver.is_told g.S.Resolve.Resolver.meaning b) b c.take_question.new.self _ (c.loop-ticket.invariant.later None (untold (g.S.Urls.JsrUrlProvider.meaning c.args.build.now.options.jsr_url_provider.now) c.args.build.now.options.jsr_version_resolver.now.newest_dependency_date_options)).begun c.in_ok-ticket.ensures.next in
    let none = rw c.in_default.is at next.none in
    put_same b.turns.taken _ before _ (c.loop-ticket.invariant.counted before p) (ap (λ x. x.turns.taken) none)

pub returns-clause-opened : goal.returns-clause-opened
returns-clause-opened g c = λ n h.
    let b = c.loop-ticket.build in
    let next = hands_next (directions_in g.S.Urls.JsrUrlProvider.meaning g.S.Resolve.Resolver.is_told g.S.Resolve.Resolver.meaning b) b c.take_question.new.self _ (c.loop-ticket.invariant.later None (untold (g.S.Urls.JsrUrlProvider.meaning c.args.build.now.options.jsr_url_provider.now) c.args.build.now.options.jsr_version_resolver.now.newest_dependency_date_options)).begun c.in_ok-ticket.ensures.next in
    let none = rw c.in_default.is at next.none in
    c.loop-ticket.invariant.opened n h ∙ ap (λ x. x.turns.taken) (sym none)

pub returns-clause-none_queued : goal.returns-clause-none_queued
returns-clause-none_queued g c =
    let out = rw c.in_default.is at c.in_ok-ticket.ensures.next.none in
    nothing_queued c.take_question.new.self.turns.queue out.1
