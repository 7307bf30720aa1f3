use Rattle.std.proofs.lemmas.Result.{err_from_is_err_and}
use Rattle.std.proofs.Common.{refl, ◌≡◌, ◌+◌, ◌≤◌, ◌∙◌, ℕ, List, [], ◌∷◌, sym, ap, arith, subst, length, IfErr}
use Rattle.source_io.specs.Tickets.{IsPut}
use Rattle.spec_base.specs.Counters.{risen}
use Rattle.open_loads.specs.declared.fault.BuildFault.TheVariants as fault
use Rattle.graph_builder.specs.Calls.Makers.{directions_in, means_in}
use Rattle.graph_core.specs.declared.graph.ModuleGraph.{ModuleGraph}
use Rattle.turn_laws.specs.Budget.Covers.{enough}
use Rattle.graph_builder.specs.Calls.Builds.{BuildsOn}
use Rattle.graph_builder.specs.Calls.Steps.{SpendsBudget}
use Rattle.open_loads.specs.Order.Means.{Directions, IsMeant, Means}
use Rattle.graph_builder.proofs.Calls.Driven.{err_so}
use Rattle.graph_builder.proofs.Calls.Keeps.{build_keeps, build_kept, loader_keeps, loader_kept, same_means}
use Rattle.graph_builder.proofs.Order.Matching.{one_more_open}
use Rattle.graph_store.specs.Stores.{entries_in}
use Rattle.store_turns.proofs.Going.{going_asked, going_more, going_none}
use Rattle.store_turns.proofs.Handed.{handed, rested}
use Rattle.store_turns.proofs.Reaching.{reached_asked, reached_more, reached_none, same_directions}
use Rattle.store_turns.proofs.driven.ask_all.Goals as goal

put_more : (n m before now next : ℕ) → IsPut n before now → next ≡ risen 1 now → m ≡ n + 1 → IsPut m before next
put_more n m before now next p e one = grind arith

put_same : (n m before now : ℕ) → IsPut n before now → m ≡ n → IsPut m before now
put_same n m before now p e = subst (λ (k : ℕ). IsPut k before now) (sym e) p

-- a count that rises stays within a bound that rises with it
below_more : (asked_now from asked_old taken next m : ℕ) → asked_now + from ≤ asked_old + taken → next ≡ risen 1 asked_now → m ≡ taken + 1 → next + from ≤ asked_old + m
below_more asked_now from asked_old taken next m le e one = grind arith

pub loop-ticket-init : goal.loop-ticket-init
loop-ticket-init g c =
    let counted = c.requires.counted in
    record {
      going = c.requires.going;
      matches = c.requires.matches;
      counted = counted;
      most = c.requires.budget;
      opened = λ n h. h ∙ sym counted;
      asked = λ before p. put_same c.args.from _ before _ p counted;
      goes = going_none _ _ _ _;
      reached = reached_none _ _ _ _ _;
      builds = λ graph given on. on;
      below = omega (arith, counted);
      keeps = build_kept c.args.build.now;
      loader = loader_kept g.L.LoaderCore.world g.L.LoaderCore.may_fail g.L.LoaderCore.caches g.L.LoaderCore.faults c.args.recorder.now.inner;
    }

pub ask-requires : goal.ask-requires
ask-requires g c =
    let b = c.loop-ticket.build in
    let inv = c.loop-ticket.invariant in
    (handed (directions_in g.S.Urls.JsrUrlProvider.meaning g.S.Resolve.Resolver.is_told g.S.Resolve.Resolver.meaning b) b c.take_question.new.self _ c.in-Some.ticket c.in-Some.question c.loop-ticket.recorder.unanswered.items inv.going inv.matches c.in_ok-ticket.ensures.next c.in-Some.is).unused

pub overflow_add-put : goal.overflow_add-put
overflow_add-put g c =
    let b = c.loop-ticket.build in
    let inv = c.loop-ticket.invariant in
    let out = handed (directions_in g.S.Urls.JsrUrlProvider.meaning g.S.Resolve.Resolver.is_told g.S.Resolve.Resolver.meaning b) b c.take_question.new.self _ c.in-Some.ticket c.in-Some.question c.loop-ticket.recorder.unanswered.items inv.going inv.matches c.in_ok-ticket.ensures.next c.in-Some.is in
    let below = out.below in
    let counted = inv.counted in
    let most = inv.most in
    omega arith

pub loop-ticket-smaller : goal.loop-ticket-smaller
loop-ticket-smaller g c =
    let b = c.loop-ticket.build in
    let inv = c.loop-ticket.invariant in
    let out = handed (directions_in g.S.Urls.JsrUrlProvider.meaning g.S.Resolve.Resolver.is_told g.S.Resolve.Resolver.meaning b) b c.take_question.new.self _ c.in-Some.ticket c.in-Some.question c.loop-ticket.recorder.unanswered.items inv.going inv.matches c.in_ok-ticket.ensures.next c.in-Some.is in
    let one = out.one in
    let most = out.most in
    let below = out.below in
    omega (arith, one, most, below)

pub loop-ticket-preserved : goal.loop-ticket-preserved
loop-ticket-preserved g c =
    let b = c.loop-ticket.build in
    let new = c.take_question.new.self in
    let inv = c.loop-ticket.invariant in
    let e = c.in_ok-ticket.ensures in
    let asked = c.in_ok-ask.ensures in
    let world = g.L.LoaderCore.world c.args.recorder.now.inner in
    let means = means_in g.S.Analyze.ModuleAnalyzer.infos g.S.Tree.FileTree.paths g.S.Urls.JsrUrlProvider.meaning g.S.Resolve.Resolver.is_told g.S.Resolve.Resolver.meaning c.args.build.now in
    let same = same_means g.S.Analyze.ModuleAnalyzer.infos g.S.Tree.FileTree.paths g.S.Urls.JsrUrlProvider.meaning g.S.Resolve.Resolver.is_told g.S.Resolve.Resolver.meaning c.args.build.now b inv.keeps in
    let out = handed (directions_in g.S.Urls.JsrUrlProvider.meaning g.S.Resolve.Resolver.is_told g.S.Resolve.Resolver.meaning b) b new _ c.in-Some.ticket c.in-Some.question c.loop-ticket.recorder.unanswered.items inv.going inv.matches e.next c.in-Some.is in
    let step = going_asked world means (entries_in c.loop-ticket.recorder.store) (entries_in c.ask.new.self.store) b new c.ask.ensures.stored (λ told graph given meant goes. e.goes_by told graph given (subst (λ (m : Means). IsMeant m told graph.kind) (sym same) meant) goes) in
    let one = out.one in
    let counted = inv.counted in
    let by = same_directions g.S.Urls.JsrUrlProvider.meaning g.S.Resolve.Resolver.is_told g.S.Resolve.Resolver.meaning c.args.build.now b inv.keeps in
    record {
      going = e.going;
      matches = rw asked.opened out.matches;
      counted = omega (arith, one, counted);
      most = out.most ∙ inv.most;
      opened = λ n h. let more = ap length asked.opened ∙ one_more_open _ _ in let old = inv.opened n h in omega arith;
      asked = λ before p. put_more b.turns.taken _ before _ _ (inv.asked before p) asked.counted one;
      goes = going_more world means (entries_in c.args.recorder.now.store) (entries_in c.loop-ticket.recorder.store) (entries_in c.ask.new.self.store) c.args.build.now b new inv.goes step;
      reached = reached_more world means _ _ _ _ _ _ c.args.build.now b inv.goes inv.reached
          (reached_asked world means c.loop-ticket.recorder.unanswered.items c.ask.new.self.unanswered.items (entries_in c.loop-ticket.recorder.store) (entries_in c.ask.new.self.store) b _ c.in-Some.ticket c.in-Some.question c.in-Some.is asked.opened c.ask.ensures.stored
          (λ told graph given meant goes. e.reached told graph given (subst (λ (m : Means). IsMeant m told graph.kind) (sym same) meant) goes));
      builds = λ graph given on. subst (λ (d : Directions). BuildsOn d graph given new) by (e.builds_on graph given (subst (λ (d : Directions). BuildsOn d graph given b) (sym by) (inv.builds graph given on)));
      below = below_more _ _ _ b.turns.taken _ _ inv.below asked.counted one;
      keeps = build_keeps c.args.build.now b new inv.keeps e.keeps;
      loader = loader_keeps g.L.LoaderCore.world g.L.LoaderCore.may_fail g.L.LoaderCore.caches g.L.LoaderCore.faults c.args.recorder.now.inner c.loop-ticket.recorder.inner c.ask.new.self.inner inv.loader (record { same_world = c.ask.ensures.world; same_may_fail = c.ask.ensures.may_fail; same_caches = c.ask.ensures.caches; later = c.ask.ensures.faults });
    }

pub returns-in_err-ticket-clause-over : goal.returns-in_err-ticket-clause-over
returns-in_err-ticket-clause-over g c =
    let b = c.loop-ticket.build in
    let inv = c.loop-ticket.invariant in
    let directions = (directions_in g.S.Urls.JsrUrlProvider.meaning g.S.Resolve.Resolver.is_told g.S.Resolve.Resolver.meaning b) in
    let p = err_from_is_err_and c.from_residual.result c.from_residual.ensures.1 in
    let budget : IfErr c.from_residual.result (λ f. f ≡ fault.Budget → SpendsBudget directions b c.take_question.new.self) = subst (λ r. IfErr r (λ f. f ≡ fault.Budget → SpendsBudget directions b c.take_question.new.self)) (sym p.1) (λ is. c.in_err-ticket.ensures.budget (sym p.2 ∙ is)) in
    err_so c.from_residual.result _ _ budget (λ f spent is before put. put_same b.turns.taken _ before _ (inv.asked before put) (sym ((spent is).all_taken ∙ inv.most)))

pub returns-clause-done : goal.returns-clause-done
returns-clause-done g c = rw c.in_default.is at c.in_ok-ticket.ensures.done

pub returns-clause-matches : goal.returns-clause-matches
returns-clause-matches g c =
    let b = c.loop-ticket.build in
    let inv = c.loop-ticket.invariant in
    (rested (directions_in g.S.Urls.JsrUrlProvider.meaning g.S.Resolve.Resolver.is_told g.S.Resolve.Resolver.meaning b) b c.take_question.new.self _ c.loop-ticket.recorder.unanswered.items inv.going inv.matches c.in_ok-ticket.ensures.next c.in_default.is).matches

pub returns-clause-counted : goal.returns-clause-counted
returns-clause-counted g c =
    let b = c.loop-ticket.build in
    let inv = c.loop-ticket.invariant in
    (rested (directions_in g.S.Urls.JsrUrlProvider.meaning g.S.Resolve.Resolver.is_told g.S.Resolve.Resolver.meaning b) b c.take_question.new.self _ c.loop-ticket.recorder.unanswered.items inv.going inv.matches c.in_ok-ticket.ensures.next c.in_default.is).same_taken ∙ inv.counted

pub returns-clause-budget : goal.returns-clause-budget
returns-clause-budget g c =
    let b = c.loop-ticket.build in
    let inv = c.loop-ticket.invariant in
    (rested (directions_in g.S.Urls.JsrUrlProvider.meaning g.S.Resolve.Resolver.is_told g.S.Resolve.Resolver.meaning b) b c.take_question.new.self _ c.loop-ticket.recorder.unanswered.items inv.going inv.matches c.in_ok-ticket.ensures.next c.in_default.is).most ∙ inv.most

pub returns-clause-opened : goal.returns-clause-opened
returns-clause-opened g c = λ n h.
    let b = c.loop-ticket.build in
    let inv = c.loop-ticket.invariant in
    inv.opened n h ∙ sym (rested (directions_in g.S.Urls.JsrUrlProvider.meaning g.S.Resolve.Resolver.is_told g.S.Resolve.Resolver.meaning b) b c.take_question.new.self _ c.loop-ticket.recorder.unanswered.items inv.going inv.matches c.in_ok-ticket.ensures.next c.in_default.is).same_taken

pub returns-clause-asked : goal.returns-clause-asked
returns-clause-asked g c = λ before p.
    let b = c.loop-ticket.build in
    let inv = c.loop-ticket.invariant in
    put_same b.turns.taken _ before _ (inv.asked before p) (rested (directions_in g.S.Urls.JsrUrlProvider.meaning g.S.Resolve.Resolver.is_told g.S.Resolve.Resolver.meaning b) b c.take_question.new.self _ c.loop-ticket.recorder.unanswered.items inv.going inv.matches c.in_ok-ticket.ensures.next c.in_default.is).same_taken

pub returns-clause-goes : goal.returns-clause-goes
returns-clause-goes g c =
    let b = c.loop-ticket.build in
    let new = c.take_question.new.self in
    let inv = c.loop-ticket.invariant in
    let e = c.in_ok-ticket.ensures in
    let world = g.L.LoaderCore.world c.args.recorder.now.inner in
    let means = means_in g.S.Analyze.ModuleAnalyzer.infos g.S.Tree.FileTree.paths g.S.Urls.JsrUrlProvider.meaning g.S.Resolve.Resolver.is_told g.S.Resolve.Resolver.meaning c.args.build.now in
    let same = same_means g.S.Analyze.ModuleAnalyzer.infos g.S.Tree.FileTree.paths g.S.Urls.JsrUrlProvider.meaning g.S.Resolve.Resolver.is_told g.S.Resolve.Resolver.meaning c.args.build.now b inv.keeps in
    going_more world means (entries_in c.args.recorder.now.store) (entries_in c.loop-ticket.recorder.store) (entries_in c.loop-ticket.recorder.store) c.args.build.now b new inv.goes
    (going_asked world means (entries_in c.loop-ticket.recorder.store) (entries_in c.loop-ticket.recorder.store) b new refl (λ told graph given meant goes. e.goes_by told graph given (subst (λ (m : Means). IsMeant m told graph.kind) (sym same) meant) goes))

pub returns-clause-reached : goal.returns-clause-reached
returns-clause-reached g c = c.loop-ticket.invariant.reached

pub returns-clause-builds : goal.returns-clause-builds
returns-clause-builds g c = λ graph given on.
    let b = c.loop-ticket.build in
    let inv = c.loop-ticket.invariant in
    let by = same_directions g.S.Urls.JsrUrlProvider.meaning g.S.Resolve.Resolver.is_told g.S.Resolve.Resolver.meaning c.args.build.now b inv.keeps in
    subst (λ (d : Directions). BuildsOn d graph given c.take_question.new.self) by (c.in_ok-ticket.ensures.builds_on graph given (subst (λ (d : Directions). BuildsOn d graph given b) (sym by) (inv.builds graph given on)))

pub returns-clause-below : goal.returns-clause-below
returns-clause-below g c =
    let inv = c.loop-ticket.invariant in
    omega (arith, inv.below, inv.counted)

pub returns-clause-within : goal.returns-clause-within
returns-clause-within g c =
    let inv = c.loop-ticket.invariant in
    omega (arith, inv.below, inv.going.in_order.numbered.in_budget, inv.most)

pub returns-in_err-ticket-clause-within : goal.returns-in_err-ticket-clause-within
returns-in_err-ticket-clause-within g c =
    let inv = c.loop-ticket.invariant in
    omega (arith, inv.below, inv.going.in_order.numbered.in_budget, inv.most)

pub returns-in_err-ask-clause-within : goal.returns-in_err-ask-clause-within
returns-in_err-ask-clause-within g c =
    let inv = c.loop-ticket.invariant in
    let same = c.in_err-ask.ensures.uncounted in
    omega (arith, inv.below, inv.going.in_order.numbered.in_budget, inv.most, same)

pub returns-in_err-ticket-clause-room : goal.returns-in_err-ticket-clause-room
returns-in_err-ticket-clause-room g c = λ told graph given questions tells goes covers within.
    let b = c.loop-ticket.build in
    let inv = c.loop-ticket.invariant in
    let same = same_means g.S.Analyze.ModuleAnalyzer.infos g.S.Tree.FileTree.paths g.S.Urls.JsrUrlProvider.meaning g.S.Resolve.Resolver.is_told g.S.Resolve.Resolver.meaning c.args.build.now b inv.keeps in
    let p = err_from_is_err_and c.from_residual.result c.from_residual.ensures.1 in
    let budget : IfErr c.from_residual.result (λ f. f ≡ fault.Budget → ⊥) = subst (λ r. IfErr r (λ f. f ≡ fault.Budget → ⊥)) (sym p.1)
    (λ is. c.in_err-ticket.ensures.room told graph given questions (subst (λ (m : Means). IsMeant m told graph.kind) (sym same) tells.meant) (inv.goes.by_world told graph given tells goes) covers
    (subst (λ (n : ℕ). enough graph given questions ≤ n) (c.requires.budget ∙ sym inv.most) within) (sym p.2 ∙ is)) in
    budget
