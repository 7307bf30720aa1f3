use Rattle.std.proofs.Common.{◌≡◌, ◌∙◌, ◌≤◌, ◌+◌, ℕ, Option, refl, sym, ap, subst, arith}
use Rattle.std.specs.Prelude.{OnOk}
use Rattle.source_sums.specs.Sums.{KnownSums}
use Rattle.source_io.specs.Tickets.{IsPut}
use Rattle.cache_filling.specs.Noted.{Noted}
use Rattle.graph_turns.specs.Machine.Known.{Known}
use Rattle.graph_turns.specs.Machine.Npm.{IsEnded}
use Rattle.build_options.specs.Telling.{npm_in}
use Rattle.graph_turns.specs.Machine.Sums.{IsTaught, KeepsSums}
use Rattle.graph_builder.specs.Calls.Over.{IsLeftBy, entered}
use Rattle.graph_turns.specs.Machine.Entering.{begun_at}
use Rattle.graph_turns.specs.Machine.Turns.{TurnsOut}
use Rattle.turn_laws.specs.Budget.Asked.{AsksOnce}
use Rattle.open_loads.specs.declared.fault.BuildFault.TheVariants.{Budget, Memory}
use Rattle.open_loads.specs.Budget.Runs.{IsOver}
use Rattle.graph_builder.specs.Calls.Steps.{is_begun, is_finished, given_graph}
use Rattle.open_loads.specs.Taught.{KeepsStore, StillKnows, LearnsManifests}
use Rattle.open_loads.specs.Order.Means.{IsTold, Means}
use Rattle.graph_builder.proofs.Calls.Copies.{noted_kept}
use Rattle.graph_reloads.proofs.Calls.Over.{LoadsEnter, asks_done, files_done, going_entered, grown_done, left_done, mended_by, none_taken_entered, over_entered, room_entered, run_only, same_budget_entered, sources_done, turned_done, turns_done}
use Rattle.graph_builder.proofs.Budget.Spent.{turns_within}
use Rattle.graph_builder.proofs.Calls.Driven.{err_all, err_so, on_err_so, on_ok_all, on_ok_so, on_ok_both}
use Rattle.graph_builder.proofs.Calls.Keeps.{build_keeps, given_keeps, given_of, manifests_kept, same_means, sums_kept}
use Rattle.graph_builder.proofs.Calls.Finished.{given_as, given_sums}
use Rattle.graph_builder.proofs.Calls.Going.{given_empty}
use Rattle.graph_builder.proofs.Calls.Started.{matches_none}
use Rattle.graph_turns.specs.Promise.Runs.{IsGrownBy}
use Rattle.metadata_store.specs.declared.store.JsrMetadataStore.{JsrMetadataStore}
use Rattle.graph_turns.specs.declared.run.Run.{Run}
use Rattle.graph_turns.specs.declared.run.Run.TheVariants.{Only}
use Rattle.open_loads.specs.Order.Numbered.{filled_store}
use Rattle.graph_builder.proofs.Calls.Learned.{learned_once, learns_in, nothing_once, versions_in_as}
use Rattle.open_loads.proofs.Order.KeptStores.{store_kept}
use Rattle.graph_turns.specs.Machine.Runs.{manifests_for, told_for}
use Rattle.std.specs.FinMap as finite
use Rattle.graph_reloads.proofs.over.run_over.Goals as goal

pub run_turns-requires : goal.run_turns-requires
run_turns-requires g c =
    let b = c.args.build.now in
    let loads : LoadsEnter (g.S.Urls.JsrUrlProvider.meaning c.args.build.now.options.jsr_url_provider.now) c.args.build.now.options.jsr_version_resolver.now.newest_dependency_date_options c.args.build.now c.enter_loads.new.self c.args.loads.items = record { begins = c.requires.begins; entered_are = c.in_ok-enter_loads.ensures.entered; outset = c.requires.outset; same = c.in_ok-enter_loads.ensures.same } in
    let none = none_taken_entered (g.S.Urls.JsrUrlProvider.meaning c.args.build.now.options.jsr_url_provider.now) c.args.build.now.options.jsr_version_resolver.now.newest_dependency_date_options b c.enter_loads.new.self c.args.loads.items loads in
    record {
      going = going_entered (g.S.Urls.JsrUrlProvider.meaning c.args.build.now.options.jsr_url_provider.now) c.args.build.now.options.jsr_version_resolver.now.newest_dependency_date_options b c.enter_loads.new.self c.args.loads.items loads c.requires.going c.requires.begun;
      none_taken = none;
      begun = ap (λ x. is_begun x.phase) loads.same ∙ c.requires.begun;
      matches = matches_none _ c.enter_loads.new.self.turns c.requires.closed none;
      closed = c.requires.closed;
    }

pub returns-in-Ok-clause-within : goal.returns-in-Ok-clause-within
returns-in-Ok-clause-within g c =
    subst (λ (n : ℕ). g.L.LoaderCore.asked c.run_turns.new.loader ≤ g.L.LoaderCore.asked c.args.loader.now + n) (same_budget_entered (g.S.Urls.JsrUrlProvider.meaning c.args.build.now.options.jsr_url_provider.now) c.args.build.now.options.jsr_version_resolver.now.newest_dependency_date_options c.args.build.now c.enter_loads.new.self c.args.loads.items (record { begins = c.requires.begins; entered_are = c.in_ok-enter_loads.ensures.entered; outset = c.requires.outset; same = c.in_ok-enter_loads.ensures.same })) c.run_turns.ensures.within

pub returns-in-Err-clause-within : goal.returns-in-Err-clause-within
returns-in-Err-clause-within g c =
    subst (λ (n : ℕ). g.L.LoaderCore.asked c.run_turns.new.loader ≤ g.L.LoaderCore.asked c.args.loader.now + n) (same_budget_entered (g.S.Urls.JsrUrlProvider.meaning c.args.build.now.options.jsr_url_provider.now) c.args.build.now.options.jsr_version_resolver.now.newest_dependency_date_options c.args.build.now c.enter_loads.new.self c.args.loads.items (record { begins = c.requires.begins; entered_are = c.in_ok-enter_loads.ensures.entered; outset = c.requires.outset; same = c.in_ok-enter_loads.ensures.same })) c.run_turns.ensures.within

pub returns-in-Err-clause-budget : goal.returns-in-Err-clause-budget
returns-in-Err-clause-budget g c = λ is.
    subst (λ (n : ℕ). IsPut n (g.L.LoaderCore.asked c.args.loader.now) (g.L.LoaderCore.asked c.run_turns.new.loader)) (same_budget_entered (g.S.Urls.JsrUrlProvider.meaning c.args.build.now.options.jsr_url_provider.now) c.args.build.now.options.jsr_version_resolver.now.newest_dependency_date_options c.args.build.now c.enter_loads.new.self c.args.loads.items (record { begins = c.requires.begins; entered_are = c.in_ok-enter_loads.ensures.entered; outset = c.requires.outset; same = c.in_ok-enter_loads.ensures.same })) (c.in-Err.ensures.budget is)

pub returns-in-Ok-clause-emptied : goal.returns-in-Ok-clause-emptied
returns-in-Ok-clause-emptied g c = on_err_so c.finish.result _ _ c.finish.ensures.ended
    (λ ended. given_empty c.finish.new.self c.args.build.now.kind (ap is_finished ended) (c.finish.ensures.keeps.kind ∙ c.run_turns.ensures.keeps.kind ∙ c.enter_loads.ensures.keeps.kind))

pub returns-in-Err-clause-emptied : goal.returns-in-Err-clause-emptied
returns-in-Err-clause-emptied g c =
    given_empty c.run_turns.new.build c.args.build.now.kind (c.run_turns.ensures.finished (ap is_finished c.enter_loads.ensures.phase ∙ c.requires.unfinished)) (c.run_turns.ensures.keeps.kind ∙ c.enter_loads.ensures.keeps.kind)

pub returns-in-Ok-clause-complete : goal.returns-in-Ok-clause-complete
returns-in-Ok-clause-complete g c = λ mended settled.
    let b = c.args.build.now in
    let loads : LoadsEnter (g.S.Urls.JsrUrlProvider.meaning c.args.build.now.options.jsr_url_provider.now) c.args.build.now.options.jsr_version_resolver.now.newest_dependency_date_options c.args.build.now c.enter_loads.new.self c.args.loads.items = record { begins = c.requires.begins; entered_are = c.in_ok-enter_loads.ensures.entered; outset = c.requires.outset; same = c.in_ok-enter_loads.ensures.same } in
    let same = same_means g.S.Analyze.ModuleAnalyzer.infos g.S.Tree.FileTree.paths g.S.Urls.JsrUrlProvider.meaning g.S.Resolve.Resolver.is_told g.S.Resolve.Resolver.meaning b c.enter_loads.new.self c.enter_loads.ensures.keeps in
    let meant = ap (λ (m : Means). m.registry) (sym same) in
    let newest = ap (λ (m : Means). m.newest) (sym same) in
    noted_kept c.run_turns.ensures.loader _ _ c.finish.result
    (given_as c.finish.result c.run_turns.new.build c.finish.new.self c.finish.ensures.same (g.L.LoaderCore.caches c.run_turns.new.loader) (g.L.LoaderCore.world c.run_turns.new.loader) (npm_in g.S.Npm.NpmResolver.table c.run_turns.new.build.options) c.finish.ensures.settled (λ x sums. IsLeftBy b.turns.known.flags (entered b.turns.state.graph c.args.loads.items) x)
    (λ u ended. left_done (g.S.Urls.JsrUrlProvider.meaning c.args.build.now.options.jsr_url_provider.now) c.args.build.now.options.jsr_version_resolver.now.newest_dependency_date_options b c.enter_loads.new.self c.args.loads.items loads (g.L.LoaderCore.world c.args.loader.now) _ meant newest c.run_turns.new.build c.in-Ok.ensures.later c.in-Ok.ensures.done (mended_by _ mended) settled u ended))

pub returns-in-Ok-clause-explained : goal.returns-in-Ok-clause-explained
returns-in-Ok-clause-explained g c = λ w tells npm most known mended settled.
    let b = c.args.build.now in
    let loads : LoadsEnter (g.S.Urls.JsrUrlProvider.meaning c.args.build.now.options.jsr_url_provider.now) c.args.build.now.options.jsr_version_resolver.now.newest_dependency_date_options c.args.build.now c.enter_loads.new.self c.args.loads.items = record { begins = c.requires.begins; entered_are = c.in_ok-enter_loads.ensures.entered; outset = c.requires.outset; same = c.in_ok-enter_loads.ensures.same } in
    let same = same_means g.S.Analyze.ModuleAnalyzer.infos g.S.Tree.FileTree.paths g.S.Urls.JsrUrlProvider.meaning g.S.Resolve.Resolver.is_told g.S.Resolve.Resolver.meaning b c.enter_loads.new.self c.enter_loads.ensures.keeps in
    let meant = ap (λ (m : Means). m.registry) (sym same) in
    let newest = ap (λ (m : Means). m.newest) (sym same) in
    let as_told = subst (λ (m : Means). IsTold (g.L.LoaderCore.world c.args.loader.now) m w b.turns.state.graph.kind) (sym same) tells in
    noted_kept c.run_turns.ensures.loader _ _ c.finish.result
    (given_as c.finish.result c.run_turns.new.build c.finish.new.self c.finish.ensures.same (g.L.LoaderCore.caches c.run_turns.new.loader) (g.L.LoaderCore.world c.run_turns.new.loader) (npm_in g.S.Npm.NpmResolver.table c.run_turns.new.build.options) c.finish.ensures.settled (λ x kept. IsGrownBy x (told_for w Only) (entered b.turns.state.graph c.args.loads.items))
    (λ u ended. grown_done (g.S.Urls.JsrUrlProvider.meaning c.args.build.now.options.jsr_url_provider.now) c.args.build.now.options.jsr_version_resolver.now.newest_dependency_date_options b c.enter_loads.new.self c.args.loads.items loads (g.L.LoaderCore.world c.args.loader.now) _ meant newest c.run_turns.new.build c.in-Ok.ensures.later w as_told most known c.in-Ok.ensures.done (mended_by _ mended) settled u (subst (λ o. IsEnded o c.run_turns.new.build.turns.state u) (ap (npm_in g.S.Npm.NpmResolver.table) (c.run_turns.ensures.keeps.options ∙ c.enter_loads.ensures.keeps.options) ∙ npm) ended)))

pub returns-in-Ok-clause-turned : goal.returns-in-Ok-clause-turned
returns-in-Ok-clause-turned g c = λ w tells npm most known.
    let b = c.args.build.now in
    let loads : LoadsEnter (g.S.Urls.JsrUrlProvider.meaning c.args.build.now.options.jsr_url_provider.now) c.args.build.now.options.jsr_version_resolver.now.newest_dependency_date_options c.args.build.now c.enter_loads.new.self c.args.loads.items = record { begins = c.requires.begins; entered_are = c.in_ok-enter_loads.ensures.entered; outset = c.requires.outset; same = c.in_ok-enter_loads.ensures.same } in
    let same = same_means g.S.Analyze.ModuleAnalyzer.infos g.S.Tree.FileTree.paths g.S.Urls.JsrUrlProvider.meaning g.S.Resolve.Resolver.is_told g.S.Resolve.Resolver.meaning b c.enter_loads.new.self c.enter_loads.ensures.keeps in
    let meant = ap (λ (m : Means). m.registry) (sym same) in
    let newest = ap (λ (m : Means). m.newest) (sym same) in
    let done = c.run_turns.new.build in
    let as_told = subst (λ (m : Means). IsTold (g.L.LoaderCore.world c.args.loader.now) m w b.turns.state.graph.kind) (sym same) tells in
    let store = filled_store done.turns.known.store done.turns.added in
    noted_kept c.run_turns.ensures.loader _ _ c.finish.result
    (on_ok_both c.finish.result _ _ _ c.finish.ensures.store
    (given_as c.finish.result done c.finish.new.self c.finish.ensures.same (g.L.LoaderCore.caches c.run_turns.new.loader) (g.L.LoaderCore.world c.run_turns.new.loader) (npm_in g.S.Npm.NpmResolver.table c.run_turns.new.build.options) c.finish.ensures.settled (λ x kept. TurnsOut w b.turns.state.graph.kind (begun_at w.known (entered b.turns.state.graph c.args.loads.items)) x kept store (g.L.LoaderCore.asked c.args.loader.now) (g.L.LoaderCore.asked c.run_turns.new.loader))
    (λ u ended. (done.turns.taken, turned_done (g.S.Urls.JsrUrlProvider.meaning c.args.build.now.options.jsr_url_provider.now) c.args.build.now.options.jsr_version_resolver.now.newest_dependency_date_options b c.enter_loads.new.self c.args.loads.items loads (g.L.LoaderCore.world c.args.loader.now) _ meant newest done c.in-Ok.ensures.later w as_told most known c.in-Ok.ensures.going c.in-Ok.ensures.done u (subst (λ o. IsEnded o c.run_turns.new.build.turns.state u) (ap (npm_in g.S.Npm.NpmResolver.table) (c.run_turns.ensures.keeps.options ∙ c.enter_loads.ensures.keeps.options) ∙ npm) ended), c.in-Ok.ensures.counted)))
    (λ stored out. subst (λ (o : Option JsrMetadataStore). Noted (g.L.LoaderCore.caches c.run_turns.new.loader) (g.L.LoaderCore.world c.run_turns.new.loader) (λ bare. TurnsOut w b.turns.state.graph.kind (begun_at w.known (entered b.turns.state.graph c.args.loads.items)) bare c.finish.new.self.turns.state.sums o (g.L.LoaderCore.asked c.args.loader.now) (g.L.LoaderCore.asked c.run_turns.new.loader)) (given_graph c.finish.new.self)) (sym stored) out))

pub returns-in-Ok-clause-afforded : goal.returns-in-Ok-clause-afforded
returns-in-Ok-clause-afforded g c = λ w tells most known.
    let b = c.args.build.now in
    let loads : LoadsEnter (g.S.Urls.JsrUrlProvider.meaning c.args.build.now.options.jsr_url_provider.now) c.args.build.now.options.jsr_version_resolver.now.newest_dependency_date_options c.args.build.now c.enter_loads.new.self c.args.loads.items = record { begins = c.requires.begins; entered_are = c.in_ok-enter_loads.ensures.entered; outset = c.requires.outset; same = c.in_ok-enter_loads.ensures.same } in
    let same = same_means g.S.Analyze.ModuleAnalyzer.infos g.S.Tree.FileTree.paths g.S.Urls.JsrUrlProvider.meaning g.S.Resolve.Resolver.is_told g.S.Resolve.Resolver.meaning b c.enter_loads.new.self c.enter_loads.ensures.keeps in
    let meant = ap (λ (m : Means). m.registry) (sym same) in
    let newest = ap (λ (m : Means). m.newest) (sym same) in
    let done = c.run_turns.new.build in
    let as_told = subst (λ (m : Means). IsTold (g.L.LoaderCore.world c.args.loader.now) m w b.turns.state.graph.kind) (sym same) tells in
    let turned = turns_done (g.S.Urls.JsrUrlProvider.meaning c.args.build.now.options.jsr_url_provider.now) c.args.build.now.options.jsr_version_resolver.now.newest_dependency_date_options b c.enter_loads.new.self c.args.loads.items loads (g.L.LoaderCore.world c.args.loader.now) _ meant newest done c.in-Ok.ensures.later w as_told most known c.in-Ok.ensures.going c.in-Ok.ensures.done in
    let budget = c.in-Ok.ensures.later.budget ∙ same_budget_entered (g.S.Urls.JsrUrlProvider.meaning c.args.build.now.options.jsr_url_provider.now) c.args.build.now.options.jsr_version_resolver.now.newest_dependency_date_options b c.enter_loads.new.self c.args.loads.items loads in
    let within = c.in-Ok.ensures.going.in_order.numbered.in_budget in
    let puts = turned.questions in
    on_ok_all c.finish.result _ (turns_within w b.turns.state.graph.kind (begun_at w.known (entered b.turns.state.graph c.args.loads.items)) turned.count b.turns.max_loads turned.done (omega (arith, budget, within, puts)))

pub returns-in-Ok-clause-sources : goal.returns-in-Ok-clause-sources
returns-in-Ok-clause-sources g c = λ w tells most known.
    let b = c.args.build.now in
    let loads : LoadsEnter (g.S.Urls.JsrUrlProvider.meaning c.args.build.now.options.jsr_url_provider.now) c.args.build.now.options.jsr_version_resolver.now.newest_dependency_date_options c.args.build.now c.enter_loads.new.self c.args.loads.items = record { begins = c.requires.begins; entered_are = c.in_ok-enter_loads.ensures.entered; outset = c.requires.outset; same = c.in_ok-enter_loads.ensures.same } in
    let same = same_means g.S.Analyze.ModuleAnalyzer.infos g.S.Tree.FileTree.paths g.S.Urls.JsrUrlProvider.meaning g.S.Resolve.Resolver.is_told g.S.Resolve.Resolver.meaning b c.enter_loads.new.self c.enter_loads.ensures.keeps in
    let meant = ap (λ (m : Means). m.registry) (sym same) in
    let newest = ap (λ (m : Means). m.newest) (sym same) in
    let as_told = subst (λ (m : Means). IsTold (g.L.LoaderCore.world c.args.loader.now) m w b.turns.state.graph.kind) (sym same) tells in
    let now_known = c.run_turns.ensures.keeps.known ∙ c.enter_loads.ensures.keeps.known in
    let sums : c.run_turns.new.build.turns.known.sums ≡ w.known.sums = ap (λ (k : Known). k.sums) (now_known ∙ known) in
    learned_once (told_for w Only) (entered b.turns.state.graph c.args.loads.items) c.run_turns.new.build.turns.known.sums c.run_turns.new.build.turns.state.sums c.finish.new.self.turns.known.sums sums c.finish.ensures.learned
    (sources_done (g.S.Urls.JsrUrlProvider.meaning c.args.build.now.options.jsr_url_provider.now) c.args.build.now.options.jsr_version_resolver.now.newest_dependency_date_options b c.enter_loads.new.self c.args.loads.items loads (g.L.LoaderCore.world c.args.loader.now) _ meant newest c.run_turns.new.build c.in-Ok.ensures.later w as_told most known)

pub returns-in-Err-clause-sources : goal.returns-in-Err-clause-sources
returns-in-Err-clause-sources g c = λ w tells most known.
    let b = c.args.build.now in
    nothing_once (told_for w Only) (entered b.turns.state.graph c.args.loads.items) b.turns.known.sums c.run_turns.new.build.turns.known.sums (ap (λ (k : Known). k.sums) known) (ap (λ (k : Known). k.sums) (c.run_turns.ensures.keeps.known ∙ c.enter_loads.ensures.keeps.known))

pub returns-in_err-enter_loads-clause-sources : goal.returns-in_err-enter_loads-clause-sources
returns-in_err-enter_loads-clause-sources g c = λ w tells most known.
    let b = c.args.build.now in
    nothing_once (told_for w Only) (entered b.turns.state.graph c.args.loads.items) b.turns.known.sums c.enter_loads.new.self.turns.known.sums (ap (λ (k : Known). k.sums) known) (ap (λ (k : Known). k.sums) c.enter_loads.ensures.keeps.known)

pub returns-in-Ok-clause-unlearned : goal.returns-in-Ok-clause-unlearned
returns-in-Ok-clause-unlearned g c = err_so c.finish.result _ _ c.finish.ensures.memory (λ f is other. absurd (other is))

pub returns-in-Err-clause-unlearned : goal.returns-in-Err-clause-unlearned
returns-in-Err-clause-unlearned g c = λ other. c.run_turns.ensures.keeps.known ∙ c.enter_loads.ensures.keeps.known

pub returns-in_err-enter_loads-clause-unlearned : goal.returns-in_err-enter_loads-clause-unlearned
returns-in_err-enter_loads-clause-unlearned g c = err_all c.from_residual.result _ (λ f other. c.enter_loads.ensures.keeps.known)

pub returns-in-Ok-clause-over : goal.returns-in-Ok-clause-over
returns-in-Ok-clause-over g c = err_so c.finish.result _ _ c.finish.ensures.memory (λ f is budget. absurd (let wrong : Memory ≡ Budget = sym is ∙ budget in cc))

pub returns-in-Err-clause-over : goal.returns-in-Err-clause-over
returns-in-Err-clause-over g c = λ budget.
    let b = c.args.build.now in
    let loads : LoadsEnter (g.S.Urls.JsrUrlProvider.meaning c.args.build.now.options.jsr_url_provider.now) c.args.build.now.options.jsr_version_resolver.now.newest_dependency_date_options c.args.build.now c.enter_loads.new.self c.args.loads.items = record { begins = c.requires.begins; entered_are = c.in_ok-enter_loads.ensures.entered; outset = c.requires.outset; same = c.in_ok-enter_loads.ensures.same } in
    let same = same_means g.S.Analyze.ModuleAnalyzer.infos g.S.Tree.FileTree.paths g.S.Urls.JsrUrlProvider.meaning g.S.Resolve.Resolver.is_told g.S.Resolve.Resolver.meaning b c.enter_loads.new.self c.enter_loads.ensures.keeps in
    let meant = ap (λ (m : Means). m.registry) (sym same) in
    let newest = ap (λ (m : Means). m.newest) (sym same) in
    subst (λ (m : Means). IsOver b.turns.redirects b.turns.known (g.L.LoaderCore.world c.args.loader.now) m (begun_at b.turns.known (entered b.turns.state.graph c.args.loads.items)) b.turns.max_loads) same
    (over_entered (g.S.Urls.JsrUrlProvider.meaning c.args.build.now.options.jsr_url_provider.now) c.args.build.now.options.jsr_version_resolver.now.newest_dependency_date_options b c.enter_loads.new.self c.args.loads.items loads (g.L.LoaderCore.world c.args.loader.now) _ meant newest (c.in-Err.ensures.over budget))

pub returns-in-Ok-clause-versions : goal.returns-in-Ok-clause-versions
returns-in-Ok-clause-versions g c = λ w tells most known.
    let b = c.args.build.now in
    let loads : LoadsEnter (g.S.Urls.JsrUrlProvider.meaning c.args.build.now.options.jsr_url_provider.now) c.args.build.now.options.jsr_version_resolver.now.newest_dependency_date_options c.args.build.now c.enter_loads.new.self c.args.loads.items = record { begins = c.requires.begins; entered_are = c.in_ok-enter_loads.ensures.entered; outset = c.requires.outset; same = c.in_ok-enter_loads.ensures.same } in
    let same = same_means g.S.Analyze.ModuleAnalyzer.infos g.S.Tree.FileTree.paths g.S.Urls.JsrUrlProvider.meaning g.S.Resolve.Resolver.is_told g.S.Resolve.Resolver.meaning b c.enter_loads.new.self c.enter_loads.ensures.keeps in
    let meant = ap (λ (m : Means). m.registry) (sym same) in
    let newest = ap (λ (m : Means). m.newest) (sym same) in
    let as_told = subst (λ (m : Means). IsTold (g.L.LoaderCore.world c.args.loader.now) m w b.turns.state.graph.kind) (sym same) tells in
    let done = c.run_turns.new.build in
    let now_known = c.run_turns.ensures.keeps.known ∙ c.enter_loads.ensures.keeps.known in
    let entry = entered b.turns.state.graph c.args.loads.items in
    let files = files_done (g.S.Urls.JsrUrlProvider.meaning c.args.build.now.options.jsr_url_provider.now) c.args.build.now.options.jsr_version_resolver.now.newest_dependency_date_options b c.enter_loads.new.self c.args.loads.items loads (g.L.LoaderCore.world c.args.loader.now) _ meant newest done c.in-Ok.ensures.later w as_told most known in
    let run_is = run_only (g.S.Urls.JsrUrlProvider.meaning c.args.build.now.options.jsr_url_provider.now) c.args.build.now.options.jsr_version_resolver.now.newest_dependency_date_options b c.enter_loads.new.self c.args.loads.items loads (g.L.LoaderCore.world c.args.loader.now) _ meant newest done c.in-Ok.ensures.later w as_told most known in
    on_ok_so c.finish.result _ _ c.finish.ensures.manifests
    (λ learns. versions_in_as (told_for w Only) entry b.turns.known.manifests c.finish.new.self.turns.known.manifests done.turns.known.manifests c.finish.new.self.turns.known.manifests (ap (λ (k : Known). k.manifests) now_known) refl
    (learns_in (told_for w Only) entry (finite.get done.turns.state.files) files done.turns.known.manifests c.finish.new.self.turns.known.manifests
    (subst (λ (r : Run). LearnsManifests (manifests_for done.turns.known.manifests r) (finite.get done.turns.state.files) c.finish.new.self.turns.known.manifests) run_is learns)))

pub returns-in-Ok-clause-store : goal.returns-in-Ok-clause-store
returns-in-Ok-clause-store g c =
    let known = c.run_turns.ensures.keeps.known ∙ c.enter_loads.ensures.keeps.known in
    subst (λ (k : Known). KeepsStore k.store c.finish.new.self.turns.known.store) known c.finish.ensures.store_kept

pub returns-in-Err-clause-store : goal.returns-in-Err-clause-store
returns-in-Err-clause-store g c = store_kept c.args.build.now.turns.known.store c.run_turns.new.build.turns.known.store (ap (λ (k : Known). k.store) (c.run_turns.ensures.keeps.known ∙ c.enter_loads.ensures.keeps.known))

pub returns-in_err-enter_loads-clause-store : goal.returns-in_err-enter_loads-clause-store
returns-in_err-enter_loads-clause-store g c = store_kept c.args.build.now.turns.known.store c.enter_loads.new.self.turns.known.store (ap (λ (k : Known). k.store) c.enter_loads.ensures.keeps.known)

pub returns-in-Ok-clause-manifests_kept : goal.returns-in-Ok-clause-manifests_kept
returns-in-Ok-clause-manifests_kept g c =
    let known = c.run_turns.ensures.keeps.known ∙ c.enter_loads.ensures.keeps.known in
    subst (λ (k : Known). StillKnows k.manifests c.finish.new.self.turns.known.manifests) known c.finish.ensures.manifests_kept

pub returns-in-Err-clause-manifests_kept : goal.returns-in-Err-clause-manifests_kept
returns-in-Err-clause-manifests_kept g c = manifests_kept c.args.build.now.turns.known.manifests c.run_turns.new.build.turns.known.manifests (ap (λ (k : Known). k.manifests) (c.run_turns.ensures.keeps.known ∙ c.enter_loads.ensures.keeps.known))

pub returns-in-Ok-clause-taught : goal.returns-in-Ok-clause-taught
returns-in-Ok-clause-taught g c =
    let known = c.run_turns.ensures.keeps.known ∙ c.enter_loads.ensures.keeps.known in
    given_sums c.finish.result c.run_turns.new.build c.finish.new.self c.finish.ensures.same (λ (sums : Option KnownSums). IsTaught c.args.build.now.turns.known.sums sums c.finish.new.self.turns.known.sums)
    (subst (λ (k : Known). OnOk c.finish.result (IsTaught k.sums c.run_turns.new.build.turns.state.sums c.finish.new.self.turns.known.sums)) known c.finish.ensures.taught)

pub returns-in-Ok-clause-kept : goal.returns-in-Ok-clause-kept
returns-in-Ok-clause-kept g c =
    let known = c.run_turns.ensures.keeps.known ∙ c.enter_loads.ensures.keeps.known in
    subst (λ (k : Known). KeepsSums k.sums c.finish.new.self.turns.known.sums) known c.finish.ensures.kept

pub returns-in-Err-clause-kept : goal.returns-in-Err-clause-kept
returns-in-Err-clause-kept g c = sums_kept c.args.build.now.turns.known.sums c.run_turns.new.build.turns.known.sums (ap (λ (k : Known). k.sums) (c.run_turns.ensures.keeps.known ∙ c.enter_loads.ensures.keeps.known))

pub returns-in-Ok-clause-asks : goal.returns-in-Ok-clause-asks
returns-in-Ok-clause-asks g c = λ mended.
    let b = c.args.build.now in
    let loads : LoadsEnter (g.S.Urls.JsrUrlProvider.meaning c.args.build.now.options.jsr_url_provider.now) c.args.build.now.options.jsr_version_resolver.now.newest_dependency_date_options c.args.build.now c.enter_loads.new.self c.args.loads.items = record { begins = c.requires.begins; entered_are = c.in_ok-enter_loads.ensures.entered; outset = c.requires.outset; same = c.in_ok-enter_loads.ensures.same } in
    let same = same_means g.S.Analyze.ModuleAnalyzer.infos g.S.Tree.FileTree.paths g.S.Urls.JsrUrlProvider.meaning g.S.Resolve.Resolver.is_told g.S.Resolve.Resolver.meaning b c.enter_loads.new.self c.enter_loads.ensures.keeps in
    let meant = ap (λ (m : Means). m.registry) (sym same) in
    let newest = ap (λ (m : Means). m.newest) (sym same) in
    let done = c.run_turns.new.build in
    noted_kept c.run_turns.ensures.loader _ _ c.finish.result
    (given_as c.finish.result done c.finish.new.self c.finish.ensures.same (g.L.LoaderCore.caches c.run_turns.new.loader) (g.L.LoaderCore.world c.run_turns.new.loader) (npm_in g.S.Npm.NpmResolver.table c.run_turns.new.build.options) c.finish.ensures.settled (λ x kept. AsksOnce (g.S.Urls.JsrUrlProvider.meaning c.args.build.now.options.jsr_url_provider.now) x (g.L.LoaderCore.asked c.args.loader.now) (g.L.LoaderCore.asked c.run_turns.new.loader))
    (λ u ended. (done.turns.taken, asks_done (g.S.Urls.JsrUrlProvider.meaning c.args.build.now.options.jsr_url_provider.now) c.args.build.now.options.jsr_version_resolver.now.newest_dependency_date_options b c.enter_loads.new.self c.args.loads.items loads (g.L.LoaderCore.world c.args.loader.now) _ meant newest done c.in-Ok.ensures.later c.in-Ok.ensures.going c.in-Ok.ensures.done (mended_by _ mended) u ended, c.in-Ok.ensures.counted)))

pub returns-in-Err-clause-room : goal.returns-in-Err-clause-room
returns-in-Err-clause-room g c = λ w questions tells most known mended covers enough budget.
    let b = c.args.build.now in
    let loads : LoadsEnter (g.S.Urls.JsrUrlProvider.meaning c.args.build.now.options.jsr_url_provider.now) c.args.build.now.options.jsr_version_resolver.now.newest_dependency_date_options c.args.build.now c.enter_loads.new.self c.args.loads.items = record { begins = c.requires.begins; entered_are = c.in_ok-enter_loads.ensures.entered; outset = c.requires.outset; same = c.in_ok-enter_loads.ensures.same } in
    let same = same_means g.S.Analyze.ModuleAnalyzer.infos g.S.Tree.FileTree.paths g.S.Urls.JsrUrlProvider.meaning g.S.Resolve.Resolver.is_told g.S.Resolve.Resolver.meaning b c.enter_loads.new.self c.enter_loads.ensures.keeps in
    let meant = ap (λ (m : Means). m.registry) (sym same) in
    let newest = ap (λ (m : Means). m.newest) (sym same) in
    let as_told = subst (λ (m : Means). IsTold (g.L.LoaderCore.world c.args.loader.now) m w b.turns.state.graph.kind) (sym same) tells in
    room_entered (g.S.Urls.JsrUrlProvider.meaning c.args.build.now.options.jsr_url_provider.now) c.args.build.now.options.jsr_version_resolver.now.newest_dependency_date_options b c.enter_loads.new.self c.args.loads.items loads (g.L.LoaderCore.world c.args.loader.now) _ meant newest (c.in-Err.ensures.over budget) w questions as_told most known (mended_by _ mended) covers enough

pub returns-in-Ok-clause-keeps : goal.returns-in-Ok-clause-keeps
returns-in-Ok-clause-keeps g c =
    given_keeps c.args.build.now c.run_turns.new.build c.finish.new.self
    (build_keeps c.args.build.now c.enter_loads.new.self c.run_turns.new.build c.enter_loads.ensures.keeps c.run_turns.ensures.keeps) c.finish.ensures.keeps

pub returns-in-Err-clause-keeps : goal.returns-in-Err-clause-keeps
returns-in-Err-clause-keeps g c = given_of c.args.build.now c.run_turns.new.build (build_keeps c.args.build.now c.enter_loads.new.self c.run_turns.new.build c.enter_loads.ensures.keeps c.run_turns.ensures.keeps)
