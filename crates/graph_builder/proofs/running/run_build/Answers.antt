use Rattle.std.proofs.Common.{◌≡◌, ◌∙◌, ◌≤◌, ◌+◌, ℕ, Option, refl, sym, ap, subst, arith}
use Rattle.std.specs.Prelude.{OnOk}
use Rattle.source_sums.specs.Sums.{KnownSums}
use Rattle.source_io.specs.Tickets.{IsPut}
use Rattle.cache_filling.specs.Noted.{Noted}
use Rattle.cache_filling.proofs.NotedLemmas.{on_ok_noted}
use Rattle.graph_core.specs.Graph.{new_graph}
use Rattle.open_loads.specs.Order.OpenLoads.{OpenLoads}
use Rattle.graph_builder.specs.Calls.Builds.{IsBuiltOver}
use Rattle.graph_turns.specs.Promise.Runs.{left_of}
use Rattle.turn_laws.specs.Promise.Complete.{IsComplete}
use Rattle.graph_builder.specs.Calls.Driven.{EndsOver}
use Rattle.build_options.specs.Telling.{npm_in}
use Rattle.graph_builder.specs.Calls.Steps.{given_graph, is_finished}
use Rattle.graph_turns.specs.Machine.Starting.{told_start}
use Rattle.graph_turns.specs.Machine.Runs.{begun_over}
use Rattle.graph_turns.specs.Machine.Known.{Known}
use Rattle.graph_turns.specs.Machine.Sums.{IsTaught, KeepsSums}
use Rattle.graph_turns.specs.Machine.Turns.{IsTurnedFrom}
use Rattle.graph_builder.specs.Calls.Makers.{directions_in, means_in}
use Rattle.open_loads.specs.Taught.{StillKnows, KeepsStore, LearnsSourcesIn}
use Rattle.open_loads.specs.Order.Means.{IsTold, Means}
use Rattle.graph_builder.proofs.Calls.Copies.{noted_kept}
use Rattle.graph_builder.proofs.Calls.Builds.{builds_entered, goes_entered}
use Rattle.open_loads.specs.declared.fault.BuildFault.TheVariants.{Loader, Memory}
use Rattle.graph_builder.proofs.Budget.Spent.{turns_within}
use Rattle.graph_builder.proofs.Calls.Driven.{err_all, err_so, on_err_so, on_ok_all, on_ok_so, ends_over, room_told}
use Rattle.graph_builder.proofs.Calls.Meant.{directions_told, told_directions}
use Rattle.graph_builder.proofs.Calls.Keeps.{build_keeps, given_keeps, given_of, manifests_kept, same_means, sums_kept}
use Rattle.graph_builder.proofs.Calls.Entered.{going_entered}
use Rattle.graph_builder.proofs.Calls.Going.{entered_numbers, entered_unfinished, given_empty}
use Rattle.graph_builder.proofs.Calls.Finished.{given_sums, turns_of}
use Rattle.graph_builder.proofs.Calls.Learned.{learned_going, learned_in, nothing_in, versions_as}
use Rattle.graph_builder.proofs.Calls.Started.{matches_none}
use Rattle.open_loads.proofs.Order.KeptStores.{store_kept}
use Rattle.graph_builder.proofs.running.run_build.Goals as goal

pub run_turns-requires-clause-going : goal.run_turns-requires-clause-going
run_turns-requires-clause-going g c = going_entered _ c.args.build.now c.enter_left_over.new.self c.requires.going c.in_ok-enter_left_over.ensures.enters

pub run_turns-requires-clause-none_taken : goal.run_turns-requires-clause-none_taken
run_turns-requires-clause-none_taken g c = (entered_numbers _ c.args.build.now c.enter_left_over.new.self c.requires.going c.in_ok-enter_left_over.ensures.enters).0 ∙ ap (λ (t : OpenLoads). t.taken) c.requires.begins

pub run_turns-requires-clause-matches : goal.run_turns-requires-clause-matches
run_turns-requires-clause-matches g c =
    let numbers = entered_numbers _ c.args.build.now c.enter_left_over.new.self c.requires.going c.in_ok-enter_left_over.ensures.enters in
    matches_none _ c.enter_left_over.new.self.turns c.requires.closed (numbers.0 ∙ ap (λ (t : OpenLoads). t.taken) c.requires.begins)

pub returns-in-Ok-clause-within : goal.returns-in-Ok-clause-within
returns-in-Ok-clause-within g c =
    let numbers = entered_numbers _ c.args.build.now c.enter_left_over.new.self c.requires.going c.in_ok-enter_left_over.ensures.enters in
    subst (λ (n : ℕ). g.L.LoaderCore.asked c.run_turns.new.loader ≤ g.L.LoaderCore.asked c.args.loader.now + n) numbers.1 c.run_turns.ensures.within

pub returns-in-Err-clause-within : goal.returns-in-Err-clause-within
returns-in-Err-clause-within g c =
    let numbers = entered_numbers _ c.args.build.now c.enter_left_over.new.self c.requires.going c.in_ok-enter_left_over.ensures.enters in
    subst (λ (n : ℕ). g.L.LoaderCore.asked c.run_turns.new.loader ≤ g.L.LoaderCore.asked c.args.loader.now + n) numbers.1 c.run_turns.ensures.within

pub returns-in-Err-clause-budget : goal.returns-in-Err-clause-budget
returns-in-Err-clause-budget g c = λ is.
    let numbers = entered_numbers _ c.args.build.now c.enter_left_over.new.self c.requires.going c.in_ok-enter_left_over.ensures.enters in
    subst (λ (n : ℕ). IsPut n (g.L.LoaderCore.asked c.args.loader.now) (g.L.LoaderCore.asked c.run_turns.new.loader)) numbers.1 (c.in-Err.ensures.budget is)

pub returns-in-Ok-clause-emptied : goal.returns-in-Ok-clause-emptied
returns-in-Ok-clause-emptied g c = on_err_so c.finish.result _ _ c.finish.ensures.ended
    (λ ended. given_empty c.finish.new.self c.args.build.now.kind (ap is_finished ended) (c.finish.ensures.keeps.kind ∙ c.run_turns.ensures.keeps.kind ∙ c.enter_left_over.ensures.keeps.kind))

pub returns-in-Err-clause-emptied : goal.returns-in-Err-clause-emptied
returns-in-Err-clause-emptied g c =
    given_empty c.run_turns.new.build c.args.build.now.kind (c.run_turns.ensures.finished (entered_unfinished _ c.args.build.now c.enter_left_over.new.self c.in_ok-enter_left_over.ensures.enters c.requires.unfinished)) (c.run_turns.ensures.keeps.kind ∙ c.enter_left_over.ensures.keeps.kind)

pub returns-in-Ok-clause-complete : goal.returns-in-Ok-clause-complete
returns-in-Ok-clause-complete g c = λ given on.
    let b = c.args.build.now in
    let directions = (directions_in g.S.Urls.JsrUrlProvider.meaning g.S.Resolve.Resolver.is_told g.S.Resolve.Resolver.meaning b) in
    let registry = ap (λ (m : Means). m.registry) (sym (same_means g.S.Analyze.ModuleAnalyzer.infos g.S.Tree.FileTree.paths g.S.Urls.JsrUrlProvider.meaning g.S.Resolve.Resolver.is_told g.S.Resolve.Resolver.meaning b c.enter_left_over.new.self c.enter_left_over.ensures.keeps)) in
    let newest = ap (λ (m : Means). m.newest) (sym (same_means g.S.Analyze.ModuleAnalyzer.infos g.S.Tree.FileTree.paths g.S.Urls.JsrUrlProvider.meaning g.S.Resolve.Resolver.is_told g.S.Resolve.Resolver.meaning b c.enter_left_over.new.self c.enter_left_over.ensures.keeps)) in
    let after = builds_entered directions (new_graph given.kind) (left_of given) b c.enter_left_over.new.self c.requires.going c.in_ok-enter_left_over.ensures.enters on in
    noted_kept c.run_turns.ensures.loader _ _ c.finish.result
    (subst (λ (k : Known). OnOk c.finish.result (Noted (g.L.LoaderCore.caches c.run_turns.new.loader) (g.L.LoaderCore.world c.run_turns.new.loader) (IsComplete directions.resolving k.flags given) (given_graph c.finish.new.self)))
    (c.run_turns.ensures.keeps.known ∙ c.enter_left_over.ensures.keeps.known)
    (c.finish.ensures.complete directions given (c.in-Ok.ensures.later.builds_on directions (new_graph given.kind) (left_of given) registry newest after)))

pub returns-in-Ok-clause-complete_over : goal.returns-in-Ok-clause-complete_over
returns-in-Ok-clause-complete_over g c = λ graph given on settled.
    let b = c.args.build.now in
    let directions = (directions_in g.S.Urls.JsrUrlProvider.meaning g.S.Resolve.Resolver.is_told g.S.Resolve.Resolver.meaning b) in
    let registry = ap (λ (m : Means). m.registry) (sym (same_means g.S.Analyze.ModuleAnalyzer.infos g.S.Tree.FileTree.paths g.S.Urls.JsrUrlProvider.meaning g.S.Resolve.Resolver.is_told g.S.Resolve.Resolver.meaning b c.enter_left_over.new.self c.enter_left_over.ensures.keeps)) in
    let newest = ap (λ (m : Means). m.newest) (sym (same_means g.S.Analyze.ModuleAnalyzer.infos g.S.Tree.FileTree.paths g.S.Urls.JsrUrlProvider.meaning g.S.Resolve.Resolver.is_told g.S.Resolve.Resolver.meaning b c.enter_left_over.new.self c.enter_left_over.ensures.keeps)) in
    let after = builds_entered directions graph given b c.enter_left_over.new.self c.requires.going c.in_ok-enter_left_over.ensures.enters on in
    noted_kept c.run_turns.ensures.loader _ _ c.finish.result
    (subst (λ (k : Known). OnOk c.finish.result (Noted (g.L.LoaderCore.caches c.run_turns.new.loader) (g.L.LoaderCore.world c.run_turns.new.loader) (IsBuiltOver directions.resolving k.flags graph given) (given_graph c.finish.new.self)))
    (c.run_turns.ensures.keeps.known ∙ c.enter_left_over.ensures.keeps.known)
    (c.finish.ensures.complete_over directions graph given (c.in-Ok.ensures.later.builds_on directions graph given registry newest after) settled))

pub returns-in-Ok-clause-explained : goal.returns-in-Ok-clause-explained
returns-in-Ok-clause-explained g c = λ w graph given tells npm goes settled.
    let b = c.args.build.now in
    let entered = c.enter_left_over.new.self in
    let directions = (directions_in g.S.Urls.JsrUrlProvider.meaning g.S.Resolve.Resolver.is_told g.S.Resolve.Resolver.meaning b) in
    let means = means_in g.S.Analyze.ModuleAnalyzer.infos g.S.Tree.FileTree.paths g.S.Urls.JsrUrlProvider.meaning g.S.Resolve.Resolver.is_told g.S.Resolve.Resolver.meaning b in
    let e = c.in_ok-enter_left_over.ensures.enters in
    let same : means_in g.S.Analyze.ModuleAnalyzer.infos g.S.Tree.FileTree.paths g.S.Urls.JsrUrlProvider.meaning g.S.Resolve.Resolver.is_told g.S.Resolve.Resolver.meaning entered ≡ means = same_means g.S.Analyze.ModuleAnalyzer.infos g.S.Tree.FileTree.paths g.S.Urls.JsrUrlProvider.meaning g.S.Resolve.Resolver.is_told g.S.Resolve.Resolver.meaning b entered c.enter_left_over.ensures.keeps in
    let told : directions ≡ told_directions w = directions_told (g.S.Analyze.ModuleAnalyzer.infos b.options.module_analyzer.now) (g.S.Tree.FileTree.paths b.options.file_system.now) directions b.kind b.options.skip_dynamic_deps b.options.unstable_config_imports w graph.kind tells.meant in
    let tells_now = subst (λ (m : Means). IsTold (g.L.LoaderCore.world c.args.loader.now) m w graph.kind) (sym same) tells in
    noted_kept c.run_turns.ensures.loader _ _ c.finish.result
    (c.finish.ensures.explained w graph given (ap (npm_in g.S.Npm.NpmResolver.table) (c.run_turns.ensures.keeps.options ∙ c.enter_left_over.ensures.keeps.options) ∙ npm) (c.in-Ok.ensures.later.goes_by w graph given tells_now (goes_entered directions w graph given b entered told e c.requires.going.in_order goes)) settled)

pub returns-in-Ok-clause-turned : goal.returns-in-Ok-clause-turned
returns-in-Ok-clause-turned g c = λ w graph given tells npm goes.
    let b = c.args.build.now in
    let entered = c.enter_left_over.new.self in
    let directions = (directions_in g.S.Urls.JsrUrlProvider.meaning g.S.Resolve.Resolver.is_told g.S.Resolve.Resolver.meaning b) in
    let means = means_in g.S.Analyze.ModuleAnalyzer.infos g.S.Tree.FileTree.paths g.S.Urls.JsrUrlProvider.meaning g.S.Resolve.Resolver.is_told g.S.Resolve.Resolver.meaning b in
    let e = c.in_ok-enter_left_over.ensures.enters in
    let same : means_in g.S.Analyze.ModuleAnalyzer.infos g.S.Tree.FileTree.paths g.S.Urls.JsrUrlProvider.meaning g.S.Resolve.Resolver.is_told g.S.Resolve.Resolver.meaning entered ≡ means = same_means g.S.Analyze.ModuleAnalyzer.infos g.S.Tree.FileTree.paths g.S.Urls.JsrUrlProvider.meaning g.S.Resolve.Resolver.is_told g.S.Resolve.Resolver.meaning b entered c.enter_left_over.ensures.keeps in
    let told : directions ≡ told_directions w = directions_told (g.S.Analyze.ModuleAnalyzer.infos b.options.module_analyzer.now) (g.S.Tree.FileTree.paths b.options.file_system.now) directions b.kind b.options.skip_dynamic_deps b.options.unstable_config_imports w graph.kind tells.meant in
    let tells_now = subst (λ (m : Means). IsTold (g.L.LoaderCore.world c.args.loader.now) m w graph.kind) (sym same) tells in
    noted_kept c.run_turns.ensures.loader _ _ c.finish.result
    (on_ok_noted _ _ _ c.finish.result
    (given_sums c.finish.result c.run_turns.new.build c.finish.new.self c.finish.ensures.same
    (λ (sums : Option KnownSums). Noted (g.L.LoaderCore.caches c.run_turns.new.loader) (g.L.LoaderCore.world c.run_turns.new.loader) (λ bare. IsTurnedFrom w graph.kind (begun_over w.known graph (told_start w given)) bare sums c.finish.new.self.turns.known.store c.run_turns.new.build.turns.taken) (given_graph c.finish.new.self))
    (c.finish.ensures.turned w graph given (ap (npm_in g.S.Npm.NpmResolver.table) (c.run_turns.ensures.keeps.options ∙ c.enter_left_over.ensures.keeps.options) ∙ npm) (c.in-Ok.ensures.later.goes_by w graph given tells_now (goes_entered directions w graph given b entered told e c.requires.going.in_order goes))))
    (λ bare turned. (c.run_turns.new.build.turns.taken, turned, c.in-Ok.ensures.counted)))

pub returns-in-Ok-clause-afforded : goal.returns-in-Ok-clause-afforded
returns-in-Ok-clause-afforded g c = λ w graph given tells goes.
    let b = c.args.build.now in
    let entered = c.enter_left_over.new.self in
    let directions = (directions_in g.S.Urls.JsrUrlProvider.meaning g.S.Resolve.Resolver.is_told g.S.Resolve.Resolver.meaning b) in
    let means = means_in g.S.Analyze.ModuleAnalyzer.infos g.S.Tree.FileTree.paths g.S.Urls.JsrUrlProvider.meaning g.S.Resolve.Resolver.is_told g.S.Resolve.Resolver.meaning b in
    let e = c.in_ok-enter_left_over.ensures.enters in
    let same : means_in g.S.Analyze.ModuleAnalyzer.infos g.S.Tree.FileTree.paths g.S.Urls.JsrUrlProvider.meaning g.S.Resolve.Resolver.is_told g.S.Resolve.Resolver.meaning entered ≡ means = same_means g.S.Analyze.ModuleAnalyzer.infos g.S.Tree.FileTree.paths g.S.Urls.JsrUrlProvider.meaning g.S.Resolve.Resolver.is_told g.S.Resolve.Resolver.meaning b entered c.enter_left_over.ensures.keeps in
    let told : directions ≡ told_directions w = directions_told (g.S.Analyze.ModuleAnalyzer.infos b.options.module_analyzer.now) (g.S.Tree.FileTree.paths b.options.file_system.now) directions b.kind b.options.skip_dynamic_deps b.options.unstable_config_imports w graph.kind tells.meant in
    let tells_now = subst (λ (m : Means). IsTold (g.L.LoaderCore.world c.args.loader.now) m w graph.kind) (sym same) tells in
    let now = c.in-Ok.ensures.later.goes_by w graph given tells_now (goes_entered directions w graph given b entered told e c.requires.going.in_order goes) in
    let turned = turns_of c.run_turns.new.build c.in-Ok.ensures.going c.in-Ok.ensures.done w graph given now in
    let numbers = entered_numbers _ b entered c.requires.going e in
    let most = c.in-Ok.ensures.later.budget ∙ numbers.1 in
    let within = c.in-Ok.ensures.going.in_order.numbered.in_budget in
    let puts = turned.questions in
    on_ok_all c.finish.result _ (turns_within w graph.kind (begun_over w.known graph (told_start w given)) turned.count b.turns.max_loads turned.done (omega (arith, most, within, puts)))

pub returns-in-Ok-clause-sources : goal.returns-in-Ok-clause-sources
returns-in-Ok-clause-sources g c = λ w graph given tells goes.
    let b = c.args.build.now in
    let entered = c.enter_left_over.new.self in
    let directions = (directions_in g.S.Urls.JsrUrlProvider.meaning g.S.Resolve.Resolver.is_told g.S.Resolve.Resolver.meaning b) in
    let means = means_in g.S.Analyze.ModuleAnalyzer.infos g.S.Tree.FileTree.paths g.S.Urls.JsrUrlProvider.meaning g.S.Resolve.Resolver.is_told g.S.Resolve.Resolver.meaning b in
    let e = c.in_ok-enter_left_over.ensures.enters in
    let same : means_in g.S.Analyze.ModuleAnalyzer.infos g.S.Tree.FileTree.paths g.S.Urls.JsrUrlProvider.meaning g.S.Resolve.Resolver.is_told g.S.Resolve.Resolver.meaning entered ≡ means = same_means g.S.Analyze.ModuleAnalyzer.infos g.S.Tree.FileTree.paths g.S.Urls.JsrUrlProvider.meaning g.S.Resolve.Resolver.is_told g.S.Resolve.Resolver.meaning b entered c.enter_left_over.ensures.keeps in
    let told : directions ≡ told_directions w = directions_told (g.S.Analyze.ModuleAnalyzer.infos b.options.module_analyzer.now) (g.S.Tree.FileTree.paths b.options.file_system.now) directions b.kind b.options.skip_dynamic_deps b.options.unstable_config_imports w graph.kind tells.meant in
    let tells_now = subst (λ (m : Means). IsTold (g.L.LoaderCore.world c.args.loader.now) m w graph.kind) (sym same) tells in
    let known = c.run_turns.ensures.keeps.known ∙ c.enter_left_over.ensures.keeps.known in
    subst (λ (k : Known). LearnsSourcesIn w graph given k.sums c.finish.new.self.turns.known.sums) known
    (learned_in w graph given c.run_turns.new.build.turns.known.sums c.run_turns.new.build.turns.state.sums c.finish.new.self.turns.known.sums c.finish.ensures.learned
    (c.finish.ensures.sources w graph given (c.in-Ok.ensures.later.goes_by w graph given tells_now (goes_entered directions w graph given b entered told e c.requires.going.in_order goes))))

pub returns-in-Err-clause-sources : goal.returns-in-Err-clause-sources
returns-in-Err-clause-sources g c = λ w graph given tells goes. nothing_in w graph given c.args.build.now.turns.known.sums c.run_turns.new.build.turns.known.sums (ap (λ (k : Known). k.sums) (c.run_turns.ensures.keeps.known ∙ c.enter_left_over.ensures.keeps.known))

pub returns-in_err-enter_left_over-clause-sources : goal.returns-in_err-enter_left_over-clause-sources
returns-in_err-enter_left_over-clause-sources g c = λ w graph given tells goes. nothing_in w graph given c.args.build.now.turns.known.sums c.enter_left_over.new.self.turns.known.sums (ap (λ (k : Known). k.sums) c.enter_left_over.ensures.keeps.known)

pub returns-in-Ok-clause-unlearned : goal.returns-in-Ok-clause-unlearned
returns-in-Ok-clause-unlearned g c = err_so c.finish.result _ _ c.finish.ensures.memory (λ f is other. absurd (other is))

pub returns-in-Err-clause-unlearned : goal.returns-in-Err-clause-unlearned
returns-in-Err-clause-unlearned g c = λ other. c.run_turns.ensures.keeps.known ∙ c.enter_left_over.ensures.keeps.known

pub returns-in_err-enter_left_over-clause-unlearned : goal.returns-in_err-enter_left_over-clause-unlearned
returns-in_err-enter_left_over-clause-unlearned g c = err_all c.from_residual.result _ (λ f other. c.enter_left_over.ensures.keeps.known)

pub returns-in-Ok-clause-taught : goal.returns-in-Ok-clause-taught
returns-in-Ok-clause-taught g c =
    let known = c.run_turns.ensures.keeps.known ∙ c.enter_left_over.ensures.keeps.known in
    given_sums c.finish.result c.run_turns.new.build c.finish.new.self c.finish.ensures.same (λ (sums : Option KnownSums). IsTaught c.args.build.now.turns.known.sums sums c.finish.new.self.turns.known.sums)
    (subst (λ (k : Known). OnOk c.finish.result (IsTaught k.sums c.run_turns.new.build.turns.state.sums c.finish.new.self.turns.known.sums)) known c.finish.ensures.taught)

pub returns-in-Ok-clause-kept : goal.returns-in-Ok-clause-kept
returns-in-Ok-clause-kept g c =
    let known = c.run_turns.ensures.keeps.known ∙ c.enter_left_over.ensures.keeps.known in
    subst (λ (k : Known). KeepsSums k.sums c.finish.new.self.turns.known.sums) known c.finish.ensures.kept

pub returns-in-Err-clause-kept : goal.returns-in-Err-clause-kept
returns-in-Err-clause-kept g c = sums_kept c.args.build.now.turns.known.sums c.run_turns.new.build.turns.known.sums (ap (λ (k : Known). k.sums) (c.run_turns.ensures.keeps.known ∙ c.enter_left_over.ensures.keeps.known))

pub returns-in-Ok-clause-versions : goal.returns-in-Ok-clause-versions
returns-in-Ok-clause-versions g c = λ w graph given tells goes.
    let b = c.args.build.now in
    let entered = c.enter_left_over.new.self in
    let done = c.run_turns.new.build in
    let directions = (directions_in g.S.Urls.JsrUrlProvider.meaning g.S.Resolve.Resolver.is_told g.S.Resolve.Resolver.meaning b) in
    let means = means_in g.S.Analyze.ModuleAnalyzer.infos g.S.Tree.FileTree.paths g.S.Urls.JsrUrlProvider.meaning g.S.Resolve.Resolver.is_told g.S.Resolve.Resolver.meaning b in
    let e = c.in_ok-enter_left_over.ensures.enters in
    let same : means_in g.S.Analyze.ModuleAnalyzer.infos g.S.Tree.FileTree.paths g.S.Urls.JsrUrlProvider.meaning g.S.Resolve.Resolver.is_told g.S.Resolve.Resolver.meaning entered ≡ means = same_means g.S.Analyze.ModuleAnalyzer.infos g.S.Tree.FileTree.paths g.S.Urls.JsrUrlProvider.meaning g.S.Resolve.Resolver.is_told g.S.Resolve.Resolver.meaning b entered c.enter_left_over.ensures.keeps in
    let told : directions ≡ told_directions w = directions_told (g.S.Analyze.ModuleAnalyzer.infos b.options.module_analyzer.now) (g.S.Tree.FileTree.paths b.options.file_system.now) directions b.kind b.options.skip_dynamic_deps b.options.unstable_config_imports w graph.kind tells.meant in
    let tells_now = subst (λ (m : Means). IsTold (g.L.LoaderCore.world c.args.loader.now) m w graph.kind) (sym same) tells in
    let now = c.in-Ok.ensures.later.goes_by w graph given tells_now (goes_entered directions w graph given b entered told e c.requires.going.in_order goes) in
    let known = c.run_turns.ensures.keeps.known ∙ c.enter_left_over.ensures.keeps.known in
    on_ok_so c.finish.result _ _ c.finish.ensures.manifests
    (λ learns. versions_as w graph graph given b.turns.known.manifests c.finish.new.self.turns.known.manifests done.turns.known.manifests c.finish.new.self.turns.known.manifests refl (ap (λ (k : Known). k.manifests) known) refl
    (learned_going w graph given done c.in-Ok.ensures.done.begun now c.finish.new.self.turns.known.manifests learns))

pub returns-in-Ok-clause-static_first : goal.returns-in-Ok-clause-static_first
returns-in-Ok-clause-static_first g c = λ w given tells goes settled.
    let b = c.args.build.now in
    let graph = new_graph given.kind in
    let entered = c.enter_left_over.new.self in
    let directions = (directions_in g.S.Urls.JsrUrlProvider.meaning g.S.Resolve.Resolver.is_told g.S.Resolve.Resolver.meaning b) in
    let means = means_in g.S.Analyze.ModuleAnalyzer.infos g.S.Tree.FileTree.paths g.S.Urls.JsrUrlProvider.meaning g.S.Resolve.Resolver.is_told g.S.Resolve.Resolver.meaning b in
    let e = c.in_ok-enter_left_over.ensures.enters in
    let same : means_in g.S.Analyze.ModuleAnalyzer.infos g.S.Tree.FileTree.paths g.S.Urls.JsrUrlProvider.meaning g.S.Resolve.Resolver.is_told g.S.Resolve.Resolver.meaning entered ≡ means = same_means g.S.Analyze.ModuleAnalyzer.infos g.S.Tree.FileTree.paths g.S.Urls.JsrUrlProvider.meaning g.S.Resolve.Resolver.is_told g.S.Resolve.Resolver.meaning b entered c.enter_left_over.ensures.keeps in
    let told : directions ≡ told_directions w = directions_told (g.S.Analyze.ModuleAnalyzer.infos b.options.module_analyzer.now) (g.S.Tree.FileTree.paths b.options.file_system.now) directions b.kind b.options.skip_dynamic_deps b.options.unstable_config_imports w graph.kind tells.meant in
    let tells_now = subst (λ (m : Means). IsTold (g.L.LoaderCore.world c.args.loader.now) m w graph.kind) (sym same) tells in
    noted_kept c.run_turns.ensures.loader _ _ c.finish.result
    (c.finish.ensures.static_first w given (c.in-Ok.ensures.later.goes_by w graph (left_of given) tells_now (goes_entered directions w graph (left_of given) b entered told e c.requires.going.in_order goes)) settled)

pub returns-in-Ok-clause-store : goal.returns-in-Ok-clause-store
returns-in-Ok-clause-store g c =
    let known = c.run_turns.ensures.keeps.known ∙ c.enter_left_over.ensures.keeps.known in
    subst (λ (k : Known). KeepsStore k.store c.finish.new.self.turns.known.store) known c.finish.ensures.store_kept

pub returns-in-Err-clause-store : goal.returns-in-Err-clause-store
returns-in-Err-clause-store g c = store_kept c.args.build.now.turns.known.store c.run_turns.new.build.turns.known.store (ap (λ (k : Known). k.store) (c.run_turns.ensures.keeps.known ∙ c.enter_left_over.ensures.keeps.known))

pub returns-in_err-enter_left_over-clause-store : goal.returns-in_err-enter_left_over-clause-store
returns-in_err-enter_left_over-clause-store g c = store_kept c.args.build.now.turns.known.store c.enter_left_over.new.self.turns.known.store (ap (λ (k : Known). k.store) c.enter_left_over.ensures.keeps.known)

pub returns-in-Ok-clause-manifests_kept : goal.returns-in-Ok-clause-manifests_kept
returns-in-Ok-clause-manifests_kept g c =
    let known = c.run_turns.ensures.keeps.known ∙ c.enter_left_over.ensures.keeps.known in
    subst (λ (k : Known). StillKnows k.manifests c.finish.new.self.turns.known.manifests) known c.finish.ensures.manifests_kept

pub returns-in-Err-clause-manifests_kept : goal.returns-in-Err-clause-manifests_kept
returns-in-Err-clause-manifests_kept g c = manifests_kept c.args.build.now.turns.known.manifests c.run_turns.new.build.turns.known.manifests (ap (λ (k : Known). k.manifests) (c.run_turns.ensures.keeps.known ∙ c.enter_left_over.ensures.keeps.known))

pub returns-in-Ok-clause-asks : goal.returns-in-Ok-clause-asks
returns-in-Ok-clause-asks g c = λ graph given on.
    let b = c.args.build.now in
    let directions = (directions_in g.S.Urls.JsrUrlProvider.meaning g.S.Resolve.Resolver.is_told g.S.Resolve.Resolver.meaning b) in
    let registry = ap (λ (m : Means). m.registry) (sym (same_means g.S.Analyze.ModuleAnalyzer.infos g.S.Tree.FileTree.paths g.S.Urls.JsrUrlProvider.meaning g.S.Resolve.Resolver.is_told g.S.Resolve.Resolver.meaning b c.enter_left_over.new.self c.enter_left_over.ensures.keeps)) in
    let newest = ap (λ (m : Means). m.newest) (sym (same_means g.S.Analyze.ModuleAnalyzer.infos g.S.Tree.FileTree.paths g.S.Urls.JsrUrlProvider.meaning g.S.Resolve.Resolver.is_told g.S.Resolve.Resolver.meaning b c.enter_left_over.new.self c.enter_left_over.ensures.keeps)) in
    let after = builds_entered directions graph given b c.enter_left_over.new.self c.requires.going c.in_ok-enter_left_over.ensures.enters on in
    noted_kept c.run_turns.ensures.loader _ _ c.finish.result
    (on_ok_noted _ _ _ c.finish.result (c.finish.ensures.asked directions graph given (c.in-Ok.ensures.later.builds_on directions graph given registry newest after))
    (λ bare asked. (c.run_turns.new.build.turns.taken, asked, c.in-Ok.ensures.counted)))

pub returns-in-Err-clause-room : goal.returns-in-Err-clause-room
returns-in-Err-clause-room g c = λ w graph given questions goes tells covers enough_is budget.
    let b = c.args.build.now in
    let entered = c.enter_left_over.new.self in
    let directions = (directions_in g.S.Urls.JsrUrlProvider.meaning g.S.Resolve.Resolver.is_told g.S.Resolve.Resolver.meaning b) in
    let means = means_in g.S.Analyze.ModuleAnalyzer.infos g.S.Tree.FileTree.paths g.S.Urls.JsrUrlProvider.meaning g.S.Resolve.Resolver.is_told g.S.Resolve.Resolver.meaning b in
    let e = c.in_ok-enter_left_over.ensures.enters in
    let same : means_in g.S.Analyze.ModuleAnalyzer.infos g.S.Tree.FileTree.paths g.S.Urls.JsrUrlProvider.meaning g.S.Resolve.Resolver.is_told g.S.Resolve.Resolver.meaning entered ≡ means = same_means g.S.Analyze.ModuleAnalyzer.infos g.S.Tree.FileTree.paths g.S.Urls.JsrUrlProvider.meaning g.S.Resolve.Resolver.is_told g.S.Resolve.Resolver.meaning b entered c.enter_left_over.ensures.keeps in
    let told : directions ≡ told_directions w = directions_told (g.S.Analyze.ModuleAnalyzer.infos b.options.module_analyzer.now) (g.S.Tree.FileTree.paths b.options.file_system.now) directions b.kind b.options.skip_dynamic_deps b.options.unstable_config_imports w graph.kind tells.meant in
    let tells_now = subst (λ (m : Means). IsTold (g.L.LoaderCore.world c.args.loader.now) m w graph.kind) (sym same) tells in
    room_told (g.L.LoaderCore.world c.args.loader.now) directions _ w graph given questions b entered c.requires.going told e goes tells_now covers enough_is (c.in-Err.ensures.over budget)

pub returns-in-Err-clause-paced : goal.returns-in-Err-clause-paced
returns-in-Err-clause-paced g c = λ is w graph given tells goes.
    let b = c.args.build.now in
    let entered = c.enter_left_over.new.self in
    let directions = (directions_in g.S.Urls.JsrUrlProvider.meaning g.S.Resolve.Resolver.is_told g.S.Resolve.Resolver.meaning b) in
    let means = means_in g.S.Analyze.ModuleAnalyzer.infos g.S.Tree.FileTree.paths g.S.Urls.JsrUrlProvider.meaning g.S.Resolve.Resolver.is_told g.S.Resolve.Resolver.meaning b in
    let e = c.in_ok-enter_left_over.ensures.enters in
    let same : means_in g.S.Analyze.ModuleAnalyzer.infos g.S.Tree.FileTree.paths g.S.Urls.JsrUrlProvider.meaning g.S.Resolve.Resolver.is_told g.S.Resolve.Resolver.meaning entered ≡ means = same_means g.S.Analyze.ModuleAnalyzer.infos g.S.Tree.FileTree.paths g.S.Urls.JsrUrlProvider.meaning g.S.Resolve.Resolver.is_told g.S.Resolve.Resolver.meaning b entered c.enter_left_over.ensures.keeps in
    let told : directions ≡ told_directions w = directions_told (g.S.Analyze.ModuleAnalyzer.infos b.options.module_analyzer.now) (g.S.Tree.FileTree.paths b.options.file_system.now) directions b.kind b.options.skip_dynamic_deps b.options.unstable_config_imports w graph.kind tells.meant in
    let tells_now = subst (λ (m : Means). IsTold (g.L.LoaderCore.world c.args.loader.now) m w graph.kind) (sym same) tells in
    c.in-Err.ensures.paced is w graph given tells_now (goes_entered directions w graph given b entered told e c.requires.going.in_order goes)

pub returns-in-Ok-clause-paced : goal.returns-in-Ok-clause-paced
returns-in-Ok-clause-paced g c = err_so c.finish.result _ _ c.finish.ensures.memory (λ f is loader. absurd (let wrong : Memory ≡ Loader = sym is ∙ loader in cc))

pub returns-in-Err-clause-over : goal.returns-in-Err-clause-over
returns-in-Err-clause-over g c = λ budget.
    let b = c.args.build.now in
    let entered = c.enter_left_over.new.self in
    let directions = (directions_in g.S.Urls.JsrUrlProvider.meaning g.S.Resolve.Resolver.is_told g.S.Resolve.Resolver.meaning b) in
    let means = means_in g.S.Analyze.ModuleAnalyzer.infos g.S.Tree.FileTree.paths g.S.Urls.JsrUrlProvider.meaning g.S.Resolve.Resolver.is_told g.S.Resolve.Resolver.meaning b in
    let e = c.in_ok-enter_left_over.ensures.enters in
    let same : means_in g.S.Analyze.ModuleAnalyzer.infos g.S.Tree.FileTree.paths g.S.Urls.JsrUrlProvider.meaning g.S.Resolve.Resolver.is_told g.S.Resolve.Resolver.meaning entered ≡ means = same_means g.S.Analyze.ModuleAnalyzer.infos g.S.Tree.FileTree.paths g.S.Urls.JsrUrlProvider.meaning g.S.Resolve.Resolver.is_told g.S.Resolve.Resolver.meaning b entered c.enter_left_over.ensures.keeps in
    subst (λ (m : Means). EndsOver (g.L.LoaderCore.world c.args.loader.now) directions.resolving m b) same (ends_over (g.L.LoaderCore.world c.args.loader.now) directions _ b entered (ap (λ (m : Means). m.registry) (sym same)) (ap (λ (m : Means). m.newest) (sym same)) c.requires.begins e (c.in-Err.ensures.over budget))

pub returns-in-Ok-clause-keeps : goal.returns-in-Ok-clause-keeps
returns-in-Ok-clause-keeps g c =
    given_keeps c.args.build.now c.run_turns.new.build c.finish.new.self
    (build_keeps c.args.build.now c.enter_left_over.new.self c.run_turns.new.build c.enter_left_over.ensures.keeps c.run_turns.ensures.keeps) c.finish.ensures.keeps

pub returns-in-Err-clause-keeps : goal.returns-in-Err-clause-keeps
returns-in-Err-clause-keeps g c = given_of c.args.build.now c.run_turns.new.build (build_keeps c.args.build.now c.enter_left_over.new.self c.run_turns.new.build c.enter_left_over.ensures.keeps c.run_turns.ensures.keeps)
