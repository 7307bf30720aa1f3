use Rattle.std.proofs.Common.{Bool, ◌≡◌, ◌∙◌, ◌≤◌, ℕ, refl, sym, ap, subst}
use Rattle.std.specs.Prelude.{List, Option, Result, Ok, Err, IfOk}
use Rattle.source_io.specs.Tickets.{IsPut}
use Rattle.source_io.specs.declared.types.World.{World}
use Rattle.source_sums.specs.Sums.{KnownSums}
use Rattle.cache_filling.specs.Noted.{Noted}
use Rattle.graph_builder.proofs.Calls.Copies.{none_pending_bare, none_pending_noted}
use Rattle.graph_core.specs.Graph.{new_graph}
use Rattle.graph_core.specs.declared.graph.ModuleGraph.{ModuleGraph}
use Rattle.graph_turns.specs.Machine.Redirects.{HasNoCircle}
use Rattle.graph_turns.specs.Promise.Input.{Given}
use Rattle.graph_turns.specs.Promise.Runs.{left_of}
use Rattle.graph_turns.specs.Promise.Told.{Told}
use Rattle.turn_laws.proofs.Leading.Circles.{new_no_circle}
use Rattle.graph_builder.specs.Calls.Builds.{GoesBy}
use Rattle.graph_builder.specs.Calls.Makers.{means_in}
use Rattle.build_options.specs.Telling.{without_locker}
use Rattle.open_loads.specs.declared.fault.BuildFault.{BuildFault}
use Rattle.build_options.specs.declared.options.BuildOptions.{BuildOptions}
use Rattle.open_loads.specs.Order.Means.{IsMeant, IsTold, Means}
use Rattle.graph_builder.proofs.Budget.Ran.{most_told}
use Rattle.graph_builder.proofs.Calls.Driven.{err_so}
use Rattle.graph_builder.proofs.Calls.Meant.{is_told_of}
use Rattle.graph_store.specs.Stores.{entries_in}
use Rattle.store_turns.specs.declared.recording.Recorded.{Recorded}
use Rattle.store_turns.specs.Builds.{LeavesTurns, answered_by}
use Rattle.store_turns.specs.Inputs.{given_in}
use Rattle.store_turns.proofs.Left.{if_ok_kept, if_ok_so, on_ok_any}
use Rattle.import_records.specs.Target.{Resolving}
use Rattle.graph_turns.specs.declared.flags.Flags.{Flags}
use Rattle.turn_laws.specs.Budget.Covers.{CoversRuns, enough}
use Rattle.graph_turns.specs.Machine.Known.{Known}
use Rattle.graph_turns.specs.Promise.Choices.{IsMade}
use Rattle.turn_laws.specs.Promise.Complete.{IsComplete}
use Rattle.turn_laws.proofs.Promise.MadeEnds.{made_turned}
use Rattle.graph_builder.specs.Calls.Builds.{BuildsOn}
use Rattle.graph_builder.specs.Calls.Makers.{directions_in, resolving_in}
use Rattle.build_options.specs.Telling.{flags_of, npm_in, sums_in, telling_of}
use Rattle.store_turns.specs.Questions.{AreAbout, AreReached}
use Rattle.store_turns.proofs.recording.record.Goals as goal

-- a complete graph by another name
complete_as : {S L T U A R N C Q : Type 0} (caches : Bool) (world : Option World) (r : Result (Recorded S L T U A R N C Q) BuildFault) (own resolver : Option Resolving) (own_flags flags : Flags) (given : Given) → own ≡ resolver → own_flags ≡ flags
    → IfOk r (λ x. Noted caches world (IsComplete own own_flags given) x.graph) → IfOk r (λ x. Noted caches world (IsComplete resolver flags given) x.graph)
complete_as caches world (Ok x) own resolver own_flags flags given same same_flags done = subst (λ (f : Flags). Noted caches world (IsComplete resolver f given) x.graph) same_flags (subst (λ (o : Option Resolving). Noted caches world (IsComplete o own_flags given) x.graph) same done)
complete_as caches world (Err e) own resolver own_flags flags given same same_flags done = tt

-- what turns made of the empty graph
made_of : {S L T U A R N C Q : Type 0} (caches : Bool) (world : Option World) (r : Result (Recorded S L T U A R N C Q) BuildFault) (resolver : Option Resolving) (flags : Flags) (told : Told) (given : Given) (sums : BuildOptions S L T U A R N C Q → Option KnownSums)
    → IfOk r (λ x. Noted caches world (IsComplete resolver flags given) x.graph) → IfOk r (λ x. Noted caches world (λ bare. LeavesTurns told given bare (sums x.options) x.options.jsr_metadata_store x.questions) x.graph) → IfOk r (λ x. Noted caches world (IsMade told given) x.graph)
made_of caches world (Ok x) resolver flags told given sums done left =
    let none = none_pending_bare caches world left.bare x.graph left.notes (none_pending_noted caches world done.bare x.graph done.notes done.holds.none_pending) in
    record { bare = left.bare; holds = made_turned told given left.bare (left.holds.0, x.options.jsr_metadata_store, x.questions, left.holds.1) none; notes = left.notes }
made_of caches world (Err e) resolver flags told given sums done left = tt

pub run_turns-requires-clause-none_taken : goal.run_turns-requires-clause-none_taken
run_turns-requires-clause-none_taken g c = ap (λ b. b.turns.taken) c.start-build.ensures.started

pub run_turns-requires-clause-budget : goal.run_turns-requires-clause-budget
run_turns-requires-clause-budget g c = ap (λ b. b.turns.max_loads) c.start-build.ensures.started

pub finished-requires-clause-counted : goal.finished-requires-clause-counted
finished-requires-clause-counted g c = c.in-Ok.ensures.counted.0

pub returns-in-Ok-clause-turned : goal.returns-in-Ok-clause-turned
returns-in-Ok-clause-turned g c = λ told tells npm.
    let world = g.L.LoaderCore.world c.args.recorder.now.inner in
    let graph = c.new-graph.result in
    let given = given_in c.args.input in
    let fresh : graph ≡ new_graph c.args.input.kind = c.new-graph.ensures in
    let most = most_told world told c.max_redirects-max_redirects.result tells.answers c.max_redirects-max_redirects.ensures in
    let made = subst (λ (m : Means). IsTold world m told graph.kind) (ap (λ b. means_in g.S.Analyze.ModuleAnalyzer.infos g.S.Tree.FileTree.paths g.S.Urls.JsrUrlProvider.meaning g.S.Resolve.Resolver.is_told g.S.Resolve.Resolver.meaning b) (sym c.start-build.ensures.started)) (is_told_of world _ _ told graph.kind tells) in
    let goes = c.start-build.ensures.goes_by told (subst HasNoCircle (sym fresh) (new_no_circle c.args.input.kind)) most tells.known_is in
    let same = c.run_turns.ensures.keeps.options ∙ ap (λ b. b.options) c.start-build.ensures.started in
    if_ok_kept c.run_turns.ensures.loader _ _ c.finished.result
    (c.finished.ensures.left told given (ap (npm_in g.S.Npm.NpmResolver.table) same ∙ npm)
    (subst (λ (x : ModuleGraph). GoesBy told x (left_of given) c.run_turns.new.build) fresh (c.in-Ok.ensures.goes.by_world told graph (left_of given) made goes)))

pub returns-in-Ok-clause-kept : goal.returns-in-Ok-clause-kept
returns-in-Ok-clause-kept g c = λ told other tells npm storable kept fits as_many.
    let world = g.L.LoaderCore.world c.args.recorder.now.inner in
    let graph = c.new-graph.result in
    let given = given_in c.args.input in
    let by_kept = answered_by told other in
    let fresh : graph ≡ new_graph c.args.input.kind = c.new-graph.ensures in
    let most = most_told world told c.max_redirects-max_redirects.result tells.answers c.max_redirects-max_redirects.ensures in
    let made = (subst (λ (m : Means). IsTold world m told graph.kind) (ap (λ b. means_in g.S.Analyze.ModuleAnalyzer.infos g.S.Tree.FileTree.paths g.S.Urls.JsrUrlProvider.meaning g.S.Resolve.Resolver.is_told g.S.Resolve.Resolver.meaning b) (sym c.start-build.ensures.started)) (is_told_of world _ _ told graph.kind tells)).meant in
    let meant : IsMeant (means_in g.S.Analyze.ModuleAnalyzer.infos g.S.Tree.FileTree.paths g.S.Urls.JsrUrlProvider.meaning g.S.Resolve.Resolver.is_told g.S.Resolve.Resolver.meaning c.start-build.result) by_kept graph.kind = record { registry_is = made.registry_is; newest_is = made.newest_is; making_is = made.making_is } in
    let goes = c.start-build.ensures.goes_by by_kept (subst HasNoCircle (sym fresh) (new_no_circle c.args.input.kind)) (most ∙ sym as_many) tells.known_is in
    let same = c.run_turns.ensures.keeps.options ∙ ap (λ b. b.options) c.start-build.ensures.started in
    if_ok_kept c.run_turns.ensures.loader _ _ c.finished.result
    (c.finished.ensures.left by_kept given (ap (npm_in g.S.Npm.NpmResolver.table) same ∙ npm)
    (subst (λ (x : ModuleGraph). GoesBy by_kept x (left_of given) c.run_turns.new.build) fresh
    (c.in-Ok.ensures.goes.by_kept told.world by_kept graph (left_of given) tells.answers storable kept meant fits goes)))

pub returns-in-Ok-clause-told : goal.returns-in-Ok-clause-told
returns-in-Ok-clause-told g c = λ kept. on_ok_any c.finished.result _ (c.in-Ok.ensures.goes.entries kept)

pub returns-in-Ok-clause-put : goal.returns-in-Ok-clause-put
returns-in-Ok-clause-put g c =
    let counted = c.in-Ok.ensures.counted in
    if_ok_so c.finished.result _ _ c.finished.ensures.questions
    (λ r same. (subst (λ (n : ℕ). n ≤ c.args.input.options.max_loads) (sym same) counted.1, subst (λ (n : ℕ). IsPut n (g.L.LoaderCore.asked c.args.recorder.now.inner) (g.L.LoaderCore.asked c.run_turns.new.recorder.inner)) (sym same) counted.2))

pub returns-in-Ok-clause-options : goal.returns-in-Ok-clause-options
returns-in-Ok-clause-options g c =
    if_ok_so c.finished.result _ _ c.finished.ensures.options
    (λ r same. same ∙ ap without_locker (c.run_turns.ensures.keeps.options ∙ ap (λ b. b.options) c.start-build.ensures.started))

pub returns-in-Err-clause-budget : goal.returns-in-Err-clause-budget
returns-in-Err-clause-budget g c = c.in-Err.ensures.over

pub returns-in-Ok-clause-budget : goal.returns-in-Ok-clause-budget
returns-in-Ok-clause-budget g c = err_so c.finished.result _ _ c.finished.ensures.memory (λ f is other. absurd (let both = sym is ∙ other in cc))

pub returns-in-Ok-clause-allowed : goal.returns-in-Ok-clause-allowed
returns-in-Ok-clause-allowed g c = err_so c.finished.result _ _ c.finished.ensures.memory (λ f is other. absurd (let both = sym is ∙ other in cc))

pub returns-in-Ok-clause-failed : goal.returns-in-Ok-clause-failed
returns-in-Ok-clause-failed g c = err_so c.finished.result _ _ c.finished.ensures.memory (λ f is other. absurd (let both = sym is ∙ other in cc))

-- the build that was begun, by the loader's world
pub returns-in-Ok-clause-redirects : goal.returns-in-Ok-clause-redirects
returns-in-Ok-clause-redirects g c = λ told tells.
    let world = g.L.LoaderCore.world c.args.recorder.now.inner in
    let most = most_told world told c.max_redirects-max_redirects.result tells.answers c.max_redirects-max_redirects.ensures in
    if_ok_so c.finished.result _ _ c.finished.ensures.redirects (λ r same. same ∙ most)

pub returns-in-Ok-clause-about : goal.returns-in-Ok-clause-about
returns-in-Ok-clause-about g c = λ told tells about.
    let world = g.L.LoaderCore.world c.args.recorder.now.inner in
    let graph = c.new-graph.result in
    let given = given_in c.args.input in
    let fresh : graph ≡ new_graph c.args.input.kind = c.new-graph.ensures in
    let most = most_told world told c.max_redirects-max_redirects.result tells.answers c.max_redirects-max_redirects.ensures in
    let made = subst (λ (m : Means). IsTold world m told graph.kind) (ap (λ b. means_in g.S.Analyze.ModuleAnalyzer.infos g.S.Tree.FileTree.paths g.S.Urls.JsrUrlProvider.meaning g.S.Resolve.Resolver.is_told g.S.Resolve.Resolver.meaning b) (sym c.start-build.ensures.started)) (is_told_of world _ _ told graph.kind tells) in
    let goes = c.start-build.ensures.goes_by told (subst HasNoCircle (sym fresh) (new_no_circle c.args.input.kind)) most tells.known_is in
    let none = subst (AreReached told graph (left_of given)) (sym c.requires.closed) tt in
    let kept = c.in-Ok.ensures.reached told graph (left_of given) made goes none (subst (λ (x : ModuleGraph). AreAbout told x (left_of given) (entries_in c.args.recorder.now.store)) (sym fresh) about) in
    on_ok_any c.finished.result _ (subst (λ (x : ModuleGraph). AreAbout told x (left_of given) (entries_in c.run_turns.new.recorder.store)) fresh kept.1)

pub returns-in-Ok-clause-complete : goal.returns-in-Ok-clause-complete
returns-in-Ok-clause-complete g c =
    let b = c.start-build.result in
    let graph = c.new-graph.result in
    let given = given_in c.args.input in
    let fresh : graph ≡ new_graph c.args.input.kind = c.new-graph.ensures in
    let directions = directions_in g.S.Urls.JsrUrlProvider.meaning g.S.Resolve.Resolver.is_told g.S.Resolve.Resolver.meaning b in
    let resolver = (telling_of g.S.Analyze.ModuleAnalyzer.infos g.S.Tree.FileTree.paths g.S.Urls.JsrUrlProvider.meaning g.S.Resolve.Resolver.is_told g.S.Resolve.Resolver.meaning c.args.input.options).resolving in
    let same : directions.resolving ≡ resolver = ap (λ x. resolving_in g.S.Urls.JsrUrlProvider.meaning g.S.Resolve.Resolver.is_told g.S.Resolve.Resolver.meaning x) c.start-build.ensures.started in
    let flags : c.run_turns.new.build.turns.known.flags ≡ flags_of c.args.input.options = ap (λ (k : Known). k.flags) c.run_turns.ensures.keeps.known ∙ ap (λ x. x.turns.known.flags) c.start-build.ensures.started in
    let on = subst (λ (x : ModuleGraph). BuildsOn directions x (left_of given) c.run_turns.new.build) fresh
    (c.in-Ok.ensures.builds graph (left_of given) (c.start-build.ensures.builds_on directions (subst HasNoCircle (sym fresh) (new_no_circle c.args.input.kind)))) in
    complete_as _ _ c.finished.result directions.resolving resolver c.run_turns.new.build.turns.known.flags (flags_of c.args.input.options) given same flags (if_ok_kept c.run_turns.ensures.loader _ _ c.finished.result (c.finished.ensures.complete directions given on))

pub returns-in-Ok-clause-explained : goal.returns-in-Ok-clause-explained
returns-in-Ok-clause-explained g c = λ told tells npm. made_of _ _ c.finished.result _ _ told (given_in c.args.input) (λ o. sums_in g.S.Lock.Locker.remote o) (returns-in-Ok-clause-complete g c) (returns-in-Ok-clause-turned g c told tells npm)

pub returns-in-Ok-clause-static_first : goal.returns-in-Ok-clause-static_first
returns-in-Ok-clause-static_first g c = λ told tells settled.
    let world = g.L.LoaderCore.world c.args.recorder.now.inner in
    let graph = c.new-graph.result in
    let given = given_in c.args.input in
    let fresh : graph ≡ new_graph c.args.input.kind = c.new-graph.ensures in
    let most = most_told world told c.max_redirects-max_redirects.result tells.answers c.max_redirects-max_redirects.ensures in
    let made = subst (λ (m : Means). IsTold world m told graph.kind) (ap (λ b. means_in g.S.Analyze.ModuleAnalyzer.infos g.S.Tree.FileTree.paths g.S.Urls.JsrUrlProvider.meaning g.S.Resolve.Resolver.is_told g.S.Resolve.Resolver.meaning b) (sym c.start-build.ensures.started)) (is_told_of world _ _ told graph.kind tells) in
    let goes = c.start-build.ensures.goes_by told (subst HasNoCircle (sym fresh) (new_no_circle c.args.input.kind)) most tells.known_is in
    if_ok_kept c.run_turns.ensures.loader _ _ c.finished.result
    (c.finished.ensures.static_first told given (subst (λ (x : ModuleGraph). GoesBy told x (left_of given) c.run_turns.new.build) fresh (c.in-Ok.ensures.goes.by_world told graph (left_of given) made goes)) settled)

pub returns-in-Ok-clause-room : goal.returns-in-Ok-clause-room
returns-in-Ok-clause-room g c = λ told questions tells covers within. err_so c.finished.result _ _ c.finished.ensures.memory (λ f is other. absurd (let both = sym is ∙ other in cc))

pub returns-in-Err-clause-room : goal.returns-in-Err-clause-room
returns-in-Err-clause-room g c = λ told questions tells covers within.
    let world = g.L.LoaderCore.world c.args.recorder.now.inner in
    let graph = c.new-graph.result in
    let given = given_in c.args.input in
    let fresh : graph ≡ new_graph c.args.input.kind = c.new-graph.ensures in
    let most = most_told world told c.max_redirects-max_redirects.result tells.answers c.max_redirects-max_redirects.ensures in
    let made = subst (λ (m : Means). IsTold world m told graph.kind) (ap (λ b. means_in g.S.Analyze.ModuleAnalyzer.infos g.S.Tree.FileTree.paths g.S.Urls.JsrUrlProvider.meaning g.S.Resolve.Resolver.is_told g.S.Resolve.Resolver.meaning b) (sym c.start-build.ensures.started)) (is_told_of world _ _ told graph.kind tells) in
    let goes = c.start-build.ensures.goes_by told (subst HasNoCircle (sym fresh) (new_no_circle c.args.input.kind)) most tells.known_is in
    c.in-Err.ensures.room told graph (left_of given) questions made goes (subst (λ (x : ModuleGraph). CoversRuns told x (left_of given) questions) (sym fresh) covers)
    (subst (λ (n : ℕ). enough graph (left_of given) questions ≤ n) (sym (ap (λ b. b.turns.max_loads) c.start-build.ensures.started)) (subst (λ (x : ModuleGraph). enough x (left_of given) questions ≤ c.args.input.options.max_loads) (sym fresh) within))
