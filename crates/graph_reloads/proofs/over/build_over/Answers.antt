use Rattle.std.proofs.Common.{Bool, ◌≡◌, ◌≤◌, ◌∙◌, ℕ, List, length, Option, sym, ap, subst, refl}
use Rattle.std.specs.Prelude.{OnOk, Result, Ok, Err}
use Rattle.std.specs.List.{All}
use Rattle.url.specs.Parts.{Parts}
use Rattle.source_io.specs.Tickets.{IsPut}
use Rattle.graph_turns.specs.declared.flags.Flags.{Flags}
use Rattle.build_options.specs.Telling.{flags_of, known_in, npm_in, telling_of, without_locker}
use Rattle.source_io.specs.declared.types.World.{World}
use Rattle.cache_filling.specs.Noted.{Noted}
use Rattle.open_loads.specs.Order.Means.{IsTold, Means}
use Rattle.graph_turns.specs.Promise.Told.{Told}
use Rattle.graph_core.specs.declared.graph.ModuleGraph.{ModuleGraph}
use Rattle.registry_urls.specs.Meaning.{RegistryMeaning}
use Rattle.turn_laws.specs.Promise.Complete.{NonePending}
use Rattle.turn_laws.specs.Budget.Covers.{CoversFrom}
use Rattle.graph_turns.specs.Promise.Explains.{LearnsSources}
use Rattle.graph_turns.specs.Machine.Known.{Known}
use Rattle.source_sums.specs.Sums.{KnownSums}
use Rattle.graph_builder.specs.Calls.Steps.{given_graph}
use Rattle.graph_builder.specs.Calls.Makers.{means_by, means_in}
use Rattle.module_slots.specs.declared.load.Load.{Load}
use Rattle.graph_turns.specs.Machine.Entering.{begun_at}
use Rattle.graph_builder.specs.Calls.Over.{IsLeftBy, IsMended, entered}
use Rattle.graph_turns.specs.Machine.Turns.{PutsWithin, TellsTurns}
use Rattle.turn_laws.specs.Budget.Asked.{AsksOnce}
use Rattle.graph_builder.proofs.Calls.Started.{matches_none, started_as}
use Rattle.turn_laws.proofs.Promise.Taught.{kept_as}
use Rattle.graph_builder.proofs.Calls.Driven.{err_both, err_so, on_ok_so, some_so}
use Rattle.graph_builder.proofs.Calls.Copies.{noted_tells}
use Rattle.graph_builder.proofs.Calls.Spending.{entered_over}
use Rattle.open_loads.specs.Budget.Runs.{IsOver}
use Rattle.graph_builder.proofs.Calls.Learned.{versions_in_as}
use Rattle.open_loads.proofs.Order.KeptStores.{store_as}
use Rattle.graph_builder.proofs.Calls.Keeps.{still_as}
use Rattle.graph_builder.proofs.Calls.Meant.{is_told_of}
use Rattle.graph_builder.proofs.Budget.Ran.{most_told, memory_left}
use Rattle.graph_turns.specs.Promise.Runs.{IsGrownBy}
use Rattle.metadata_store.specs.declared.store.JsrMetadataStore.{JsrMetadataStore}
use Rattle.source_sums.specs.Manifests.{KnownManifests}
use Rattle.open_loads.specs.Taught.{LearnsVersionsIn}
use Rattle.graph_turns.specs.Machine.Runs.{told_for}
use Rattle.graph_turns.specs.declared.run.Run.TheVariants.{Only}
use Rattle.graph_reloads.proofs.over.build_over.Goals as goal

module _ (due : List Load) where
  -- what is left, by another name
  left_as : {T E : Type 0} (caches : Bool) (world : Option World) (r : Result T E) (own_flags flags : Flags) (x y g h : ModuleGraph) → own_flags ≡ flags → x ≡ y → h ≡ g → OnOk r (Noted caches world (IsLeftBy own_flags (entered x due)) g) → OnOk r (Noted caches world (IsLeftBy flags (entered y due)) h)
  left_as caches world r own_flags flags x y g h same_flags kept is done =
      subst (λ (f : Flags). OnOk r (Noted caches world (IsLeftBy f (entered y due)) h)) same_flags
      (subst (λ (z : ModuleGraph). OnOk r (Noted caches world (IsLeftBy own_flags (entered y due)) z)) (sym is) (subst (λ (z : ModuleGraph). OnOk r (Noted caches world (IsLeftBy own_flags (entered z due)) g)) kept done))

  grown_as : {T E : Type 0} (caches : Bool) (world : Option World) (r : Result T E) (w : Told) (x y g h : ModuleGraph) → x ≡ y → h ≡ g → OnOk r (Noted caches world (λ bare. IsGrownBy bare (told_for w Only) (entered x due)) g) → OnOk r (Noted caches world (λ bare. IsGrownBy bare (told_for w Only) (entered y due)) h)
  grown_as caches world r w x y g h kept is done =
      subst (λ (z : ModuleGraph). OnOk r (Noted caches world (λ bare. IsGrownBy bare (told_for w Only) (entered y due)) z)) (sym is) (subst (λ (z : ModuleGraph). OnOk r (Noted caches world (λ bare. IsGrownBy bare (told_for w Only) (entered z due)) g)) kept done)

  turned_as : {T E : Type 0} (caches : Bool) (world : Option World) (r : Result T E) (w : Told) (x y g h : ModuleGraph) (known : Option KnownSums) (store : Option JsrMetadataStore) (before now : ℕ) → x ≡ y → h ≡ g → OnOk r (Noted caches world (λ bare. TellsTurns w x.kind (begun_at w.known (entered x due)) bare known store before now) g) → OnOk r (Noted caches world (λ bare. TellsTurns w y.kind (begun_at w.known (entered y due)) bare known store before now) h)
  turned_as caches world r w x y g h known store before now kept is done =
      subst (λ (z : ModuleGraph). OnOk r (Noted caches world (λ bare. TellsTurns w y.kind (begun_at w.known (entered y due)) bare known store before now) z)) (sym is)
      (subst (λ (z : ModuleGraph). OnOk r (Noted caches world (λ bare. TellsTurns w z.kind (begun_at w.known (entered z due)) bare known store before now) g)) kept done)

  sources_as : (w : Told) (x y : ModuleGraph) (now new : Option KnownSums) → x ≡ y → new ≡ now → LearnsSources (told_for w Only) (entered x due) now → LearnsSources (told_for w Only) (entered y due) new
  sources_as w x y now new kept is done =
      subst (λ (z : ModuleGraph). LearnsSources (told_for w Only) (entered z due) new) kept
      (subst (LearnsSources (told_for w Only) (entered x due)) (sym is) done)

  -- a budget that is passed, by other names
  over_as : (told : Option World) (most own_most : ℕ) (known own_known : Known) (means own_means : Means) (g own : ModuleGraph) (budget own_budget : ℕ) → most ≡ own_most → known ≡ own_known → means ≡ own_means → g ≡ own → budget ≡ own_budget → IsOver most known told means (begun_at known (entered g due)) budget → IsOver own_most own_known told own_means (begun_at own_known (entered own due)) own_budget
  over_as told most own_most known own_known means own_means g own budget own_budget redirects same meant at most_is over =
      subst (λ (n : ℕ). IsOver own_most own_known told own_means (begun_at own_known (entered own due)) n) most_is
      (subst (λ (x : ModuleGraph). IsOver own_most own_known told own_means (begun_at own_known (entered x due)) budget) at
      (subst (λ (m : Means). IsOver own_most own_known told m (begun_at own_known (entered g due)) budget) meant
      (subst (λ (k : Known). IsOver own_most k told means (begun_at k (entered g due)) budget) same
      (subst (λ (n : ℕ). IsOver n known told means (begun_at known (entered g due)) budget) redirects over))))

  entry_as : (w : Told) (x y : ModuleGraph) (old new : Option KnownManifests) → x ≡ y → LearnsVersionsIn (told_for w Only) (entered x due) old new → LearnsVersionsIn (told_for w Only) (entered y due) old new
  entry_as w x y old new kept done = subst (λ (z : ModuleGraph). LearnsVersionsIn (told_for w Only) (entered z due) old new) kept done

-- a build that begins has put no question
pub run_over-done-requires-clause-matches : goal.run_over-done-requires-clause-matches
run_over-done-requires-clause-matches g c = matches_none _ c.start-build.result.turns c.requires.closed (ap (λ b. b.turns.taken) c.start-build.ensures.started)

pub returns-clause-complete : goal.returns-clause-complete
returns-clause-complete g c = λ mended settled.
    let r = c.run_over-done.result in
    let at : c.start-build.result.turns.state.graph ≡ c.args.graph.now = ap (λ b. b.turns.state.graph) c.start-build.ensures.started ∙ c.replace-own_graph.ensures.value in
    let done = c.run_over-done.ensures.complete (subst (λ (x : ModuleGraph). IsMended (entered x c.args.loads.items)) (sym at) mended) (subst NonePending (sym at) settled) in
    left_as c.args.loads.items _ _ r c.start-build.result.turns.known.flags (flags_of c.args.options.now) c.start-build.result.turns.state.graph c.args.graph.now _ _ (ap (λ b. b.turns.known.flags) (started_as g.S.Lock.Locker.remote g.S.Lock.Locker.manifests c.replace-own_graph.result _ _ c.max_redirects-max_redirects.result c.take-own.result c.args.options.now c.start-build.result c.take-own.ensures c.start-build.ensures.started)) at c.give_back.ensures.graph done

pub returns-clause-explained : goal.returns-clause-explained
returns-clause-explained g c = λ mended settled w tells npm.
    let r = c.run_over-done.result in
    let told = g.L.LoaderCore.world c.args.loader.now in
    let is = started_as g.S.Lock.Locker.remote g.S.Lock.Locker.manifests c.replace-own_graph.result _ _ c.max_redirects-max_redirects.result c.take-own.result c.args.options.now c.start-build.result c.take-own.ensures c.start-build.ensures.started in
    let kind = c.replace-own_graph.result.kind in
    let at : c.start-build.result.turns.state.graph ≡ c.args.graph.now = ap (λ b. b.turns.state.graph) is ∙ c.replace-own_graph.ensures.value in
    let most = ap (λ b. b.turns.redirects) is ∙ most_told told w c.max_redirects-max_redirects.result tells.answers c.max_redirects-max_redirects.ensures in
    let known = ap (λ b. b.turns.known) is ∙ tells.known_is in
    let made = subst (λ (m : Means). IsTold told m w kind) (ap (λ b. means_in g.S.Analyze.ModuleAnalyzer.infos g.S.Tree.FileTree.paths g.S.Urls.JsrUrlProvider.meaning g.S.Resolve.Resolver.is_told g.S.Resolve.Resolver.meaning b) (sym is)) (is_told_of told _ _ w kind tells) in
    let here = subst (λ (x : ModuleGraph). IsTold told (means_in g.S.Analyze.ModuleAnalyzer.infos g.S.Tree.FileTree.paths g.S.Urls.JsrUrlProvider.meaning g.S.Resolve.Resolver.is_told g.S.Resolve.Resolver.meaning c.start-build.result) w x.kind) (ap (λ b. b.turns.state.graph) (sym is)) made in
    let done = c.run_over-done.ensures.explained w here (ap (λ b. npm_in g.S.Npm.NpmResolver.table b.options) is ∙ npm) most known (subst (λ (x : ModuleGraph). IsMended (entered x c.args.loads.items)) (sym at) mended) (subst NonePending (sym at) settled) in
    grown_as c.args.loads.items _ _ r w c.start-build.result.turns.state.graph c.args.graph.now _ _ at c.give_back.ensures.graph done

pub returns-clause-turned : goal.returns-clause-turned
returns-clause-turned g c = λ w tells npm.
    let r = c.run_over-done.result in
    let told = g.L.LoaderCore.world c.args.loader.now in
    let is = started_as g.S.Lock.Locker.remote g.S.Lock.Locker.manifests c.replace-own_graph.result _ _ c.max_redirects-max_redirects.result c.take-own.result c.args.options.now c.start-build.result c.take-own.ensures c.start-build.ensures.started in
    let kind = c.replace-own_graph.result.kind in
    let at : c.start-build.result.turns.state.graph ≡ c.args.graph.now = ap (λ b. b.turns.state.graph) is ∙ c.replace-own_graph.ensures.value in
    let most = ap (λ b. b.turns.redirects) is ∙ most_told told w c.max_redirects-max_redirects.result tells.answers c.max_redirects-max_redirects.ensures in
    let known = ap (λ b. b.turns.known) is ∙ tells.known_is in
    let made = subst (λ (m : Means). IsTold told m w kind) (ap (λ b. means_in g.S.Analyze.ModuleAnalyzer.infos g.S.Tree.FileTree.paths g.S.Urls.JsrUrlProvider.meaning g.S.Resolve.Resolver.is_told g.S.Resolve.Resolver.meaning b) (sym is)) (is_told_of told _ _ w kind tells) in
    let here = subst (λ (x : ModuleGraph). IsTold told (means_in g.S.Analyze.ModuleAnalyzer.infos g.S.Tree.FileTree.paths g.S.Urls.JsrUrlProvider.meaning g.S.Resolve.Resolver.is_told g.S.Resolve.Resolver.meaning c.start-build.result) w x.kind) (ap (λ b. b.turns.state.graph) (sym is)) made in
    turned_as c.args.loads.items _ _ r w c.start-build.result.turns.state.graph c.args.graph.now _ _ _ _ _ _ at c.give_back.ensures.graph
    (noted_tells _ _ r _ _ _ _ _ (ap (λ (k : Known). k.sums) known) c.give_back.ensures.locker w c.start-build.result.turns.state.graph.kind (begun_at w.known (entered c.start-build.result.turns.state.graph c.args.loads.items)) _ _ _ _ _ refl c.give_back.ensures.store
    (c.run_over-done.ensures.turned w here (ap (λ b. npm_in g.S.Npm.NpmResolver.table b.options) is ∙ npm) most known) c.run_over-done.ensures.taught)

pub returns-clause-afforded : goal.returns-clause-afforded
returns-clause-afforded g c = λ w tells.
    let r = c.run_over-done.result in
    let told = g.L.LoaderCore.world c.args.loader.now in
    let is = started_as g.S.Lock.Locker.remote g.S.Lock.Locker.manifests c.replace-own_graph.result _ _ c.max_redirects-max_redirects.result c.take-own.result c.args.options.now c.start-build.result c.take-own.ensures c.start-build.ensures.started in
    let kind = c.replace-own_graph.result.kind in
    let at : c.start-build.result.turns.state.graph ≡ c.args.graph.now = ap (λ b. b.turns.state.graph) is ∙ c.replace-own_graph.ensures.value in
    let most = ap (λ b. b.turns.redirects) is ∙ most_told told w c.max_redirects-max_redirects.result tells.answers c.max_redirects-max_redirects.ensures in
    let known = ap (λ b. b.turns.known) is ∙ tells.known_is in
    let made = subst (λ (m : Means). IsTold told m w kind) (ap (λ b. means_in g.S.Analyze.ModuleAnalyzer.infos g.S.Tree.FileTree.paths g.S.Urls.JsrUrlProvider.meaning g.S.Resolve.Resolver.is_told g.S.Resolve.Resolver.meaning b) (sym is)) (is_told_of told _ _ w kind tells) in
    let here = subst (λ (x : ModuleGraph). IsTold told (means_in g.S.Analyze.ModuleAnalyzer.infos g.S.Tree.FileTree.paths g.S.Urls.JsrUrlProvider.meaning g.S.Resolve.Resolver.is_told g.S.Resolve.Resolver.meaning c.start-build.result) w x.kind) (ap (λ b. b.turns.state.graph) (sym is)) made in
    let budget : c.start-build.result.turns.max_loads ≡ c.args.options.now.max_loads = ap (λ b. b.turns.max_loads) is in
    on_ok_so r _ _ (c.run_over-done.ensures.afforded w here most known)
    (λ within. subst (λ (n : ℕ). PutsWithin w c.args.graph.now.kind (begun_at w.known (entered c.args.graph.now c.args.loads.items)) n) budget
    (subst (λ (x : ModuleGraph). PutsWithin w x.kind (begun_at w.known (entered x c.args.loads.items)) c.start-build.result.turns.max_loads) at within))

pub returns-clause-sources : goal.returns-clause-sources
returns-clause-sources g c = λ w tells.
    let r = c.run_over-done.result in
    let told = g.L.LoaderCore.world c.args.loader.now in
    let is = started_as g.S.Lock.Locker.remote g.S.Lock.Locker.manifests c.replace-own_graph.result _ _ c.max_redirects-max_redirects.result c.take-own.result c.args.options.now c.start-build.result c.take-own.ensures c.start-build.ensures.started in
    let kind = c.replace-own_graph.result.kind in
    let at : c.start-build.result.turns.state.graph ≡ c.args.graph.now = ap (λ b. b.turns.state.graph) is ∙ c.replace-own_graph.ensures.value in
    let most = ap (λ b. b.turns.redirects) is ∙ most_told told w c.max_redirects-max_redirects.result tells.answers c.max_redirects-max_redirects.ensures in
    let known = ap (λ b. b.turns.known) is ∙ tells.known_is in
    let made = subst (λ (m : Means). IsTold told m w kind) (ap (λ b. means_in g.S.Analyze.ModuleAnalyzer.infos g.S.Tree.FileTree.paths g.S.Urls.JsrUrlProvider.meaning g.S.Resolve.Resolver.is_told g.S.Resolve.Resolver.meaning b) (sym is)) (is_told_of told _ _ w kind tells) in
    let here = subst (λ (x : ModuleGraph). IsTold told (means_in g.S.Analyze.ModuleAnalyzer.infos g.S.Tree.FileTree.paths g.S.Urls.JsrUrlProvider.meaning g.S.Resolve.Resolver.is_told g.S.Resolve.Resolver.meaning c.start-build.result) w x.kind) (ap (λ b. b.turns.state.graph) (sym is)) made in
    sources_as c.args.loads.items w c.start-build.result.turns.state.graph c.args.graph.now _ _ at c.give_back.ensures.locker (c.run_over-done.ensures.sources w here most known)

pub returns-clause-unlearned : goal.returns-clause-unlearned
returns-clause-unlearned g c =
    let is = started_as g.S.Lock.Locker.remote g.S.Lock.Locker.manifests c.replace-own_graph.result _ _ c.max_redirects-max_redirects.result c.take-own.result c.args.options.now c.start-build.result c.take-own.ensures c.start-build.ensures.started in
    err_so c.run_over-done.result _ _ c.run_over-done.ensures.unlearned
    (λ f same other. (
      c.give_back.ensures.locker ∙ ap (λ (k : Known). k.sums) (same other) ∙ ap (λ b. b.turns.known.sums) is,
      c.give_back.ensures.manifests ∙ ap (λ (k : Known). k.manifests) (same other) ∙ ap (λ b. b.turns.known.manifests) is,
    ))

pub returns-clause-over : goal.returns-clause-over
returns-clause-over g c =
    let told = g.L.LoaderCore.world c.args.loader.now in
    let is = started_as g.S.Lock.Locker.remote g.S.Lock.Locker.manifests c.replace-own_graph.result _ _ c.max_redirects-max_redirects.result c.take-own.result c.args.options.now c.start-build.result c.take-own.ensures c.start-build.ensures.started in
    let options = c.args.options.now in
    let telling = telling_of g.S.Analyze.ModuleAnalyzer.infos g.S.Tree.FileTree.paths g.S.Urls.JsrUrlProvider.meaning g.S.Resolve.Resolver.is_told g.S.Resolve.Resolver.meaning options in
    let kept = c.replace-own_graph.ensures.value in
    let same = ap (λ b. means_in g.S.Analyze.ModuleAnalyzer.infos g.S.Tree.FileTree.paths g.S.Urls.JsrUrlProvider.meaning g.S.Resolve.Resolver.is_told g.S.Resolve.Resolver.meaning b) is ∙ ap (λ (x : ModuleGraph). means_by telling (flags_of options) x.kind) kept in
    err_so c.run_over-done.result _ _ c.run_over-done.ensures.over
    (λ f over budget. (
      c.max_redirects-max_redirects.result,
      over_as c.args.loads.items told _ _ _ _ _ _ _ _ _ _ (ap (λ b. b.turns.redirects) is) (ap (λ b. b.turns.known) is) same (ap (λ b. b.turns.state.graph) is ∙ kept) (ap (λ b. b.turns.max_loads) is) (over budget),
    ))

pub returns-clause-over_told : goal.returns-clause-over_told
returns-clause-over_told g c =
    let told = g.L.LoaderCore.world c.args.loader.now in
    let is = started_as g.S.Lock.Locker.remote g.S.Lock.Locker.manifests c.replace-own_graph.result _ _ c.max_redirects-max_redirects.result c.take-own.result c.args.options.now c.start-build.result c.take-own.ensures c.start-build.ensures.started in
    let options = c.args.options.now in
    let known = known_in g.S.Lock.Locker.remote g.S.Lock.Locker.manifests options in
    let telling = telling_of g.S.Analyze.ModuleAnalyzer.infos g.S.Tree.FileTree.paths g.S.Urls.JsrUrlProvider.meaning g.S.Resolve.Resolver.is_told g.S.Resolve.Resolver.meaning options in
    let means = means_by telling (flags_of options) c.args.graph.now.kind in
    let kept = c.replace-own_graph.ensures.value in
    let same = ap (λ b. means_in g.S.Analyze.ModuleAnalyzer.infos g.S.Tree.FileTree.paths g.S.Urls.JsrUrlProvider.meaning g.S.Resolve.Resolver.is_told g.S.Resolve.Resolver.meaning b) is ∙ ap (λ (x : ModuleGraph). means_by telling (flags_of options) x.kind) kept in
    err_so c.run_over-done.result _ _ c.run_over-done.ensures.over
    (λ f over budget.
    some_so told _ _ c.max_redirects-max_redirects.ensures
    (λ w most. subst (λ (n : ℕ). IsOver n known told means (begun_at known (entered c.args.graph.now c.args.loads.items)) options.max_loads) most
    (over_as c.args.loads.items told _ _ _ _ _ _ _ _ _ _ (ap (λ b. b.turns.redirects) is) (ap (λ b. b.turns.known) is) same (ap (λ b. b.turns.state.graph) is ∙ kept) (ap (λ b. b.turns.max_loads) is) (over budget))))

pub returns-clause-overspent : goal.returns-clause-overspent
returns-clause-overspent g c = λ w tells.
    let told = g.L.LoaderCore.world c.args.loader.now in
    let is = started_as g.S.Lock.Locker.remote g.S.Lock.Locker.manifests c.replace-own_graph.result _ _ c.max_redirects-max_redirects.result c.take-own.result c.args.options.now c.start-build.result c.take-own.ensures c.start-build.ensures.started in
    let options = c.args.options.now in
    let known = known_in g.S.Lock.Locker.remote g.S.Lock.Locker.manifests options in
    let telling = telling_of g.S.Analyze.ModuleAnalyzer.infos g.S.Tree.FileTree.paths g.S.Urls.JsrUrlProvider.meaning g.S.Resolve.Resolver.is_told g.S.Resolve.Resolver.meaning options in
    let means = means_by telling (flags_of options) c.args.graph.now.kind in
    let kept = c.replace-own_graph.ensures.value in
    let same = ap (λ b. means_in g.S.Analyze.ModuleAnalyzer.infos g.S.Tree.FileTree.paths g.S.Urls.JsrUrlProvider.meaning g.S.Resolve.Resolver.is_told g.S.Resolve.Resolver.meaning b) is ∙ ap (λ (x : ModuleGraph). means_by telling (flags_of options) x.kind) kept in
    let kind = c.args.graph.now.kind in
    let most = most_told told w c.max_redirects-max_redirects.result tells.answers c.max_redirects-max_redirects.ensures in
    let made : IsTold told means w kind = is_told_of told telling known w kind tells in
    err_so c.run_over-done.result _ _ c.run_over-done.ensures.over
    (λ f over budget.
    let at : IsOver c.max_redirects-max_redirects.result known told means (begun_at known (entered c.args.graph.now c.args.loads.items)) options.max_loads = over_as c.args.loads.items told _ _ _ _ _ _ _ _ _ _ (ap (λ b. b.turns.redirects) is) (ap (λ b. b.turns.known) is) same (ap (λ b. b.turns.state.graph) is ∙ kept) (ap (λ b. b.turns.max_loads) is) (over budget) in
    entered_over told means w kind made known c.max_redirects-max_redirects.result options.max_loads tells.known_is most c.args.graph.now c.args.loads.items c.requires.outset at)

pub returns-clause-versions : goal.returns-clause-versions
returns-clause-versions g c = λ w tells.
    let r = c.run_over-done.result in
    let told = g.L.LoaderCore.world c.args.loader.now in
    let is = started_as g.S.Lock.Locker.remote g.S.Lock.Locker.manifests c.replace-own_graph.result _ _ c.max_redirects-max_redirects.result c.take-own.result c.args.options.now c.start-build.result c.take-own.ensures c.start-build.ensures.started in
    let kind = c.replace-own_graph.result.kind in
    let at : c.start-build.result.turns.state.graph ≡ c.args.graph.now = ap (λ b. b.turns.state.graph) is ∙ c.replace-own_graph.ensures.value in
    let most = ap (λ b. b.turns.redirects) is ∙ most_told told w c.max_redirects-max_redirects.result tells.answers c.max_redirects-max_redirects.ensures in
    let known = ap (λ b. b.turns.known) is ∙ tells.known_is in
    let made = subst (λ (m : Means). IsTold told m w kind) (ap (λ b. means_in g.S.Analyze.ModuleAnalyzer.infos g.S.Tree.FileTree.paths g.S.Urls.JsrUrlProvider.meaning g.S.Resolve.Resolver.is_told g.S.Resolve.Resolver.meaning b) (sym is)) (is_told_of told _ _ w kind tells) in
    let here = subst (λ (x : ModuleGraph). IsTold told (means_in g.S.Analyze.ModuleAnalyzer.infos g.S.Tree.FileTree.paths g.S.Urls.JsrUrlProvider.meaning g.S.Resolve.Resolver.is_told g.S.Resolve.Resolver.meaning c.start-build.result) w x.kind) (ap (λ b. b.turns.state.graph) (sym is)) made in
    on_ok_so r _ _ (c.run_over-done.ensures.versions w here most known)
    (λ learns. versions_in_as (told_for w Only) (entered c.args.graph.now c.args.loads.items) _ _ c.start-build.result.turns.known.manifests c.run_over-done.new.build.turns.known.manifests (ap (λ b. b.turns.known.manifests) is) c.give_back.ensures.manifests
    (entry_as c.args.loads.items w c.start-build.result.turns.state.graph c.args.graph.now _ _ at learns))

pub returns-clause-store : goal.returns-clause-store
returns-clause-store g c = store_as _ _ _ _ (ap (λ b. b.turns.known.store) (started_as g.S.Lock.Locker.remote g.S.Lock.Locker.manifests c.replace-own_graph.result _ _ c.max_redirects-max_redirects.result c.take-own.result c.args.options.now c.start-build.result c.take-own.ensures c.start-build.ensures.started)) c.give_back.ensures.store c.run_over-done.ensures.store

pub returns-clause-manifests_kept : goal.returns-clause-manifests_kept
returns-clause-manifests_kept g c =
    still_as _ _ c.start-build.result.turns.known.manifests c.run_over-done.new.build.turns.known.manifests (ap (λ b. b.turns.known.manifests) (started_as g.S.Lock.Locker.remote g.S.Lock.Locker.manifests c.replace-own_graph.result _ _ c.max_redirects-max_redirects.result c.take-own.result c.args.options.now c.start-build.result c.take-own.ensures c.start-build.ensures.started)) c.give_back.ensures.manifests c.run_over-done.ensures.manifests_kept

pub returns-clause-locker : goal.returns-clause-locker
returns-clause-locker g c =
    kept_as _ _ _ _ (ap (λ b. b.turns.known.sums) (started_as g.S.Lock.Locker.remote g.S.Lock.Locker.manifests c.replace-own_graph.result _ _ c.max_redirects-max_redirects.result c.take-own.result c.args.options.now c.start-build.result c.take-own.ensures c.start-build.ensures.started)) c.give_back.ensures.locker c.run_over-done.ensures.kept

pub returns-clause-asks_once : goal.returns-clause-asks_once
returns-clause-asks_once g c = λ mended.
    let at : c.start-build.result.turns.state.graph ≡ c.args.graph.now = ap (λ b. b.turns.state.graph) c.start-build.ensures.started ∙ c.replace-own_graph.ensures.value in
    let done = c.run_over-done.ensures.asks (subst (λ (x : ModuleGraph). IsMended (entered x c.args.loads.items)) (sym at) mended) in
    subst (λ (x : ModuleGraph). OnOk c.run_over-done.result (Noted (g.L.LoaderCore.caches c.args.loader.now) (g.L.LoaderCore.world c.args.loader.now) (λ bare. AsksOnce (g.S.Urls.JsrUrlProvider.meaning c.args.options.now.jsr_url_provider.now) bare (g.L.LoaderCore.asked c.args.loader.now) (g.L.LoaderCore.asked c.run_over-done.new.loader)) x)) (sym c.give_back.ensures.graph)
    (subst (λ (r : RegistryMeaning). OnOk c.run_over-done.result (Noted (g.L.LoaderCore.caches c.args.loader.now) (g.L.LoaderCore.world c.args.loader.now) (λ bare. AsksOnce r bare (g.L.LoaderCore.asked c.args.loader.now) (g.L.LoaderCore.asked c.run_over-done.new.loader)) (given_graph c.run_over-done.new.build))) (ap (λ b. g.S.Urls.JsrUrlProvider.meaning b.options.jsr_url_provider.now) (started_as g.S.Lock.Locker.remote g.S.Lock.Locker.manifests c.replace-own_graph.result _ _ c.max_redirects-max_redirects.result c.take-own.result c.args.options.now c.start-build.result c.take-own.ensures c.start-build.ensures.started)) done)

pub returns-clause-room : goal.returns-clause-room
returns-clause-room g c = λ mended w questions tells covers enough.
    let told = g.L.LoaderCore.world c.args.loader.now in
    let is = started_as g.S.Lock.Locker.remote g.S.Lock.Locker.manifests c.replace-own_graph.result _ _ c.max_redirects-max_redirects.result c.take-own.result c.args.options.now c.start-build.result c.take-own.ensures c.start-build.ensures.started in
    let kind = c.replace-own_graph.result.kind in
    let at : c.start-build.result.turns.state.graph ≡ c.args.graph.now = ap (λ b. b.turns.state.graph) is ∙ c.replace-own_graph.ensures.value in
    let most = ap (λ b. b.turns.redirects) is ∙ most_told told w c.max_redirects-max_redirects.result tells.answers c.max_redirects-max_redirects.ensures in
    let known = ap (λ b. b.turns.known) is ∙ tells.known_is in
    let made = subst (λ (m : Means). IsTold told m w kind) (ap (λ b. means_in g.S.Analyze.ModuleAnalyzer.infos g.S.Tree.FileTree.paths g.S.Urls.JsrUrlProvider.meaning g.S.Resolve.Resolver.is_told g.S.Resolve.Resolver.meaning b) (sym is)) (is_told_of told _ _ w kind tells) in
    let here = subst (λ (x : ModuleGraph). IsTold told (means_in g.S.Analyze.ModuleAnalyzer.infos g.S.Tree.FileTree.paths g.S.Urls.JsrUrlProvider.meaning g.S.Resolve.Resolver.is_told g.S.Resolve.Resolver.meaning c.start-build.result) w x.kind) (ap (λ b. b.turns.state.graph) (sym is)) made in
    c.run_over-done.ensures.room w questions here most known (subst (λ (x : ModuleGraph). IsMended (entered x c.args.loads.items)) (sym at) mended)
    (subst (λ (x : ModuleGraph). CoversFrom (told_for w Only) (entered x c.args.loads.items) questions) (sym at) covers)
    (subst (λ (n : ℕ). length questions ≤ n) (ap (λ b. b.turns.max_loads) (sym is)) enough)

pub returns-clause-covered : goal.returns-clause-covered
returns-clause-covered g c = λ mended w questions tells covers enough calm.
    err_both c.run_over-done.result _ _ _ (returns-clause-room g c mended w questions tells covers enough) c.run_over-done.ensures.failed (λ f budget failed. memory_left f budget (λ loader. calm (failed loader)))

pub returns-clause-options : goal.returns-clause-options
returns-clause-options g c = c.give_back.ensures.options ∙ ap without_locker (c.run_over-done.ensures.keeps.options ∙ ap (λ b. b.options) (started_as g.S.Lock.Locker.remote g.S.Lock.Locker.manifests c.replace-own_graph.result _ _ c.max_redirects-max_redirects.result c.take-own.result c.args.options.now c.start-build.result c.take-own.ensures c.start-build.ensures.started))

pub returns-clause-budget : goal.returns-clause-budget
returns-clause-budget g c =
    err_so c.run_over-done.result _ _ c.run_over-done.ensures.budget
    (λ f put is. subst (λ (n : ℕ). IsPut n (g.L.LoaderCore.asked c.args.loader.now) (g.L.LoaderCore.asked c.run_over-done.new.loader)) (ap (λ b. b.turns.max_loads) (started_as g.S.Lock.Locker.remote g.S.Lock.Locker.manifests c.replace-own_graph.result _ _ c.max_redirects-max_redirects.result c.take-own.result c.args.options.now c.start-build.result c.take-own.ensures c.start-build.ensures.started)) (put is))
