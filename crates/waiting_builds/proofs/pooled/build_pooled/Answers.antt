use Rattle.std.proofs.Common.{◌≡◌, ℕ, Option, ap, refl, subst}
use Rattle.std.specs.Prelude.{IfSome}
use Rattle.source_io.specs.declared.types.World.{World}
use Rattle.graph_pool.specs.Pools.{asked_of}
use Rattle.graph_turns.specs.Machine.Runs.{begun_over}
use Rattle.graph_turns.specs.Machine.Starting.{IsResolved, told_start}
use Rattle.graph_turns.specs.declared.starting.ResolvedStart.{ResolvedStart}
use Rattle.open_loads.specs.Budget.Runs.{IsOver}
use Rattle.graph_builder.specs.Calls.Makers.{means_by}
use Rattle.graph_builder.specs.Calls.Steps.{given_over}
use Rattle.build_options.specs.Telling.{flags_of, known_in, manifests_in, sums_in, telling_of}
use Rattle.cache_filling.proofs.NotedLemmas.{on_ok_noted}
use Rattle.graph_builder.proofs.Calls.Copies.{no_circle_noted, noted_of}
use Rattle.graph_builder.proofs.Calls.Driven.{err_so, on_ok_so}
use Rattle.graph_builder.proofs.Calls.Keeps.{manifests_kept}
use Rattle.graph_builder.proofs.Calls.Learned.{nothing_in}
use Rattle.open_loads.proofs.Order.KeptStores.{store_kept}
use Rattle.waiting_builds.proofs.Fresh.{asks_from, fresh_no_circle, fresh_none_pending, never_rises, tells_by, turned_from}
use Rattle.waiting_builds.proofs.pooled.build_pooled.Goals as goal

pub returns-clause-complete : goal.returns-clause-complete
returns-clause-complete g c = noted_of g.F.Fetch.caches g.F.Fetch.world c.in_ok-pool.ensures.fetcher _ _ c.build_waiting-built.result.0 (c.build_waiting-built.ensures.complete c.requires.fresh)

pub returns-clause-explained : goal.returns-clause-explained
returns-clause-explained g c = λ told tells npm. noted_of g.F.Fetch.caches g.F.Fetch.world c.in_ok-pool.ensures.fetcher _ _ c.build_waiting-built.result.0 (c.build_waiting-built.ensures.explained c.requires.fresh told (tells_by _ _ _ _ told (ap g.F.Fetch.world c.in_ok-pool.ensures.fetcher) tells) npm)

pub returns-clause-turned : goal.returns-clause-turned
returns-clause-turned g c = λ told tells npm.
    let left = given_over c.args.roots.items c.args.imports.items in
    noted_of g.F.Fetch.caches g.F.Fetch.world c.in_ok-pool.ensures.fetcher _ _ c.build_waiting-built.result.0
    (on_ok_noted _ _ _ c.build_waiting-built.result.0 (c.build_waiting-built.ensures.turned (fresh_no_circle c.args.graph.now c.requires.fresh) told (tells_by _ _ _ _ told (ap g.F.Fetch.world c.in_ok-pool.ensures.fetcher) tells) npm)
    (λ bare. turned_from told c.args.graph.now.kind (begun_over told.known c.args.graph.now (told_start told left)) bare (sums_in g.S.Lock.Locker.remote c.build_waiting-built.new.options) c.build_waiting-built.new.options.jsr_metadata_store
    (asked_of c.in_ok-pool.pool) (asked_of c.build_waiting-built.result.1) c.in_ok-pool.ensures.asked))

pub returns-clause-afforded : goal.returns-clause-afforded
returns-clause-afforded g c = λ told tells. c.build_waiting-built.ensures.afforded (fresh_no_circle c.args.graph.now c.requires.fresh) told (tells_by _ _ _ _ told (ap g.F.Fetch.world c.in_ok-pool.ensures.fetcher) tells)

pub returns-clause-overspent : goal.returns-clause-overspent
returns-clause-overspent g c = λ told tells. c.build_waiting-built.ensures.overspent told (tells_by _ _ _ _ told (ap g.F.Fetch.world c.in_ok-pool.ensures.fetcher) tells)

pub returns-clause-static_first : goal.returns-clause-static_first
returns-clause-static_first g c = λ told tells settled. noted_of g.F.Fetch.caches g.F.Fetch.world c.in_ok-pool.ensures.fetcher _ _ c.build_waiting-built.result.0 (c.build_waiting-built.ensures.static_first c.requires.fresh told (tells_by _ _ _ _ told (ap g.F.Fetch.world c.in_ok-pool.ensures.fetcher) tells) settled)

pub returns-clause-sources : goal.returns-clause-sources
returns-clause-sources g c = λ told tells. c.build_waiting-built.ensures.sources (fresh_no_circle c.args.graph.now c.requires.fresh) told (tells_by _ _ _ _ told (ap g.F.Fetch.world c.in_ok-pool.ensures.fetcher) tells)

pub returns-clause-versions : goal.returns-clause-versions
returns-clause-versions g c = λ told tells. c.build_waiting-built.ensures.versions (fresh_no_circle c.args.graph.now c.requires.fresh) told (tells_by _ _ _ _ told (ap g.F.Fetch.world c.in_ok-pool.ensures.fetcher) tells)

pub returns-clause-asks_once : goal.returns-clause-asks_once
returns-clause-asks_once g c =
    noted_of g.F.Fetch.caches g.F.Fetch.world c.in_ok-pool.ensures.fetcher _ _ c.build_waiting-built.result.0
    (on_ok_noted _ _ _ c.build_waiting-built.result.0 (c.build_waiting-built.ensures.asks_once (fresh_no_circle c.args.graph.now c.requires.fresh))
    (λ bare. asks_from (g.S.Urls.JsrUrlProvider.meaning c.args.options.now.jsr_url_provider.now) bare (asked_of c.in_ok-pool.pool) (asked_of c.build_waiting-built.result.1) c.args.options.now.max_loads c.in_ok-pool.ensures.asked c.build_waiting-built.ensures.within))

pub returns-clause-room : goal.returns-clause-room
returns-clause-room g c = λ told questions tells covers within.
    c.build_waiting-built.ensures.room c.requires.fresh told questions (tells_by _ _ _ _ told (ap g.F.Fetch.world c.in_ok-pool.ensures.fetcher) tells) covers within

pub returns-clause-covered : goal.returns-clause-covered
returns-clause-covered g c = λ told questions tells covers within.
    c.build_waiting-built.ensures.covered_over (fresh_no_circle c.args.graph.now c.requires.fresh) told questions (tells_by _ _ _ _ told (ap g.F.Fetch.world c.in_ok-pool.ensures.fetcher) tells) covers within never_rises

pub returns-clause-over : goal.returns-clause-over
returns-clause-over g c =
    let options = c.args.options.now in
    let telling = telling_of g.S.Analyze.ModuleAnalyzer.infos g.S.Tree.FileTree.paths g.S.Urls.JsrUrlProvider.meaning g.S.Resolve.Resolver.is_told g.S.Resolve.Resolver.meaning options in
    let known = known_in g.S.Lock.Locker.remote g.S.Lock.Locker.manifests options in
    let means = means_by telling (flags_of options) c.args.graph.now.kind in
    let left = given_over c.args.roots.items c.args.imports.items in
    err_so c.build_waiting-built.result.0 _ _ c.build_waiting-built.ensures.over
    (λ fault over budget. subst (λ (w : Option World). (redirects : ℕ) × (start : ResolvedStart) × IsResolved telling.resolving left start × IsOver redirects known w means (begun_over known c.args.graph.now start) options.max_loads) (ap g.F.Fetch.world c.in_ok-pool.ensures.fetcher) (over budget))

pub returns-clause-over_told : goal.returns-clause-over_told
returns-clause-over_told g c =
    let options = c.args.options.now in
    let telling = telling_of g.S.Analyze.ModuleAnalyzer.infos g.S.Tree.FileTree.paths g.S.Urls.JsrUrlProvider.meaning g.S.Resolve.Resolver.is_told g.S.Resolve.Resolver.meaning options in
    let known = known_in g.S.Lock.Locker.remote g.S.Lock.Locker.manifests options in
    let means = means_by telling (flags_of options) c.args.graph.now.kind in
    let left = given_over c.args.roots.items c.args.imports.items in
    err_so c.build_waiting-built.result.0 _ _ c.build_waiting-built.ensures.over_told
    (λ fault over budget. subst (λ (w : Option World). IfSome w (λ told. (start : ResolvedStart) × IsResolved telling.resolving left start × IsOver told.max_redirects known w means (begun_over known c.args.graph.now start) options.max_loads)) (ap g.F.Fetch.world c.in_ok-pool.ensures.fetcher) (over budget))

pub returns-clause-no_circle : goal.returns-clause-no_circle
returns-clause-no_circle g c =
    on_ok_so c.build_waiting-built.result.0 _ _ (c.build_waiting-built.ensures.complete_over (fresh_no_circle c.args.graph.now c.requires.fresh) (fresh_none_pending c.args.graph.now c.requires.fresh))
    (λ built. no_circle_noted _ _ built.bare c.build_waiting-built.new.graph built.notes built.holds.no_circle)

pub returns-clause-no_fault : goal.returns-clause-no_fault
returns-clause-no_fault g c = err_so c.build_waiting-built.result.0 _ _ c.build_waiting-built.ensures.failed (λ fault failed loader. never_rises (failed loader))

pub returns-in_err-pool-clause-store : goal.returns-in_err-pool-clause-store
returns-in_err-pool-clause-store g c = store_kept c.args.options.now.jsr_metadata_store c.args.options.now.jsr_metadata_store refl

pub returns-in_err-pool-clause-manifests_kept : goal.returns-in_err-pool-clause-manifests_kept
returns-in_err-pool-clause-manifests_kept g c =
    manifests_kept (manifests_in g.S.Lock.Locker.manifests c.args.options.now) (manifests_in g.S.Lock.Locker.manifests c.args.options.now) refl

pub returns-in_err-pool-clause-sources : goal.returns-in_err-pool-clause-sources
returns-in_err-pool-clause-sources g c = λ told tells. nothing_in told _ _ _ _ refl
