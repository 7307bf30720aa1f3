use Rattle.std.proofs.Common.{◌≡◌, ◌∙◌, Bool, List, sym, ap, subst}
use Rattle.std.specs.Prelude.{OnOk, Result, Ok, Err}
use Rattle.std.specs.List.{All}
use Rattle.url.specs.Parts.{Parts}
use Rattle.graph_dependencies.specs.declared.graph_kind.GraphKind.{GraphKind}
use Rattle.graph_core.specs.declared.graph.ModuleGraph.{ModuleGraph}
use Rattle.cache_filling.specs.Noted.{Noted}
use Rattle.cache_filling.proofs.NotedLemmas.{on_ok_noted}
use Rattle.graph_core.specs.Graph.{new_graph}
use Rattle.turn_laws.specs.Budget.Covers.{CoversFrom}
use Rattle.graph_turns.specs.Machine.Entering.{begun_at}
use Rattle.graph_turns.specs.Machine.Known.{Known}
use Rattle.graph_turns.specs.Machine.Runs.{told_for}
use Rattle.graph_turns.specs.Machine.Turns.{PutsOver, PutsWithin, TellsTurns}
use Rattle.turn_laws.specs.Promise.Complete.{NonePending}
use Rattle.graph_turns.specs.Promise.Explains.{LearnsSources}
use Rattle.graph_turns.specs.Promise.Input.{EnteredGraph, Start}
use Rattle.graph_turns.specs.Promise.Runs.{IsGrownBy}
use Rattle.graph_turns.specs.Promise.Told.{Told}
use Rattle.graph_turns.specs.declared.run.Run.TheVariants.{Only}
use Rattle.open_loads.specs.Budget.Runs.{IsOver}
use Rattle.graph_builder.specs.Calls.Makers.{means_by}
use Rattle.graph_builder.specs.Calls.Over.{AreOutset, IsLeftBy, IsMended}
use Rattle.open_loads.specs.Taught.{LearnsVersionsIn}
use Rattle.build_options.specs.Telling.{flags_of, known_in, manifests_in, sums_in, telling_of}
use Rattle.open_loads.specs.Order.Means.{Means}
use Rattle.graph_builder.proofs.Calls.Driven.{err_so, on_err_so, on_ok_so, some_so}
use Rattle.turn_laws.specs.Promise.Reloads.{reload_entry, reload_loads}
use Rattle.turn_laws.specs.Promise.Reloaded.{IsRenewed}
use Rattle.graph_reloads.proofs.Calls.Again.{mended_reload, none_pending_still, reload_hops, reloaded_by, renewed_all, same_starts}
use Rattle.graph_reloads.proofs.reload.ModuleGraphReloadGraph.reload.Goals as goal

-- the kind stays
same_kind : (e : EnteredGraph) (dynamic : Bool) (g : ModuleGraph) (given : List Parts) → e ≡ reload_entry dynamic g given → e.graph.kind ≡ g.kind
same_kind e dynamic g given at = ap (λ (x : EnteredGraph). x.graph.kind) at ∙ ap (λ (s : Start). s.kind) (same_starts g (reload_loads dynamic g given))

pub build_over-requires : goal.build_over-requires
build_over-requires g c = record { closed = c.requires.closed; outset = subst (λ (e : EnteredGraph). AreOutset e.loads) (sym (c.in-Ok.ensures)) (reload_hops _ c.args.self.now c.as_slice.result.now) }

pub returns-in-Ok-clause-reloaded : goal.returns-in-Ok-clause-reloaded
returns-in-Ok-clause-reloaded g c = λ none settled.
    let at : _ ≡ reload_entry c.args.options.now.is_dynamic c.args.self.now c.args.specifiers.items = c.in-Ok.ensures ∙ ap (reload_entry c.args.options.now.is_dynamic c.args.self.now) c.as_slice.ensures.value in
    on_ok_noted _ _ _ c.build_over.result (subst (λ (e : EnteredGraph). OnOk c.build_over.result (Noted (g.L.LoaderCore.caches c.args.loader.now) (g.L.LoaderCore.world c.args.loader.now) (IsLeftBy (flags_of c.args.options.now) e) c.build_over.new.graph)) at (c.build_over.ensures.complete (subst IsMended (sym at) (mended_reload c.args.options.now.is_dynamic c.args.self.now c.args.specifiers.items none)) (subst (λ (e : EnteredGraph). NonePending e.graph) (sym at) (none_pending_still c.args.self.now (reload_loads c.args.options.now.is_dynamic c.args.self.now c.args.specifiers.items) settled))))
    (λ bare left. reloaded_by (flags_of c.args.options.now) c.args.self.now c.args.specifiers.items bare left)

pub returns-in-Ok-clause-explained_again : goal.returns-in-Ok-clause-explained_again
returns-in-Ok-clause-explained_again g c = λ none settled w tells npm.
    let at : _ ≡ reload_entry w.known.flags.is_dynamic c.args.self.now c.args.specifiers.items = c.in-Ok.ensures ∙ ap (reload_entry c.args.options.now.is_dynamic c.args.self.now) c.as_slice.ensures.value ∙ ap (λ d. reload_entry d c.args.self.now c.args.specifiers.items) (ap (λ (k : Known). k.flags.is_dynamic) tells.known_is) in
    subst (λ (e : EnteredGraph). OnOk c.build_over.result (Noted (g.L.LoaderCore.caches c.args.loader.now) (g.L.LoaderCore.world c.args.loader.now) (λ bare. IsGrownBy bare (told_for w Only) e) c.build_over.new.graph)) at (c.build_over.ensures.explained (subst IsMended (sym at) (mended_reload w.known.flags.is_dynamic c.args.self.now c.args.specifiers.items none)) (subst (λ (e : EnteredGraph). NonePending e.graph) (sym at) (none_pending_still c.args.self.now (reload_loads w.known.flags.is_dynamic c.args.self.now c.args.specifiers.items) settled)) w tells npm)

pub returns-in-Ok-clause-renewed : goal.returns-in-Ok-clause-renewed
returns-in-Ok-clause-renewed g c = λ none settled w tells npm. on_ok_noted _ _ _ c.build_over.result (returns-in-Ok-clause-explained_again g c none settled w tells npm) (λ bare grown. renewed_all w c.args.self.now c.args.specifiers.items bare grown)

pub returns-in-Ok-clause-turned : goal.returns-in-Ok-clause-turned
returns-in-Ok-clause-turned g c = λ w tells npm.
    let at : _ ≡ reload_entry w.known.flags.is_dynamic c.args.self.now c.args.specifiers.items = c.in-Ok.ensures ∙ ap (reload_entry c.args.options.now.is_dynamic c.args.self.now) c.as_slice.ensures.value ∙ ap (λ d. reload_entry d c.args.self.now c.args.specifiers.items) (ap (λ (k : Known). k.flags.is_dynamic) tells.known_is) in
    subst (λ (k : GraphKind). OnOk c.build_over.result (Noted (g.L.LoaderCore.caches c.args.loader.now) (g.L.LoaderCore.world c.args.loader.now) (λ bare. TellsTurns w k (begun_at w.known (reload_entry w.known.flags.is_dynamic c.args.self.now c.args.specifiers.items)) bare (sums_in g.S.Lock.Locker.remote c.build_over.new.options) c.build_over.new.options.jsr_metadata_store (g.L.LoaderCore.asked c.args.loader.now) (g.L.LoaderCore.asked c.build_over.new.loader)) c.build_over.new.graph)) (same_kind _ _ c.args.self.now c.args.specifiers.items at)
    (subst (λ (e : EnteredGraph). OnOk c.build_over.result (Noted (g.L.LoaderCore.caches c.args.loader.now) (g.L.LoaderCore.world c.args.loader.now) (λ bare. TellsTurns w c.unload.new.graph.kind (begun_at w.known e) bare (sums_in g.S.Lock.Locker.remote c.build_over.new.options) c.build_over.new.options.jsr_metadata_store (g.L.LoaderCore.asked c.args.loader.now) (g.L.LoaderCore.asked c.build_over.new.loader)) c.build_over.new.graph)) at (c.build_over.ensures.turned w tells npm))

pub returns-in-Ok-clause-afforded : goal.returns-in-Ok-clause-afforded
returns-in-Ok-clause-afforded g c = λ w tells.
    let at : _ ≡ reload_entry w.known.flags.is_dynamic c.args.self.now c.args.specifiers.items = c.in-Ok.ensures ∙ ap (reload_entry c.args.options.now.is_dynamic c.args.self.now) c.as_slice.ensures.value ∙ ap (λ d. reload_entry d c.args.self.now c.args.specifiers.items) (ap (λ (k : Known). k.flags.is_dynamic) tells.known_is) in
    subst (λ (k : GraphKind). OnOk c.build_over.result (PutsWithin w k (begun_at w.known (reload_entry w.known.flags.is_dynamic c.args.self.now c.args.specifiers.items)) c.args.options.now.max_loads)) (same_kind _ _ c.args.self.now c.args.specifiers.items at)
    (subst (λ (e : EnteredGraph). OnOk c.build_over.result (PutsWithin w c.unload.new.graph.kind (begun_at w.known e) c.args.options.now.max_loads)) at (c.build_over.ensures.afforded w tells))

pub returns-in-Ok-clause-overspent : goal.returns-in-Ok-clause-overspent
returns-in-Ok-clause-overspent g c = λ w tells.
    let at : _ ≡ reload_entry w.known.flags.is_dynamic c.args.self.now c.args.specifiers.items = c.in-Ok.ensures ∙ ap (reload_entry c.args.options.now.is_dynamic c.args.self.now) c.as_slice.ensures.value ∙ ap (λ d. reload_entry d c.args.self.now c.args.specifiers.items) (ap (λ (k : Known). k.flags.is_dynamic) tells.known_is) in
    err_so c.build_over.result _ _ (c.build_over.ensures.overspent w tells)
    (λ f over budget. subst (λ (k : GraphKind). PutsOver w k (begun_at w.known (reload_entry w.known.flags.is_dynamic c.args.self.now c.args.specifiers.items)) c.args.options.now.max_loads) (same_kind _ _ c.args.self.now c.args.specifiers.items at)
    (subst (λ (e : EnteredGraph). PutsOver w c.unload.new.graph.kind (begun_at w.known e) c.args.options.now.max_loads) at (over budget)))

pub returns-in-Ok-clause-sources : goal.returns-in-Ok-clause-sources
returns-in-Ok-clause-sources g c = λ w tells.
    let at : _ ≡ reload_entry w.known.flags.is_dynamic c.args.self.now c.args.specifiers.items = c.in-Ok.ensures ∙ ap (reload_entry c.args.options.now.is_dynamic c.args.self.now) c.as_slice.ensures.value ∙ ap (λ d. reload_entry d c.args.self.now c.args.specifiers.items) (ap (λ (k : Known). k.flags.is_dynamic) tells.known_is) in
    subst (λ (e : EnteredGraph). LearnsSources (told_for w Only) e (sums_in g.S.Lock.Locker.remote c.build_over.new.options)) at (c.build_over.ensures.sources w tells)

pub returns-in-Ok-clause-versions : goal.returns-in-Ok-clause-versions
returns-in-Ok-clause-versions g c = λ w tells.
    let at : _ ≡ reload_entry w.known.flags.is_dynamic c.args.self.now c.args.specifiers.items = c.in-Ok.ensures ∙ ap (reload_entry c.args.options.now.is_dynamic c.args.self.now) c.as_slice.ensures.value ∙ ap (λ d. reload_entry d c.args.self.now c.args.specifiers.items) (ap (λ (k : Known). k.flags.is_dynamic) tells.known_is) in
    subst (λ (e : EnteredGraph). OnOk c.build_over.result (LearnsVersionsIn (told_for w Only) e (manifests_in g.S.Lock.Locker.manifests c.args.options.now) (manifests_in g.S.Lock.Locker.manifests c.build_over.new.options))) at (c.build_over.ensures.versions w tells)

pub returns-in-Ok-clause-asks_once : goal.returns-in-Ok-clause-asks_once
returns-in-Ok-clause-asks_once g c = λ none.
    let at : _ ≡ reload_entry c.args.options.now.is_dynamic c.args.self.now c.args.specifiers.items = c.in-Ok.ensures ∙ ap (reload_entry c.args.options.now.is_dynamic c.args.self.now) c.as_slice.ensures.value in
    c.build_over.ensures.asks_once (subst IsMended (sym at) (mended_reload c.args.options.now.is_dynamic c.args.self.now c.args.specifiers.items none))

pub returns-in-Ok-clause-emptied : goal.returns-in-Ok-clause-emptied
returns-in-Ok-clause-emptied g c =
    let at : _ ≡ reload_entry c.args.options.now.is_dynamic c.args.self.now c.args.specifiers.items = c.in-Ok.ensures ∙ ap (reload_entry c.args.options.now.is_dynamic c.args.self.now) c.as_slice.ensures.value in
    on_err_so c.build_over.result _ _ c.build_over.ensures.emptied (λ empty. empty ∙ ap new_graph (same_kind _ _ c.args.self.now c.args.specifiers.items at))

pub returns-in-Ok-clause-room : goal.returns-in-Ok-clause-room
returns-in-Ok-clause-room g c = λ none w questions tells covers enough.
    let at : _ ≡ reload_entry w.known.flags.is_dynamic c.args.self.now c.args.specifiers.items = c.in-Ok.ensures ∙ ap (reload_entry c.args.options.now.is_dynamic c.args.self.now) c.as_slice.ensures.value ∙ ap (λ d. reload_entry d c.args.self.now c.args.specifiers.items) (ap (λ (k : Known). k.flags.is_dynamic) tells.known_is) in
    c.build_over.ensures.room (subst IsMended (sym at) (mended_reload w.known.flags.is_dynamic c.args.self.now c.args.specifiers.items none)) w questions tells (subst (λ (e : EnteredGraph). CoversFrom (told_for w Only) e questions) (sym at) covers) enough

pub returns-in-Ok-clause-covered : goal.returns-in-Ok-clause-covered
returns-in-Ok-clause-covered g c = λ none w questions tells covers enough calm.
    let at : _ ≡ reload_entry w.known.flags.is_dynamic c.args.self.now c.args.specifiers.items = c.in-Ok.ensures ∙ ap (reload_entry c.args.options.now.is_dynamic c.args.self.now) c.as_slice.ensures.value ∙ ap (λ d. reload_entry d c.args.self.now c.args.specifiers.items) (ap (λ (k : Known). k.flags.is_dynamic) tells.known_is) in
    c.build_over.ensures.covered (subst IsMended (sym at) (mended_reload w.known.flags.is_dynamic c.args.self.now c.args.specifiers.items none)) w questions tells (subst (λ (e : EnteredGraph). CoversFrom (told_for w Only) e questions) (sym at) covers) enough calm

pub returns-in-Ok-clause-over : goal.returns-in-Ok-clause-over
returns-in-Ok-clause-over g c =
    let at : _ ≡ reload_entry c.args.options.now.is_dynamic c.args.self.now c.args.specifiers.items = c.in-Ok.ensures ∙ ap (reload_entry c.args.options.now.is_dynamic c.args.self.now) c.as_slice.ensures.value in
    let known = known_in g.S.Lock.Locker.remote g.S.Lock.Locker.manifests c.args.options.now in
    let telling = telling_of g.S.Analyze.ModuleAnalyzer.infos g.S.Tree.FileTree.paths g.S.Urls.JsrUrlProvider.meaning g.S.Resolve.Resolver.is_told g.S.Resolve.Resolver.meaning c.args.options.now in
    let there : Means = means_by telling (flags_of c.args.options.now) c.unload.new.graph.kind in
    let means : Means = means_by telling (flags_of c.args.options.now) c.args.self.now.kind in
    let told = g.L.LoaderCore.world c.args.loader.now in
    let same : there ≡ means = ap (means_by telling (flags_of c.args.options.now)) (same_kind _ _ c.args.self.now c.args.specifiers.items at) in
    err_so c.build_over.result _ _ c.build_over.ensures.over
    (λ f over budget. let is = over budget in (
      is.0,
      subst (λ (m : Means). IsOver is.0 known told m (begun_at known (reload_entry c.args.options.now.is_dynamic c.args.self.now c.args.specifiers.items)) c.args.options.now.max_loads) same
          (subst (λ (e : EnteredGraph). IsOver is.0 known told there (begun_at known e) c.args.options.now.max_loads) at is.1),
    ))

pub returns-in-Ok-clause-over_told : goal.returns-in-Ok-clause-over_told
returns-in-Ok-clause-over_told g c =
    let at : _ ≡ reload_entry c.args.options.now.is_dynamic c.args.self.now c.args.specifiers.items = c.in-Ok.ensures ∙ ap (reload_entry c.args.options.now.is_dynamic c.args.self.now) c.as_slice.ensures.value in
    let known = known_in g.S.Lock.Locker.remote g.S.Lock.Locker.manifests c.args.options.now in
    let telling = telling_of g.S.Analyze.ModuleAnalyzer.infos g.S.Tree.FileTree.paths g.S.Urls.JsrUrlProvider.meaning g.S.Resolve.Resolver.is_told g.S.Resolve.Resolver.meaning c.args.options.now in
    let there : Means = means_by telling (flags_of c.args.options.now) c.unload.new.graph.kind in
    let means : Means = means_by telling (flags_of c.args.options.now) c.args.self.now.kind in
    let told = g.L.LoaderCore.world c.args.loader.now in
    let same : there ≡ means = ap (means_by telling (flags_of c.args.options.now)) (same_kind _ _ c.args.self.now c.args.specifiers.items at) in
    err_so c.build_over.result _ _ c.build_over.ensures.over_told
    (λ f over budget. some_so told _ _ (over budget)
    (λ x is. subst (λ (m : Means). IsOver x.max_redirects known told m (begun_at known (reload_entry c.args.options.now.is_dynamic c.args.self.now c.args.specifiers.items)) c.args.options.now.max_loads) same
    (subst (λ (e : EnteredGraph). IsOver x.max_redirects known told there (begun_at known e) c.args.options.now.max_loads) at is)))
