use Rattle.std.proofs.Common.{◌≡◌, ◌∙◌, Bool, sym, ap, subst}
use Rattle.std.specs.Prelude.{OnOk, Ok}
use Rattle.url.specs.Parts.{Parts}
use Rattle.graph_dependencies.specs.declared.graph_kind.GraphKind.{GraphKind}
use Rattle.graph_core.specs.declared.graph.ModuleGraph.{ModuleGraph}
use Rattle.cache_filling.specs.Noted.{Noted}
use Rattle.cache_filling.proofs.NotedLemmas.{on_ok_noted}
use Rattle.graph_core.specs.Graph.{new_graph}
use Rattle.turn_laws.specs.Budget.Covers.{CoversFrom}
use Rattle.graph_turns.specs.Machine.Entering.{begun_at}
use Rattle.graph_turns.specs.Machine.Known.{Known}
use Rattle.graph_turns.specs.Machine.Runs.{told_for}
use Rattle.graph_turns.specs.Machine.Turns.{PutsOver, PutsWithin, TellsTurns}
use Rattle.graph_turns.specs.Promise.Explains.{LearnsSources}
use Rattle.graph_turns.specs.Promise.Input.{EnteredGraph}
use Rattle.graph_turns.specs.Promise.Runs.{IsGrownBy}
use Rattle.graph_turns.specs.Promise.Told.{Told}
use Rattle.graph_turns.specs.declared.run.Run.TheVariants.{Only}
use Rattle.graph_builder.specs.Calls.Over.{entered}
use Rattle.open_loads.specs.Taught.{LearnsVersionsIn}
use Rattle.build_options.specs.Telling.{flags_of, known_in, manifests_in, sums_in, telling_of}
use Rattle.graph_builder.proofs.Calls.Driven.{err_so, on_err_so, on_ok_so}
use Rattle.import_records.specs.Target.{Resolving}
use Rattle.spec_base.specs.declared.position.ResolutionKind.{ResolutionKind}
use Rattle.graph_reloads.specs.Packages.{packages_entry, repointed_entry, repointing_by, without_npm}
use Rattle.graph_reloads.proofs.Calls.Packages.{mended_left, no_npm_new, none_pending_left, over_repointed, told_by, with_npm_again}
use Rattle.graph_reloads.proofs.reload.ModuleGraphReloadGraph.build_npm_packages.Goals as goal

-- the entry, by what is told
entry_told : (w : Told) (m : Resolving) (kind : ResolutionKind) (dynamic : Bool) (dir : Parts) (g : ModuleGraph) (e : EnteredGraph) → e ≡ repointed_entry (repointing_by m kind dynamic) dir g → m ≡ w.resolving → dynamic ≡ w.known.flags.is_dynamic → e ≡ packages_entry w kind dir g
entry_told w m kind dynamic dir g e told resolving same =
    told ∙ ap (λ x. repointed_entry (repointing_by x kind dynamic) dir g) resolving ∙ ap (λ d. repointed_entry (repointing_by w.resolving kind d) dir g) same

pub build_over-done-requires : goal.build_over-done-requires
build_over-done-requires g c = record { closed = c.requires.closed; outset = c.in-Ok.ensures.rest.outset }

pub returns-in-Ok-clause-packaged : goal.returns-in-Ok-clause-packaged
returns-in-Ok-clause-packaged g c = λ none at_npm settled.
    on_ok_noted _ _ _ c.build_over-done.result (c.build_over-done.ensures.complete (mended_left c.args.self.now c.repoint.new.graph _ c.in-Ok.ensures.rest at_npm none) (none_pending_left c.args.self.now c.repoint.new.graph _ c.in-Ok.ensures.rest settled))
    (λ bare left. record { entry = entered c.repoint.new.graph _; repointed = c.in-Ok.ensures.rest; left = left })

pub returns-in-Ok-clause-explained_packages : goal.returns-in-Ok-clause-explained_packages
returns-in-Ok-clause-explained_packages g c = λ none at_npm settled w tells npm.
    let by = told_by (g.S.Urls.JsrUrlProvider.meaning c.args.options.now.jsr_url_provider.now).nv_of g.S.Resolve.Resolver.is_told g.S.Resolve.Resolver.meaning c.args.options.now.resolver w.resolving tells.resolving in
    let at : _ ≡ packages_entry w c.args.resolution_kind c.args.npm_root_dir.now c.args.self.now = entry_told w _ c.args.resolution_kind c.args.options.now.is_dynamic c.args.npm_root_dir.now c.args.self.now _ (c.in-Ok.ensures.told by.0) by.1 (ap (λ (k : Known). k.flags.is_dynamic) tells.known_is) in
    subst (λ (e : EnteredGraph). OnOk c.build_over-done.result (Noted (g.L.LoaderCore.caches c.args.loader.now) (g.L.LoaderCore.world c.args.loader.now) (λ bare. IsGrownBy bare (told_for w Only) e) c.build_over-done.new.graph)) at (c.build_over-done.ensures.explained (mended_left c.args.self.now c.repoint.new.graph _ c.in-Ok.ensures.rest at_npm none) (none_pending_left c.args.self.now c.repoint.new.graph _ c.in-Ok.ensures.rest settled) w tells npm)

pub returns-in-Ok-clause-without_modules : goal.returns-in-Ok-clause-without_modules
returns-in-Ok-clause-without_modules g c = λ none at_npm settled w tells npm.
    on_ok_noted _ _ _ c.build_over-done.result (c.build_over-done.ensures.explained (mended_left c.args.self.now c.repoint.new.graph _ c.in-Ok.ensures.rest at_npm none) (none_pending_left c.args.self.now c.repoint.new.graph _ c.in-Ok.ensures.rest settled) w tells npm)
    (λ bare by. no_npm_new (told_for w Only) (entered c.repoint.new.graph _) (sym (ap (λ (k : Known). k.flags.resolves_npm) tells.known_is)) c.args.self.now bare c.in-Ok.ensures.rest by.grown)

pub returns-in-Ok-clause-turned : goal.returns-in-Ok-clause-turned
returns-in-Ok-clause-turned g c = λ w tells npm.
    let by = told_by (g.S.Urls.JsrUrlProvider.meaning c.args.options.now.jsr_url_provider.now).nv_of g.S.Resolve.Resolver.is_told g.S.Resolve.Resolver.meaning c.args.options.now.resolver w.resolving tells.resolving in
    let at : _ ≡ packages_entry w c.args.resolution_kind c.args.npm_root_dir.now c.args.self.now = entry_told w _ c.args.resolution_kind c.args.options.now.is_dynamic c.args.npm_root_dir.now c.args.self.now _ (c.in-Ok.ensures.told by.0) by.1 (ap (λ (k : Known). k.flags.is_dynamic) tells.known_is) in
    subst (λ (k : GraphKind). OnOk c.build_over-done.result (Noted (g.L.LoaderCore.caches c.args.loader.now) (g.L.LoaderCore.world c.args.loader.now) (λ bare. TellsTurns w k (begun_at w.known (packages_entry w c.args.resolution_kind c.args.npm_root_dir.now c.args.self.now)) bare (sums_in g.S.Lock.Locker.remote c.build_over-done.new.options) c.build_over-done.new.options.jsr_metadata_store (g.L.LoaderCore.asked c.args.loader.now) (g.L.LoaderCore.asked c.build_over-done.new.loader)) c.build_over-done.new.graph)) (ap (λ (x : ModuleGraph). x.kind) c.in-Ok.ensures.rest.rest)
    (subst (λ (e : EnteredGraph). OnOk c.build_over-done.result (Noted (g.L.LoaderCore.caches c.args.loader.now) (g.L.LoaderCore.world c.args.loader.now) (λ bare. TellsTurns w c.repoint.new.graph.kind (begun_at w.known e) bare (sums_in g.S.Lock.Locker.remote c.build_over-done.new.options) c.build_over-done.new.options.jsr_metadata_store (g.L.LoaderCore.asked c.args.loader.now) (g.L.LoaderCore.asked c.build_over-done.new.loader)) c.build_over-done.new.graph)) at (c.build_over-done.ensures.turned w tells npm))

pub returns-in-Ok-clause-afforded : goal.returns-in-Ok-clause-afforded
returns-in-Ok-clause-afforded g c = λ w tells.
    let by = told_by (g.S.Urls.JsrUrlProvider.meaning c.args.options.now.jsr_url_provider.now).nv_of g.S.Resolve.Resolver.is_told g.S.Resolve.Resolver.meaning c.args.options.now.resolver w.resolving tells.resolving in
    let at : _ ≡ packages_entry w c.args.resolution_kind c.args.npm_root_dir.now c.args.self.now = entry_told w _ c.args.resolution_kind c.args.options.now.is_dynamic c.args.npm_root_dir.now c.args.self.now _ (c.in-Ok.ensures.told by.0) by.1 (ap (λ (k : Known). k.flags.is_dynamic) tells.known_is) in
    subst (λ (k : GraphKind). OnOk c.build_over-done.result (PutsWithin w k (begun_at w.known (packages_entry w c.args.resolution_kind c.args.npm_root_dir.now c.args.self.now)) c.args.options.now.max_loads)) (ap (λ (x : ModuleGraph). x.kind) c.in-Ok.ensures.rest.rest)
    (subst (λ (e : EnteredGraph). OnOk c.build_over-done.result (PutsWithin w c.repoint.new.graph.kind (begun_at w.known e) c.args.options.now.max_loads)) at (c.build_over-done.ensures.afforded w tells))

pub returns-in-Ok-clause-overspent : goal.returns-in-Ok-clause-overspent
returns-in-Ok-clause-overspent g c = λ w tells.
    let by = told_by (g.S.Urls.JsrUrlProvider.meaning c.args.options.now.jsr_url_provider.now).nv_of g.S.Resolve.Resolver.is_told g.S.Resolve.Resolver.meaning c.args.options.now.resolver w.resolving tells.resolving in
    let at : _ ≡ packages_entry w c.args.resolution_kind c.args.npm_root_dir.now c.args.self.now = entry_told w _ c.args.resolution_kind c.args.options.now.is_dynamic c.args.npm_root_dir.now c.args.self.now _ (c.in-Ok.ensures.told by.0) by.1 (ap (λ (k : Known). k.flags.is_dynamic) tells.known_is) in
    err_so c.build_over-done.result _ _ (c.build_over-done.ensures.overspent w tells)
    (λ f over budget. subst (λ (k : GraphKind). PutsOver w k (begun_at w.known (packages_entry w c.args.resolution_kind c.args.npm_root_dir.now c.args.self.now)) c.args.options.now.max_loads) (ap (λ (x : ModuleGraph). x.kind) c.in-Ok.ensures.rest.rest)
    (subst (λ (e : EnteredGraph). PutsOver w c.repoint.new.graph.kind (begun_at w.known e) c.args.options.now.max_loads) at (over budget)))

pub returns-in-Ok-clause-sources : goal.returns-in-Ok-clause-sources
returns-in-Ok-clause-sources g c = λ w tells.
    let by = told_by (g.S.Urls.JsrUrlProvider.meaning c.args.options.now.jsr_url_provider.now).nv_of g.S.Resolve.Resolver.is_told g.S.Resolve.Resolver.meaning c.args.options.now.resolver w.resolving tells.resolving in
    let at : _ ≡ packages_entry w c.args.resolution_kind c.args.npm_root_dir.now c.args.self.now = entry_told w _ c.args.resolution_kind c.args.options.now.is_dynamic c.args.npm_root_dir.now c.args.self.now _ (c.in-Ok.ensures.told by.0) by.1 (ap (λ (k : Known). k.flags.is_dynamic) tells.known_is) in
    subst (λ (e : EnteredGraph). LearnsSources (told_for w Only) e (sums_in g.S.Lock.Locker.remote c.build_over-done.new.options)) at (c.build_over-done.ensures.sources w tells)

pub returns-in-Ok-clause-versions : goal.returns-in-Ok-clause-versions
returns-in-Ok-clause-versions g c = λ w tells.
    let by = told_by (g.S.Urls.JsrUrlProvider.meaning c.args.options.now.jsr_url_provider.now).nv_of g.S.Resolve.Resolver.is_told g.S.Resolve.Resolver.meaning c.args.options.now.resolver w.resolving tells.resolving in
    let at : _ ≡ packages_entry w c.args.resolution_kind c.args.npm_root_dir.now c.args.self.now = entry_told w _ c.args.resolution_kind c.args.options.now.is_dynamic c.args.npm_root_dir.now c.args.self.now _ (c.in-Ok.ensures.told by.0) by.1 (ap (λ (k : Known). k.flags.is_dynamic) tells.known_is) in
    subst (λ (e : EnteredGraph). OnOk c.build_over-done.result (LearnsVersionsIn (told_for w Only) e (manifests_in g.S.Lock.Locker.manifests c.args.options.now) (manifests_in g.S.Lock.Locker.manifests c.build_over-done.new.options))) at (c.build_over-done.ensures.versions w tells)

pub returns-in-Ok-clause-asks_once : goal.returns-in-Ok-clause-asks_once
returns-in-Ok-clause-asks_once g c = λ none at_npm. c.build_over-done.ensures.asks_once (mended_left c.args.self.now c.repoint.new.graph _ c.in-Ok.ensures.rest at_npm none)

pub returns-in-Ok-clause-options : goal.returns-in-Ok-clause-options
returns-in-Ok-clause-options g c = with_npm_again c.args.options.now c.build_over-done.new.options c.build_over-done.ensures.options

pub returns-in-Ok-clause-emptied : goal.returns-in-Ok-clause-emptied
returns-in-Ok-clause-emptied g c = on_err_so c.build_over-done.result _ _ c.build_over-done.ensures.emptied (λ empty. empty ∙ ap new_graph (ap (λ (x : ModuleGraph). x.kind) c.in-Ok.ensures.rest.rest))

pub returns-in-Ok-clause-room : goal.returns-in-Ok-clause-room
returns-in-Ok-clause-room g c = λ none at_npm w questions tells covers enough.
    let by = told_by (g.S.Urls.JsrUrlProvider.meaning c.args.options.now.jsr_url_provider.now).nv_of g.S.Resolve.Resolver.is_told g.S.Resolve.Resolver.meaning c.args.options.now.resolver w.resolving tells.resolving in
    let at : _ ≡ packages_entry w c.args.resolution_kind c.args.npm_root_dir.now c.args.self.now = entry_told w _ c.args.resolution_kind c.args.options.now.is_dynamic c.args.npm_root_dir.now c.args.self.now _ (c.in-Ok.ensures.told by.0) by.1 (ap (λ (k : Known). k.flags.is_dynamic) tells.known_is) in
    c.build_over-done.ensures.room (mended_left c.args.self.now c.repoint.new.graph _ c.in-Ok.ensures.rest at_npm none) w questions tells (subst (λ (e : EnteredGraph). CoversFrom (told_for w Only) e questions) (sym at) covers) enough

pub returns-in-Ok-clause-covered : goal.returns-in-Ok-clause-covered
returns-in-Ok-clause-covered g c = λ none at_npm w questions tells covers enough calm.
    let by = told_by (g.S.Urls.JsrUrlProvider.meaning c.args.options.now.jsr_url_provider.now).nv_of g.S.Resolve.Resolver.is_told g.S.Resolve.Resolver.meaning c.args.options.now.resolver w.resolving tells.resolving in
    let at : _ ≡ packages_entry w c.args.resolution_kind c.args.npm_root_dir.now c.args.self.now = entry_told w _ c.args.resolution_kind c.args.options.now.is_dynamic c.args.npm_root_dir.now c.args.self.now _ (c.in-Ok.ensures.told by.0) by.1 (ap (λ (k : Known). k.flags.is_dynamic) tells.known_is) in
    c.build_over-done.ensures.covered (mended_left c.args.self.now c.repoint.new.graph _ c.in-Ok.ensures.rest at_npm none) w questions tells (subst (λ (e : EnteredGraph). CoversFrom (told_for w Only) e questions) (sym at) covers) enough calm

pub returns-in-Ok-clause-over : goal.returns-in-Ok-clause-over
returns-in-Ok-clause-over g c =
    err_so c.build_over-done.result _ _ c.build_over-done.ensures.over
    (λ f over budget. let is = over budget in let at = over_repointed c.in-Ok.ensures.rest (g.L.LoaderCore.world c.args.loader.now) is.0 c.args.options.now.max_loads (known_in g.S.Lock.Locker.remote g.S.Lock.Locker.manifests (without_npm c.args.options.now)) (telling_of g.S.Analyze.ModuleAnalyzer.infos g.S.Tree.FileTree.paths g.S.Urls.JsrUrlProvider.meaning g.S.Resolve.Resolver.is_told g.S.Resolve.Resolver.meaning (without_npm c.args.options.now)) (flags_of (without_npm c.args.options.now)) is.1 in (is.0, at.0, at.1, at.2))
