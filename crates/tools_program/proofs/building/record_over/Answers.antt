use Rattle.std.proofs.Common.{◌≡◌, List, [], Option, Some, sym, ap, subst, ◌∙◌, is_some}
use Rattle.graph_core.specs.Graph.{new_graph}
use Rattle.graph_core.specs.declared.graph.ModuleGraph.{ModuleGraph}
use Rattle.graph_store.specs.Stores.{entries_in}
use Rattle.graph_store.specs.Worlds.{AreFrom}
use Rattle.graph_store.specs.declared.entry.StoreEntry.{StoreEntry}
use Rattle.graph_turns.specs.Promise.Input.{Given}
use Rattle.pkg_versions.specs.declared.resolver.JsrVersionResolver.{JsrVersionResolver}
use Rattle.source_io.specs.declared.types.World.{World}
use Rattle.store_turns.specs.Answering.{AreKept}
use Rattle.store_turns.specs.Questions.{AreAnswersTo}
use Rattle.world_file.specs.declared.settings.Settings.{Settings}
use Rattle.program_phases.specs.Sums.{flags_by}
use Rattle.program_phases.proofs.CallsWithin.{within_budget, within_same}
use Rattle.program_phases.proofs.Given.{flags_by_input, goes_by_input, npm_by_input, registry_by_input, resolves_by_input}
use Rattle.module_info.specs.Infos.{infos_by}
use Rattle.cache_filling.proofs.NotedLemmas.{noted_so}
use Rattle.tools_program.specs.StoreTool.{IsStoreOfBuild}
use Rattle.tools_program.specs.Told.{KeepsPromiseOver, told_over}
use Rattle.tools_program.proofs.OverLemmas.{covers_over, enough_over, given_is, left_over, noted_over, promise_over}
use Rattle.tools_program.proofs.building.record_over.Goals as goal

-- no entries are told by every world, and about every question
none_kept : (world : Option World) (es : List StoreEntry) → es ≡ [] → AreKept world es
none_kept world es none = λ w is storable. subst (AreFrom w) (sym none) tt

pub returns-in-Ok-clause-promise : goal.returns-in-Ok-clause-promise
returns-in-Ok-clause-promise g c = λ input world p answers caches kind_is.
    let t = c.args.parts.tellers in
    let newest = t.versions.newest_dependency_date_options in
    let roots = c.into_vec.ensures ∙ p.roots in
    let imports = c.into_vec-2.ensures ∙ p.imports in
    let resolving = c.options-options.ensures.resolving ∙ ap Some (resolves_by_input input newest t p.tells) in
    let flags = flags_by_input input t _ p.tells (c.options-options.ensures.flags ∙ ap (λ (s : Settings). flags_by s t.passthrough_jsr (is_some t.npm)) p.settings) in
    let turned = noted_so (noted_over _ _ world caches answers (c.in-Ok.ensures.turned (told_over world input newest) (record { answers = answers; known_is = goes_by_input input _ c.args.parts.locker _ _ c.options-options.ensures.locker p.sums p.manifests c.options-options.ensures.store flags; infos = ap (λ a. Some (infos_by a.infos)) c.options-options.ensures.analyzer ∙ ap (λ i. Some (infos_by i)) p.tells.infos; paths = c.options-options.ensures.tree ∙ p.tells.tree; resolving = resolving; registry = registry_by_input input newest _ _ (ap (λ u. u.url) c.options-options.ensures.urls) p.tells.urls; newest = ap (λ (r : JsrVersionResolver). r.newest_dependency_date_options) c.options-options.ensures.versions }) (npm_by_input input newest t _ p.tells c.options-options.ensures.npm))) (λ bare at. left_over world input newest _ _ _ kind_is roots imports bare _ _ _ at) in
    subst (λ (x : ModuleGraph). KeepsPromiseOver world input x) (sym c.into_graph.ensures)
    (promise_over world input newest _ _ _ kind_is roots imports _ _ _ p.tells.limit resolving flags (noted_over _ _ world caches answers c.in-Ok.ensures.complete)
    (noted_over _ _ world caches answers (c.in-Ok.ensures.explained (told_over world input newest) (record { answers = answers; known_is = goes_by_input input _ c.args.parts.locker _ _ c.options-options.ensures.locker p.sums p.manifests c.options-options.ensures.store flags; infos = ap (λ a. Some (infos_by a.infos)) c.options-options.ensures.analyzer ∙ ap (λ i. Some (infos_by i)) p.tells.infos; paths = c.options-options.ensures.tree ∙ p.tells.tree; resolving = resolving; registry = registry_by_input input newest _ _ (ap (λ u. u.url) c.options-options.ensures.urls) p.tells.urls; newest = ap (λ (r : JsrVersionResolver). r.newest_dependency_date_options) c.options-options.ensures.versions }) (npm_by_input input newest t _ p.tells c.options-options.ensures.npm)))
    (λ settled. noted_over _ _ world caches answers (c.in-Ok.ensures.static_first (told_over world input newest) (record { answers = answers; known_is = goes_by_input input _ c.args.parts.locker _ _ c.options-options.ensures.locker p.sums p.manifests c.options-options.ensures.store flags; infos = ap (λ a. Some (infos_by a.infos)) c.options-options.ensures.analyzer ∙ ap (λ i. Some (infos_by i)) p.tells.infos; paths = c.options-options.ensures.tree ∙ p.tells.tree; resolving = resolving; registry = registry_by_input input newest _ _ (ap (λ u. u.url) c.options-options.ensures.urls) p.tells.urls; newest = ap (λ (r : JsrVersionResolver). r.newest_dependency_date_options) c.options-options.ensures.versions }) settled))
    (noted_so turned (λ bare at. (at.0, at.1, _, at.2))))

pub returns-in-Ok-clause-kept : goal.returns-in-Ok-clause-kept
returns-in-Ok-clause-kept g c = λ input world p answers caches kind_is.
    let t = c.args.parts.tellers in
    let newest = t.versions.newest_dependency_date_options in
    let roots = c.into_vec.ensures ∙ p.roots in
    let imports = c.into_vec-2.ensures ∙ p.imports in
    let resolving = c.options-options.ensures.resolving ∙ ap Some (resolves_by_input input newest t p.tells) in
    let flags = flags_by_input input t _ p.tells (c.options-options.ensures.flags ∙ ap (λ (s : Settings). flags_by s t.passthrough_jsr (is_some t.npm)) p.settings) in
    let given = given_is world input newest _ _ _ kind_is roots imports in
    subst (λ (x : ModuleGraph). IsStoreOfBuild world input (entries_in c.record.new.recorder.store) x) (sym c.into_graph.ensures)
    (record {
      newest = newest;
      limit = p.tells.limit;
      put = c.in-Ok.recorded.questions;
      turned = noted_so (noted_over _ _ world caches answers (c.in-Ok.ensures.turned (told_over world input newest) (record { answers = answers; known_is = goes_by_input input _ c.args.parts.locker _ _ c.options-options.ensures.locker p.sums p.manifests c.options-options.ensures.store flags; infos = ap (λ a. Some (infos_by a.infos)) c.options-options.ensures.analyzer ∙ ap (λ i. Some (infos_by i)) p.tells.infos; paths = c.options-options.ensures.tree ∙ p.tells.tree; resolving = resolving; registry = registry_by_input input newest _ _ (ap (λ u. u.url) c.options-options.ensures.urls) p.tells.urls; newest = ap (λ (r : JsrVersionResolver). r.newest_dependency_date_options) c.options-options.ensures.versions }) (npm_by_input input newest t _ p.tells c.options-options.ensures.npm))) (λ bare at. left_over world input newest _ _ _ kind_is roots imports bare _ _ _ at);
      about = subst (λ (x : Given). AreAnswersTo (told_over world input newest) x (entries_in c.record.new.recorder.store)) given
          (c.in-Ok.ensures.about (told_over world input newest) (record { answers = answers; known_is = goes_by_input input _ c.args.parts.locker _ _ c.options-options.ensures.locker p.sums p.manifests c.options-options.ensures.store flags; infos = ap (λ a. Some (infos_by a.infos)) c.options-options.ensures.analyzer ∙ ap (λ i. Some (infos_by i)) p.tells.infos; paths = c.options-options.ensures.tree ∙ p.tells.tree; resolving = resolving; registry = registry_by_input input newest _ _ (ap (λ u. u.url) c.options-options.ensures.urls) p.tells.urls; newest = ap (λ (r : JsrVersionResolver). r.newest_dependency_date_options) c.options-options.ensures.versions }) (subst (AreAnswersTo (told_over world input newest) _) (sym c.requires.empty) tt));
      alone = λ storable other fits as_many. noted_so (noted_over _ _ world caches answers (c.in-Ok.ensures.kept (told_over world input newest) other (record { answers = answers; known_is = goes_by_input input _ c.args.parts.locker _ _ c.options-options.ensures.locker p.sums p.manifests c.options-options.ensures.store flags; infos = ap (λ a. Some (infos_by a.infos)) c.options-options.ensures.analyzer ∙ ap (λ i. Some (infos_by i)) p.tells.infos; paths = c.options-options.ensures.tree ∙ p.tells.tree; resolving = resolving; registry = registry_by_input input newest _ _ (ap (λ u. u.url) c.options-options.ensures.urls) p.tells.urls; newest = ap (λ (r : JsrVersionResolver). r.newest_dependency_date_options) c.options-options.ensures.versions }) (npm_by_input input newest t _ p.tells c.options-options.ensures.npm) storable (none_kept _ _ c.requires.empty) fits as_many))
          (λ bare at. left_over other input newest _ _ _ kind_is roots imports bare _ _ _ at);
    })

pub returns-clause-budget : goal.returns-clause-budget
returns-clause-budget g c = λ input world p answers kind_is is.
    let t = c.args.parts.tellers in
    let newest = t.versions.newest_dependency_date_options in
    let roots = c.into_vec.ensures ∙ p.roots in
    let imports = c.into_vec-2.ensures ∙ p.imports in
    let resolving = c.options-options.ensures.resolving ∙ ap Some (resolves_by_input input newest t p.tells) in
    let flags = flags_by_input input t _ p.tells (c.options-options.ensures.flags ∙ ap (λ (s : Settings). flags_by s t.passthrough_jsr (is_some t.npm)) p.settings) in
    let new = ap new_graph kind_is in (
      newest,
      p.tells.limit,
      λ questions covers within.
          c.in-Err.ensures.room
          (told_over world input newest)
          questions
          (record { answers = answers; known_is = goes_by_input input _ c.args.parts.locker _ _ c.options-options.ensures.locker p.sums p.manifests c.options-options.ensures.store flags; infos = ap (λ a. Some (infos_by a.infos)) c.options-options.ensures.analyzer ∙ ap (λ i. Some (infos_by i)) p.tells.infos; paths = c.options-options.ensures.tree ∙ p.tells.tree; resolving = resolving; registry = registry_by_input input newest _ _ (ap (λ u. u.url) c.options-options.ensures.urls) p.tells.urls; newest = ap (λ (r : JsrVersionResolver). r.newest_dependency_date_options) c.options-options.ensures.versions })
          (covers_over world input newest _ _ _ kind_is roots imports questions covers)
          (within_budget _ _ _ (c.options-options.ensures.budget ∙ p.max_loads) (enough_over world input newest _ _ _ kind_is roots imports _ questions _ new within))
          is,
    )

pub returns-in-Ok-clause-within : goal.returns-in-Ok-clause-within
returns-in-Ok-clause-within g c = within_same _ _ _ _ c.options-options.ensures.budget c.record.ensures.within

pub returns-clause-within : goal.returns-clause-within
returns-clause-within g c = within_same _ _ _ _ c.options-options.ensures.budget c.record.ensures.within
