use Rattle.std.proofs.Common.{◌≡◌, ap, ◌∙◌, Some, is_some}
use Rattle.graph_core.specs.declared.graph.ModuleGraph.{ModuleGraph}
use Rattle.pkg_versions.specs.declared.resolver.JsrVersionResolver.{JsrVersionResolver}
use Rattle.world_file.specs.declared.settings.Settings.{Settings}
use Rattle.program_phases.specs.Sums.{flags_by}
use Rattle.program_phases.proofs.CallsWithin.{within_budget, within_same}
use Rattle.program_phases.proofs.Empty.{own_kind, fresh_no_circle}
use Rattle.program_phases.proofs.Given.{flags_by_input, goes_by_input, npm_by_input, registry_by_input, resolves_by_input}
use Rattle.cache_filling.proofs.NotedLemmas.{noted_so}
use Rattle.tools_program.specs.Told.{told_over}
use Rattle.tools_program.proofs.OverLemmas.{covers_over, enough_over, noted_over, promise_over, turned_over}
use Rattle.module_info.specs.Infos.{infos_by}
use Rattle.tools_program.proofs.building.build_over.Goals as goal

pub returns-in-Ok-clause-promise : goal.returns-in-Ok-clause-promise
returns-in-Ok-clause-promise g c = λ input world p answers caches fresh.
    let t = c.args.parts.tellers in
    let newest = t.versions.newest_dependency_date_options in
    let new = own_kind _ _ fresh in
    let kind_is = ap (λ (x : ModuleGraph). x.kind) fresh in
    let roots = c.into_vec.ensures ∙ p.roots in
    let imports = c.into_vec-2.ensures ∙ p.imports in
    let resolving = c.options-options.ensures.resolving ∙ ap Some (resolves_by_input input newest t p.tells) in
    let flags = flags_by_input input t _ p.tells (c.options-options.ensures.flags ∙ ap (λ (s : Settings). flags_by s t.passthrough_jsr (is_some t.npm)) p.settings) in
    promise_over world input newest _ _ _ kind_is roots imports _ _ _ p.tells.limit resolving flags
    (noted_over _ _ world caches answers (c.in-Ok.ensures.complete new))
    (noted_over _ _ world caches answers (c.in-Ok.ensures.explained new (told_over world input newest) (record { answers = answers; known_is = goes_by_input input _ c.args.parts.locker _ _ c.options-options.ensures.locker p.sums p.manifests c.options-options.ensures.store flags; infos = ap (λ a. Some (infos_by a.infos)) c.options-options.ensures.analyzer ∙ ap (λ i. Some (infos_by i)) p.tells.infos; paths = c.options-options.ensures.tree ∙ p.tells.tree; resolving = resolving; registry = registry_by_input input newest _ _ (ap (λ u. u.url) c.options-options.ensures.urls) p.tells.urls; newest = ap (λ (r : JsrVersionResolver). r.newest_dependency_date_options) c.options-options.ensures.versions }) (npm_by_input input newest t _ p.tells c.options-options.ensures.npm)))
    (λ settled. noted_over _ _ world caches answers (c.in-Ok.ensures.static_first new (told_over world input newest) (record { answers = answers; known_is = goes_by_input input _ c.args.parts.locker _ _ c.options-options.ensures.locker p.sums p.manifests c.options-options.ensures.store flags; infos = ap (λ a. Some (infos_by a.infos)) c.options-options.ensures.analyzer ∙ ap (λ i. Some (infos_by i)) p.tells.infos; paths = c.options-options.ensures.tree ∙ p.tells.tree; resolving = resolving; registry = registry_by_input input newest _ _ (ap (λ u. u.url) c.options-options.ensures.urls) p.tells.urls; newest = ap (λ (r : JsrVersionResolver). r.newest_dependency_date_options) c.options-options.ensures.versions }) settled))
    (noted_so (noted_over _ _ world caches answers (c.in-Ok.ensures.turned (fresh_no_circle _ _ fresh) (told_over world input newest) (record { answers = answers; known_is = goes_by_input input _ c.args.parts.locker _ _ c.options-options.ensures.locker p.sums p.manifests c.options-options.ensures.store flags; infos = ap (λ a. Some (infos_by a.infos)) c.options-options.ensures.analyzer ∙ ap (λ i. Some (infos_by i)) p.tells.infos; paths = c.options-options.ensures.tree ∙ p.tells.tree; resolving = resolving; registry = registry_by_input input newest _ _ (ap (λ u. u.url) c.options-options.ensures.urls) p.tells.urls; newest = ap (λ (r : JsrVersionResolver). r.newest_dependency_date_options) c.options-options.ensures.versions }) (npm_by_input input newest t _ p.tells c.options-options.ensures.npm)))
    (λ bare turns. turned_over world input newest _ _ _ kind_is roots imports _ _ turns.0 _ turns.1.0 fresh turns.1.1))

pub returns-clause-budget : goal.returns-clause-budget
returns-clause-budget g c = λ input world p answers fresh is.
    let t = c.args.parts.tellers in
    let newest = t.versions.newest_dependency_date_options in
    let kind_is = ap (λ (x : ModuleGraph). x.kind) fresh in
    let roots = c.into_vec.ensures ∙ p.roots in
    let imports = c.into_vec-2.ensures ∙ p.imports in
    let resolving = c.options-options.ensures.resolving ∙ ap Some (resolves_by_input input newest t p.tells) in
    let flags = flags_by_input input t _ p.tells (c.options-options.ensures.flags ∙ ap (λ (s : Settings). flags_by s t.passthrough_jsr (is_some t.npm)) p.settings) in (
      newest,
      p.tells.limit,
      λ questions covers within.
          c.in-Err.ensures.room
          (own_kind _ _ fresh)
          (told_over world input newest)
          questions
          (record { answers = answers; known_is = goes_by_input input _ c.args.parts.locker _ _ c.options-options.ensures.locker p.sums p.manifests c.options-options.ensures.store flags; infos = ap (λ a. Some (infos_by a.infos)) c.options-options.ensures.analyzer ∙ ap (λ i. Some (infos_by i)) p.tells.infos; paths = c.options-options.ensures.tree ∙ p.tells.tree; resolving = resolving; registry = registry_by_input input newest _ _ (ap (λ u. u.url) c.options-options.ensures.urls) p.tells.urls; newest = ap (λ (r : JsrVersionResolver). r.newest_dependency_date_options) c.options-options.ensures.versions })
          (covers_over world input newest _ _ _ kind_is roots imports questions covers)
          (within_budget _ _ _ (c.options-options.ensures.budget ∙ p.max_loads) (enough_over world input newest _ _ _ kind_is roots imports _ questions _ fresh within))
          is,
    )

pub returns-in-Ok-clause-within : goal.returns-in-Ok-clause-within
returns-in-Ok-clause-within g c = within_same _ _ _ _ c.options-options.ensures.budget c.in-Ok.ensures.within

pub returns-clause-within : goal.returns-clause-within
returns-clause-within g c = within_same _ _ _ _ c.options-options.ensures.budget c.in-Err.ensures.within
