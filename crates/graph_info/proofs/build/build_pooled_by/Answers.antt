use Rattle.std.proofs.Common.{ap, ◌∙◌, Some}
use Rattle.module_info.specs.Infos.{infos_by}
use Rattle.graph_core.specs.declared.graph.ModuleGraph.{ModuleGraph}
use Rattle.pkg_versions.specs.declared.resolver.JsrVersionResolver.{JsrVersionResolver}
use Rattle.std.specs.Arc.{arc_value}
use Rattle.cache_filling.proofs.NotedLemmas.{noted_so}
use Rattle.program_phases.specs.Outcome.{told_of_input}
use Rattle.program_phases.proofs.CallsWithin.{within_budget}
use Rattle.program_phases.proofs.Given.{promise_in, covers_given, enough_given, flags_by_input, goes_by_input, noted_in, npm_by_input, over_in, registry_by_input, resolves_by_input, turned_in, within_in}
use Rattle.module_info.specs.Infos.{infos_by}
use Rattle.graph_info.proofs.build.build_pooled_by.Goals as goal

pub returns-in-Ok-clause-promise : goal.returns-in-Ok-clause-promise
returns-in-Ok-clause-promise g c =
    let newest = c.args.tellers.now.versions.newest_dependency_date_options in
    let resolving = c.options-options.ensures.resolving ∙ ap Some (resolves_by_input c.args.input newest _ c.requires.tells) in
    let flags = flags_by_input c.args.input _ _ c.requires.tells c.options-options.ensures.flags in
    let kind_is = ap (λ (x : ModuleGraph). x.kind) c.requires.fresh in
    promise_in c.args.input newest _ _ _ kind_is c.into_vec.ensures c.into_vec-2.ensures _ _ _ c.requires.tells.limit resolving flags
    (noted_in (arc_value c.in_ok-fetcher.fetcher) c.args.input.world c.in_ok-fetcher.ensures c.in-Ok.ensures.complete)
    (noted_in (arc_value c.in_ok-fetcher.fetcher) c.args.input.world c.in_ok-fetcher.ensures (c.in-Ok.ensures.explained (told_of_input c.args.input newest) (record { answers = c.in_ok-fetcher.ensures; known_is = goes_by_input c.args.input _ _ _ _ c.options-options.ensures.locker c.in_ok-locker.ensures.sums c.in_ok-locker.ensures.manifests c.options-options.ensures.store flags; infos = ap (λ a. Some (infos_by a.infos)) c.options-options.ensures.analyzer ∙ ap (λ i. Some (infos_by i)) c.requires.tells.infos; paths = c.options-options.ensures.tree ∙ c.requires.tells.tree; resolving = resolving; registry = registry_by_input c.args.input newest _ _ (ap (λ u. u.url) c.options-options.ensures.urls) c.requires.tells.urls; newest = ap (λ (r : JsrVersionResolver). r.newest_dependency_date_options) c.options-options.ensures.versions }) (npm_by_input c.args.input newest _ _ c.requires.tells c.options-options.ensures.npm)))
    (λ settled. noted_in (arc_value c.in_ok-fetcher.fetcher) c.args.input.world c.in_ok-fetcher.ensures (c.in-Ok.ensures.static_first (told_of_input c.args.input newest) (record { answers = c.in_ok-fetcher.ensures; known_is = goes_by_input c.args.input _ _ _ _ c.options-options.ensures.locker c.in_ok-locker.ensures.sums c.in_ok-locker.ensures.manifests c.options-options.ensures.store flags; infos = ap (λ a. Some (infos_by a.infos)) c.options-options.ensures.analyzer ∙ ap (λ i. Some (infos_by i)) c.requires.tells.infos; paths = c.options-options.ensures.tree ∙ c.requires.tells.tree; resolving = resolving; registry = registry_by_input c.args.input newest _ _ (ap (λ u. u.url) c.options-options.ensures.urls) c.requires.tells.urls; newest = ap (λ (r : JsrVersionResolver). r.newest_dependency_date_options) c.options-options.ensures.versions }) settled))
    (noted_so (noted_in (arc_value c.in_ok-fetcher.fetcher) c.args.input.world c.in_ok-fetcher.ensures ((c.in-Ok.ensures.turned (told_of_input c.args.input newest) (record { answers = c.in_ok-fetcher.ensures; known_is = goes_by_input c.args.input _ _ _ _ c.options-options.ensures.locker c.in_ok-locker.ensures.sums c.in_ok-locker.ensures.manifests c.options-options.ensures.store flags; infos = ap (λ a. Some (infos_by a.infos)) c.options-options.ensures.analyzer ∙ ap (λ i. Some (infos_by i)) c.requires.tells.infos; paths = c.options-options.ensures.tree ∙ c.requires.tells.tree; resolving = resolving; registry = registry_by_input c.args.input newest _ _ (ap (λ u. u.url) c.options-options.ensures.urls) c.requires.tells.urls; newest = ap (λ (r : JsrVersionResolver). r.newest_dependency_date_options) c.options-options.ensures.versions }) (npm_by_input c.args.input newest _ _ c.requires.tells c.options-options.ensures.npm))))
    (λ bare asked. turned_in c.args.input newest _ _ _ kind_is c.into_vec.ensures c.into_vec-2.ensures _ _ asked.1.0 _ asked.1.1.0 c.requires.fresh asked.1.1.1))
    (within_in c.args.input newest _ _ _ kind_is c.into_vec.ensures c.into_vec-2.ensures _ _ c.requires.fresh c.options-options.ensures.budget (c.in-Ok.ensures.afforded (told_of_input c.args.input newest) (record { answers = c.in_ok-fetcher.ensures; known_is = goes_by_input c.args.input _ _ _ _ c.options-options.ensures.locker c.in_ok-locker.ensures.sums c.in_ok-locker.ensures.manifests c.options-options.ensures.store flags; infos = ap (λ a. Some (infos_by a.infos)) c.options-options.ensures.analyzer ∙ ap (λ i. Some (infos_by i)) c.requires.tells.infos; paths = c.options-options.ensures.tree ∙ c.requires.tells.tree; resolving = resolving; registry = registry_by_input c.args.input newest _ _ (ap (λ u. u.url) c.options-options.ensures.urls) c.requires.tells.urls; newest = ap (λ (r : JsrVersionResolver). r.newest_dependency_date_options) c.options-options.ensures.versions })))

pub returns-clause-budget : goal.returns-clause-budget
returns-clause-budget g c =
    let newest = c.args.tellers.now.versions.newest_dependency_date_options in
    let resolving = c.options-options.ensures.resolving ∙ ap Some (resolves_by_input c.args.input newest _ c.requires.tells) in
    let flags = flags_by_input c.args.input _ _ c.requires.tells c.options-options.ensures.flags in
    let kind_is = ap (λ (x : ModuleGraph). x.kind) c.requires.fresh in
    λ is. record {
      newest = newest;
      limit = c.requires.tells.limit;
      over =
          over_in c.args.input newest _ _ _ kind_is c.into_vec.ensures c.into_vec-2.ensures _ _ c.requires.fresh c.options-options.ensures.budget
          (c.in-Err.ensures.overspent (told_of_input c.args.input newest) (record { answers = c.in_ok-fetcher.ensures; known_is = goes_by_input c.args.input _ _ _ _ c.options-options.ensures.locker c.in_ok-locker.ensures.sums c.in_ok-locker.ensures.manifests c.options-options.ensures.store flags; infos = ap (λ a. Some (infos_by a.infos)) c.options-options.ensures.analyzer ∙ ap (λ i. Some (infos_by i)) c.requires.tells.infos; paths = c.options-options.ensures.tree ∙ c.requires.tells.tree; resolving = resolving; registry = registry_by_input c.args.input newest _ _ (ap (λ u. u.url) c.options-options.ensures.urls) c.requires.tells.urls; newest = ap (λ (r : JsrVersionResolver). r.newest_dependency_date_options) c.options-options.ensures.versions }) is);
      uncovered = λ questions covers within.
          c.in-Err.ensures.room
          (told_of_input c.args.input newest)
          questions
          (record { answers = c.in_ok-fetcher.ensures; known_is = goes_by_input c.args.input _ _ _ _ c.options-options.ensures.locker c.in_ok-locker.ensures.sums c.in_ok-locker.ensures.manifests c.options-options.ensures.store flags; infos = ap (λ a. Some (infos_by a.infos)) c.options-options.ensures.analyzer ∙ ap (λ i. Some (infos_by i)) c.requires.tells.infos; paths = c.options-options.ensures.tree ∙ c.requires.tells.tree; resolving = resolving; registry = registry_by_input c.args.input newest _ _ (ap (λ u. u.url) c.options-options.ensures.urls) c.requires.tells.urls; newest = ap (λ (r : JsrVersionResolver). r.newest_dependency_date_options) c.options-options.ensures.versions })
          (covers_given c.args.input newest _ _ _ kind_is c.into_vec.ensures c.into_vec-2.ensures questions covers)
          (within_budget _ _ _ c.options-options.ensures.budget (enough_given c.args.input newest _ _ _ kind_is c.into_vec.ensures c.into_vec-2.ensures _ questions _ c.requires.fresh within))
          is;
    }
