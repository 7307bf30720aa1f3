use Rattle.std.proofs.Common.{◌≡◌, ◌≤◌, ◌+◌, ℕ, length, sym, ap, subst, ◌∙◌, Some, arith}
use Rattle.module_info.specs.Infos.{infos_by}
use Rattle.graph_core.specs.declared.graph.ModuleGraph.{ModuleGraph}
use Rattle.pkg_versions.specs.declared.resolver.JsrVersionResolver.{JsrVersionResolver}
use Rattle.cache_filling.proofs.NotedLemmas.{noted_so}
use Rattle.graph_builder.proofs.Calls.Copies.{no_circle_noted}
use Rattle.program_phases.specs.Outcome.{told_of_input}
use Rattle.program_phases.proofs.CallsWithin.{fails_last, fails_within, within_budget, within_same}
use Rattle.program_phases.proofs.Empty.{own_kind, fresh_no_circle, fresh_none_pending}
use Rattle.program_phases.proofs.Given.{promise_in, covers_given, enough_given, flags_by_input, goes_by_input, least_in, noted_in, npm_by_input, over_in, registry_by_input, resolves_by_input, turned_in, within_in}
use Rattle.module_info.specs.Infos.{infos_by}
use Rattle.graph_program.proofs.builds.build_by.Goals as goal

pub returns-in-Ok-clause-promise : goal.returns-in-Ok-clause-promise
returns-in-Ok-clause-promise c =
    let new = own_kind _ _ c.requires.fresh in
    let newest = c.args.tellers.now.versions.newest_dependency_date_options in
    let resolving = c.options-options.ensures.resolving ∙ ap Some (resolves_by_input c.args.input newest _ c.requires.tells) in
    let flags = flags_by_input c.args.input _ _ c.requires.tells c.options-options.ensures.flags in
    let kind_is = ap (λ (x : ModuleGraph). x.kind) c.requires.fresh in
    promise_in c.args.input newest _ _ _ kind_is c.into_vec-3.ensures c.into_vec-4.ensures _ _ _ c.requires.tells.limit resolving flags
    (noted_in c.in_ok-loader.loader c.args.input.world c.in_ok-loader.ensures.world (c.in-Ok.ensures.complete new))
    (noted_in c.in_ok-loader.loader c.args.input.world c.in_ok-loader.ensures.world (c.in-Ok.ensures.explained new (told_of_input c.args.input newest) (record { answers = c.in_ok-loader.ensures.world; known_is = goes_by_input c.args.input _ _ _ _ c.options-options.ensures.locker c.in_ok-locker.ensures.sums c.in_ok-locker.ensures.manifests c.options-options.ensures.store flags; infos = ap (λ a. Some (infos_by a.infos)) c.options-options.ensures.analyzer ∙ ap (λ i. Some (infos_by i)) c.requires.tells.infos; paths = c.options-options.ensures.tree ∙ c.requires.tells.tree; resolving = resolving; registry = registry_by_input c.args.input newest _ _ (ap (λ u. u.url) c.options-options.ensures.urls) c.requires.tells.urls; newest = ap (λ (r : JsrVersionResolver). r.newest_dependency_date_options) c.options-options.ensures.versions }) (npm_by_input c.args.input newest _ _ c.requires.tells c.options-options.ensures.npm)))
    (λ settled. noted_in c.in_ok-loader.loader c.args.input.world c.in_ok-loader.ensures.world (c.in-Ok.ensures.static_first new (told_of_input c.args.input newest) (record { answers = c.in_ok-loader.ensures.world; known_is = goes_by_input c.args.input _ _ _ _ c.options-options.ensures.locker c.in_ok-locker.ensures.sums c.in_ok-locker.ensures.manifests c.options-options.ensures.store flags; infos = ap (λ a. Some (infos_by a.infos)) c.options-options.ensures.analyzer ∙ ap (λ i. Some (infos_by i)) c.requires.tells.infos; paths = c.options-options.ensures.tree ∙ c.requires.tells.tree; resolving = resolving; registry = registry_by_input c.args.input newest _ _ (ap (λ u. u.url) c.options-options.ensures.urls) c.requires.tells.urls; newest = ap (λ (r : JsrVersionResolver). r.newest_dependency_date_options) c.options-options.ensures.versions }) settled))
    (noted_so (noted_in c.in_ok-loader.loader c.args.input.world c.in_ok-loader.ensures.world (c.in-Ok.ensures.turned (fresh_no_circle _ _ c.requires.fresh) (told_of_input c.args.input newest) (record { answers = c.in_ok-loader.ensures.world; known_is = goes_by_input c.args.input _ _ _ _ c.options-options.ensures.locker c.in_ok-locker.ensures.sums c.in_ok-locker.ensures.manifests c.options-options.ensures.store flags; infos = ap (λ a. Some (infos_by a.infos)) c.options-options.ensures.analyzer ∙ ap (λ i. Some (infos_by i)) c.requires.tells.infos; paths = c.options-options.ensures.tree ∙ c.requires.tells.tree; resolving = resolving; registry = registry_by_input c.args.input newest _ _ (ap (λ u. u.url) c.options-options.ensures.urls) c.requires.tells.urls; newest = ap (λ (r : JsrVersionResolver). r.newest_dependency_date_options) c.options-options.ensures.versions }) (npm_by_input c.args.input newest _ _ c.requires.tells c.options-options.ensures.npm)))
    (λ bare turns. turned_in c.args.input newest _ _ _ kind_is c.into_vec-3.ensures c.into_vec-4.ensures _ _ turns.0 _ turns.1.0 c.requires.fresh turns.1.1))
    (within_in c.args.input newest _ _ _ kind_is c.into_vec-3.ensures c.into_vec-4.ensures _ _ c.requires.fresh c.options-options.ensures.budget (c.in-Ok.ensures.afforded (fresh_no_circle _ _ c.requires.fresh) (told_of_input c.args.input newest) (record { answers = c.in_ok-loader.ensures.world; known_is = goes_by_input c.args.input _ _ _ _ c.options-options.ensures.locker c.in_ok-locker.ensures.sums c.in_ok-locker.ensures.manifests c.options-options.ensures.store flags; infos = ap (λ a. Some (infos_by a.infos)) c.options-options.ensures.analyzer ∙ ap (λ i. Some (infos_by i)) c.requires.tells.infos; paths = c.options-options.ensures.tree ∙ c.requires.tells.tree; resolving = resolving; registry = registry_by_input c.args.input newest _ _ (ap (λ u. u.url) c.options-options.ensures.urls) c.requires.tells.urls; newest = ap (λ (r : JsrVersionResolver). r.newest_dependency_date_options) c.options-options.ensures.versions })))

pub returns-in-Ok-clause-no_circle : goal.returns-in-Ok-clause-no_circle
returns-in-Ok-clause-no_circle c =
    let built = c.in-Ok.ensures.complete_over (fresh_no_circle _ _ c.requires.fresh) (fresh_none_pending _ _ c.requires.fresh) in
    no_circle_noted _ _ built.bare c.build.new.self built.notes built.holds.no_circle

pub returns-clause-budget : goal.returns-clause-budget
returns-clause-budget c =
    let newest = c.args.tellers.now.versions.newest_dependency_date_options in
    let resolving = c.options-options.ensures.resolving ∙ ap Some (resolves_by_input c.args.input newest _ c.requires.tells) in
    let flags = flags_by_input c.args.input _ _ c.requires.tells c.options-options.ensures.flags in
    let kind_is = ap (λ (x : ModuleGraph). x.kind) c.requires.fresh in
    λ is. record {
      newest = newest;
      limit = c.requires.tells.limit;
      over =
          over_in c.args.input newest _ _ _ kind_is c.into_vec-3.ensures c.into_vec-4.ensures _ _ c.requires.fresh c.options-options.ensures.budget
          (c.in-Err.ensures.overspent (told_of_input c.args.input newest) (record { answers = c.in_ok-loader.ensures.world; known_is = goes_by_input c.args.input _ _ _ _ c.options-options.ensures.locker c.in_ok-locker.ensures.sums c.in_ok-locker.ensures.manifests c.options-options.ensures.store flags; infos = ap (λ a. Some (infos_by a.infos)) c.options-options.ensures.analyzer ∙ ap (λ i. Some (infos_by i)) c.requires.tells.infos; paths = c.options-options.ensures.tree ∙ c.requires.tells.tree; resolving = resolving; registry = registry_by_input c.args.input newest _ _ (ap (λ u. u.url) c.options-options.ensures.urls) c.requires.tells.urls; newest = ap (λ (r : JsrVersionResolver). r.newest_dependency_date_options) c.options-options.ensures.versions }) is);
      uncovered = λ questions covers within.
          c.in-Err.ensures.room
          (own_kind _ _ c.requires.fresh)
          (told_of_input c.args.input newest)
          questions
          (record { answers = c.in_ok-loader.ensures.world; known_is = goes_by_input c.args.input _ _ _ _ c.options-options.ensures.locker c.in_ok-locker.ensures.sums c.in_ok-locker.ensures.manifests c.options-options.ensures.store flags; infos = ap (λ a. Some (infos_by a.infos)) c.options-options.ensures.analyzer ∙ ap (λ i. Some (infos_by i)) c.requires.tells.infos; paths = c.options-options.ensures.tree ∙ c.requires.tells.tree; resolving = resolving; registry = registry_by_input c.args.input newest _ _ (ap (λ u. u.url) c.options-options.ensures.urls) c.requires.tells.urls; newest = ap (λ (r : JsrVersionResolver). r.newest_dependency_date_options) c.options-options.ensures.versions })
          (covers_given c.args.input newest _ _ _ kind_is c.into_vec-3.ensures c.into_vec-4.ensures questions covers)
          (within_budget _ _ _ c.options-options.ensures.budget (enough_given c.args.input newest _ _ _ kind_is c.into_vec-3.ensures c.into_vec-4.ensures _ questions _ c.requires.fresh within))
          is;
    }

pub returns-clause-loader : goal.returns-clause-loader
returns-clause-loader c = λ is.
    fails_within _ _ _ _ _ _ c.in_ok-loader.ensures.may_fail c.into_vec-2.ensures c.in_ok-loader.ensures.asked (within_same _ _ _ _ c.options-options.ensures.budget c.in-Err.ensures.within) (c.in-Err.ensures.allowed is)

pub returns-clause-paced : goal.returns-clause-paced
returns-clause-paced c =
    let newest = c.args.tellers.now.versions.newest_dependency_date_options in
    let resolving = c.options-options.ensures.resolving ∙ ap Some (resolves_by_input c.args.input newest _ c.requires.tells) in
    let flags = flags_by_input c.args.input _ _ c.requires.tells c.options-options.ensures.flags in
    let kind_is = ap (λ (x : ModuleGraph). x.kind) c.requires.fresh in
    λ is.
    let put =
    least_in c.args.input newest _ _ _ kind_is c.into_vec-3.ensures c.into_vec-4.ensures _ _ _ c.requires.fresh
    (c.in-Err.ensures.paced (fresh_no_circle _ _ c.requires.fresh) (told_of_input c.args.input newest) (record { answers = c.in_ok-loader.ensures.world; known_is = goes_by_input c.args.input _ _ _ _ c.options-options.ensures.locker c.in_ok-locker.ensures.sums c.in_ok-locker.ensures.manifests c.options-options.ensures.store flags; infos = ap (λ a. Some (infos_by a.infos)) c.options-options.ensures.analyzer ∙ ap (λ i. Some (infos_by i)) c.requires.tells.infos; paths = c.options-options.ensures.tree ∙ c.requires.tells.tree; resolving = resolving; registry = registry_by_input c.args.input newest _ _ (ap (λ u. u.url) c.options-options.ensures.urls) c.requires.tells.urls; newest = ap (λ (r : JsrVersionResolver). r.newest_dependency_date_options) c.options-options.ensures.versions }) is) in
    record {
      newest = newest;
      limit = c.requires.tells.limit;
      count = put.count;
      last = _;
      fails = fails_last _ _ _ _ c.in_ok-loader.ensures.may_fail c.into_vec-2.ensures (c.in-Err.ensures.allowed is);
      within = (let within = within_same _ _ _ _ c.options-options.ensures.budget c.in-Err.ensures.within in let first = c.in_ok-loader.ensures.asked in omega (arith, within, first));
      put = (let enough = put.enough in let first = c.in_ok-loader.ensures.asked in omega (arith, enough, first));
    }
