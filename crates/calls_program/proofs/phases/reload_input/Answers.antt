use Rattle.std.proofs.lemmas.Result.{err_from_is_err_and}
use Rattle.std.proofs.Common.{◌≡◌, ◌≤◌, ◌∙◌, ℕ, List, length, refl, sym, ap, subst, inr, Some}
use Rattle.module_info.specs.Infos.{infos_by}
use Rattle.url.specs.Parts.{Parts}
use Rattle.turn_laws.specs.Promise.Reloads.{reloading}
use Rattle.graph_turns.specs.Machine.Turns.{PutsOver}
use Rattle.turn_laws.specs.Promise.Reloaded.{IsReloaded}
use Rattle.graph_turns.specs.declared.flags.Flags.{Flags}
use Rattle.pkg_versions.specs.declared.resolver.JsrVersionResolver.{JsrVersionResolver}
use Rattle.cache_filling.proofs.NotedLemmas.{noted_so}
use Rattle.program_phases.specs.Outcome.{ButCopies, told_of_input}
use Rattle.program_phases.proofs.CallsWithin.{fails_within, within_same}
use Rattle.program_phases.proofs.Given.{flags_by_input, goes_by_input, noted_in, npm_by_input, registry_by_input, resolves_by_input}
use Rattle.calls_program.proofs.Again.{again_in, covers_loaded, empty_of_input, none_pending_of}
use Rattle.module_info.specs.Infos.{infos_by}
use Rattle.calls_program.proofs.phases.reload_input.Goals as goal

pub returns-in-Ok-reload-clause-called : goal.returns-in-Ok-reload-clause-called
returns-in-Ok-reload-clause-called c =
    let promise = c.in-Ok.ensures.promise in
    let circle = c.in-Ok.ensures.no_circle in
    let pending = none_pending_of c.args.input c.build_by.new.graph promise in
    let newest = c.in_ok-tellers.tellers.versions.newest_dependency_date_options in
    let flags = flags_by_input c.args.input _ _ c.in_ok-tellers.ensures c.options-options.ensures.flags in (
      c.build_by.new.graph,
      again_in c.args.input c.build_by.new.graph promise newest c.in_ok-tellers.ensures.limit c.into_vec.result.items c.args.specifiers.now (c.into_vec.ensures ∙ c.in_ok-given.ensures) c.reload.new.self
          (subst (λ (f : Flags). ButCopies c.args.input (IsReloaded f c.build_by.new.graph c.into_vec.result.items) c.reload.new.self) flags (noted_in c.in_ok-again.again c.args.input.world c.in_ok-again.ensures.world (c.in-Ok-reload.ensures.reloaded circle pending)))
          (noted_in c.in_ok-again.again c.args.input.world c.in_ok-again.ensures.world (c.in-Ok-reload.ensures.explained_again circle pending (told_of_input c.args.input newest)
          (record { answers = c.in_ok-again.ensures.world; known_is = goes_by_input c.args.input _ _ _ _ c.options-options.ensures.locker c.in_ok-locker.ensures.sums c.in_ok-locker.ensures.manifests c.options-options.ensures.store flags; infos = ap (λ a. Some (infos_by a.infos)) c.options-options.ensures.analyzer ∙ ap (λ i. Some (infos_by i)) c.in_ok-tellers.ensures.infos; paths = c.options-options.ensures.tree ∙ c.in_ok-tellers.ensures.tree; resolving = c.options-options.ensures.resolving ∙ ap Some (resolves_by_input c.args.input newest _ c.in_ok-tellers.ensures); registry = registry_by_input c.args.input newest _ _ (ap (λ u. u.url) c.options-options.ensures.urls) c.in_ok-tellers.ensures.urls; newest = ap (λ (r : JsrVersionResolver). r.newest_dependency_date_options) c.options-options.ensures.versions }) (npm_by_input c.args.input newest _ _ c.in_ok-tellers.ensures c.options-options.ensures.npm)))
          (noted_in c.in_ok-again.again c.args.input.world c.in_ok-again.ensures.world (c.in-Ok-reload.ensures.renewed circle pending (told_of_input c.args.input newest)
          (record { answers = c.in_ok-again.ensures.world; known_is = goes_by_input c.args.input _ _ _ _ c.options-options.ensures.locker c.in_ok-locker.ensures.sums c.in_ok-locker.ensures.manifests c.options-options.ensures.store flags; infos = ap (λ a. Some (infos_by a.infos)) c.options-options.ensures.analyzer ∙ ap (λ i. Some (infos_by i)) c.in_ok-tellers.ensures.infos; paths = c.options-options.ensures.tree ∙ c.in_ok-tellers.ensures.tree; resolving = c.options-options.ensures.resolving ∙ ap Some (resolves_by_input c.args.input newest _ c.in_ok-tellers.ensures); registry = registry_by_input c.args.input newest _ _ (ap (λ u. u.url) c.options-options.ensures.urls) c.in_ok-tellers.ensures.urls; newest = ap (λ (r : JsrVersionResolver). r.newest_dependency_date_options) c.options-options.ensures.versions }) (npm_by_input c.args.input newest _ _ c.in_ok-tellers.ensures c.options-options.ensures.npm)))
          (noted_so (noted_in c.in_ok-again.again c.args.input.world c.in_ok-again.ensures.world (c.in-Ok-reload.ensures.turned (told_of_input c.args.input newest) (record { answers = c.in_ok-again.ensures.world; known_is = goes_by_input c.args.input _ _ _ _ c.options-options.ensures.locker c.in_ok-locker.ensures.sums c.in_ok-locker.ensures.manifests c.options-options.ensures.store flags; infos = ap (λ a. Some (infos_by a.infos)) c.options-options.ensures.analyzer ∙ ap (λ i. Some (infos_by i)) c.in_ok-tellers.ensures.infos; paths = c.options-options.ensures.tree ∙ c.in_ok-tellers.ensures.tree; resolving = c.options-options.ensures.resolving ∙ ap Some (resolves_by_input c.args.input newest _ c.in_ok-tellers.ensures); registry = registry_by_input c.args.input newest _ _ (ap (λ u. u.url) c.options-options.ensures.urls) c.in_ok-tellers.ensures.urls; newest = ap (λ (r : JsrVersionResolver). r.newest_dependency_date_options) c.options-options.ensures.versions }) (npm_by_input c.args.input newest _ _ c.in_ok-tellers.ensures c.options-options.ensures.npm))) (λ bare turns. (turns.0, _, turns.1.0, turns.1.1))),
    )

pub returns-clause-emptied : goal.returns-clause-emptied
returns-clause-emptied c = empty_of_input c.args.input c.build_by.new.graph c.in-Ok.ensures.promise c.reload.new.self c.in-Err-reload.ensures.emptied

pub returns-clause-budget : goal.returns-clause-budget
returns-clause-budget c =
    let promise = c.in-Ok.ensures.promise in
    let newest = c.in_ok-tellers.tellers.versions.newest_dependency_date_options in
    let flags = flags_by_input c.args.input _ _ c.in_ok-tellers.ensures c.options-options.ensures.flags in
    λ is. inr (record {
      built = c.build_by.new.graph;
      promise = promise;
      newest = newest;
      limit = c.in_ok-tellers.ensures.limit;
      over =
          subst (λ (n : ℕ). PutsOver (told_of_input c.args.input newest) c.build_by.new.graph.kind (reloading (told_of_input c.args.input newest).known c.build_by.new.graph c.args.specifiers.now) n) c.options-options.ensures.budget
          (subst (λ (l : List Parts). PutsOver (told_of_input c.args.input newest) c.build_by.new.graph.kind (reloading (told_of_input c.args.input newest).known c.build_by.new.graph l) c.options-options.result.max_loads) (c.into_vec.ensures ∙ c.in_ok-given.ensures)
          (c.in-Err-reload.ensures.overspent (told_of_input c.args.input newest) (record { answers = c.in_ok-again.ensures.world; known_is = goes_by_input c.args.input _ _ _ _ c.options-options.ensures.locker c.in_ok-locker.ensures.sums c.in_ok-locker.ensures.manifests c.options-options.ensures.store flags; infos = ap (λ a. Some (infos_by a.infos)) c.options-options.ensures.analyzer ∙ ap (λ i. Some (infos_by i)) c.in_ok-tellers.ensures.infos; paths = c.options-options.ensures.tree ∙ c.in_ok-tellers.ensures.tree; resolving = c.options-options.ensures.resolving ∙ ap Some (resolves_by_input c.args.input newest _ c.in_ok-tellers.ensures); registry = registry_by_input c.args.input newest _ _ (ap (λ u. u.url) c.options-options.ensures.urls) c.in_ok-tellers.ensures.urls; newest = ap (λ (r : JsrVersionResolver). r.newest_dependency_date_options) c.options-options.ensures.versions }) is));
      more = λ questions covers enough.
          c.in-Err-reload.ensures.room
          c.in-Ok.ensures.no_circle
          (told_of_input c.args.input newest)
          questions
          (record { answers = c.in_ok-again.ensures.world; known_is = goes_by_input c.args.input _ _ _ _ c.options-options.ensures.locker c.in_ok-locker.ensures.sums c.in_ok-locker.ensures.manifests c.options-options.ensures.store flags; infos = ap (λ a. Some (infos_by a.infos)) c.options-options.ensures.analyzer ∙ ap (λ i. Some (infos_by i)) c.in_ok-tellers.ensures.infos; paths = c.options-options.ensures.tree ∙ c.in_ok-tellers.ensures.tree; resolving = c.options-options.ensures.resolving ∙ ap Some (resolves_by_input c.args.input newest _ c.in_ok-tellers.ensures); registry = registry_by_input c.args.input newest _ _ (ap (λ u. u.url) c.options-options.ensures.urls) c.in_ok-tellers.ensures.urls; newest = ap (λ (r : JsrVersionResolver). r.newest_dependency_date_options) c.options-options.ensures.versions })
          (covers_loaded c.args.input c.build_by.new.graph promise newest c.in_ok-tellers.ensures.limit c.into_vec.result.items c.args.specifiers.now (c.into_vec.ensures ∙ c.in_ok-given.ensures) questions covers)
          (subst (λ (n : ℕ). length questions ≤ n) (sym c.options-options.ensures.budget) enough)
          is;
    })

-- want of memory is no fault of the budget, and none of the loader
pub returns-in_err-again-clause-budget : goal.returns-in_err-again-clause-budget
returns-in_err-again-clause-budget c =
    let p = err_from_is_err_and c.from_residual-in_err-again.result c.from_residual-in_err-again.ensures.1 in rw (p.1, p.2) (λ is. absurd (cc))

pub returns-in_err-again-clause-loader : goal.returns-in_err-again-clause-loader
returns-in_err-again-clause-loader c =
    let p = err_from_is_err_and c.from_residual-in_err-again.result c.from_residual-in_err-again.ensures.1 in rw (p.1, p.2) (λ is. absurd (cc))

pub returns-clause-loader : goal.returns-clause-loader
returns-clause-loader c = λ is.
    fails_within _ c.args.input.fail_next c.args.input.fail_next _ _ _ c.in_ok-again.ensures.may_fail refl c.in_ok-again.ensures.asked (within_same _ _ _ _ c.options-options.ensures.budget c.in-Err-reload.ensures.within) (c.in-Err-reload.ensures.allowed is)
