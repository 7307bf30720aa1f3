use Rattle.std.proofs.lemmas.Result.{err_from_is_err_and}
use Rattle.std.proofs.Common.{◌≡◌, ◌≤◌, ◌∙◌, ℕ, length, refl, sym, ap, subst, inr, Some}
use Rattle.module_info.specs.Infos.{infos_by}
use Rattle.graph_turns.specs.Machine.Turns.{PutsOver}
use Rattle.graph_turns.specs.declared.flags.Flags.{Flags}
use Rattle.graph_reloads.specs.Packages.{IsPackaged}
use Rattle.pkg_versions.specs.declared.resolver.JsrVersionResolver.{JsrVersionResolver}
use Rattle.program_phases.proofs.CallsWithin.{fails_within, within_same}
use Rattle.program_phases.proofs.Given.{flags_by_input, goes_by_input, noted_in, registry_by_input, resolves_by_input}
use Rattle.calls_program.proofs.Packages.{bare_at_npm, empty_of_bare, flags_without}
use Rattle.cache_filling.proofs.NotedLemmas.{noted_so}
use Rattle.program_phases.specs.Outcome.{ButCopies}
use Rattle.calls_program.proofs.Again.{none_pending_of}
use Rattle.calls_program.specs.Called.{begun_packages, told_to_packages, without_npm, without_resolutions}
use Rattle.calls_program.proofs.phases.packages_input.Goals as goal

pub returns-in-Ok-build_npm_packages-clause-called : goal.returns-in-Ok-build_npm_packages-clause-called
returns-in-Ok-build_npm_packages-clause-called c =
    let promise = c.in-Ok.ensures.promise in
    let circle = c.in-Ok.ensures.no_circle in
    let pending = none_pending_of (without_resolutions c.args.input) c.build_bare.new.graph promise in
    let at_npm = bare_at_npm c.args.input c.build_bare.new.graph promise in
    let newest = c.in_ok-tellers.tellers.versions.newest_dependency_date_options in
    let flags = flags_without c.args.input _ (flags_by_input c.args.input _ _ c.in_ok-tellers.ensures c.options-options.ensures.flags) in (
      c.build_bare.new.graph,
      record {
        promise = promise;
        packaged = subst (λ (f : Flags). ButCopies c.args.input (IsPackaged f c.build_bare.new.graph) c.build_npm_packages.new.self) flags (noted_in c.in_ok-again.again c.args.input.world c.in_ok-again.ensures.world (c.in-Ok-build_npm_packages.ensures.packaged circle at_npm pending));
        newest = newest;
        limit = c.in_ok-tellers.ensures.limit;
        explained = noted_in c.in_ok-again.again c.args.input.world c.in_ok-again.ensures.world (c.in-Ok-build_npm_packages.ensures.explained_packages circle at_npm pending (told_to_packages c.args.input newest) (record { answers = c.in_ok-again.ensures.world; known_is = goes_by_input (without_npm c.args.input) _ _ _ _ c.options-options.ensures.locker c.in_ok-locker.ensures.sums c.in_ok-locker.ensures.manifests c.options-options.ensures.store flags; infos = ap (λ a. Some (infos_by a.infos)) c.options-options.ensures.analyzer ∙ ap (λ i. Some (infos_by i)) c.in_ok-tellers.ensures.infos; paths = c.options-options.ensures.tree ∙ c.in_ok-tellers.ensures.tree; resolving = c.options-options.ensures.resolving ∙ ap Some (resolves_by_input c.args.input newest _ c.in_ok-tellers.ensures); registry = registry_by_input c.args.input newest _ _ (ap (λ u. u.url) c.options-options.ensures.urls) c.in_ok-tellers.ensures.urls; newest = ap (λ (r : JsrVersionResolver). r.newest_dependency_date_options) c.options-options.ensures.versions }) refl);
        without_modules = noted_in c.in_ok-again.again c.args.input.world c.in_ok-again.ensures.world (c.in-Ok-build_npm_packages.ensures.without_modules circle at_npm pending (told_to_packages c.args.input newest) (record { answers = c.in_ok-again.ensures.world; known_is = goes_by_input (without_npm c.args.input) _ _ _ _ c.options-options.ensures.locker c.in_ok-locker.ensures.sums c.in_ok-locker.ensures.manifests c.options-options.ensures.store flags; infos = ap (λ a. Some (infos_by a.infos)) c.options-options.ensures.analyzer ∙ ap (λ i. Some (infos_by i)) c.in_ok-tellers.ensures.infos; paths = c.options-options.ensures.tree ∙ c.in_ok-tellers.ensures.tree; resolving = c.options-options.ensures.resolving ∙ ap Some (resolves_by_input c.args.input newest _ c.in_ok-tellers.ensures); registry = registry_by_input c.args.input newest _ _ (ap (λ u. u.url) c.options-options.ensures.urls) c.in_ok-tellers.ensures.urls; newest = ap (λ (r : JsrVersionResolver). r.newest_dependency_date_options) c.options-options.ensures.versions }) refl);
        turned = noted_so (noted_in c.in_ok-again.again c.args.input.world c.in_ok-again.ensures.world (c.in-Ok-build_npm_packages.ensures.turned (told_to_packages c.args.input newest) (record { answers = c.in_ok-again.ensures.world; known_is = goes_by_input (without_npm c.args.input) _ _ _ _ c.options-options.ensures.locker c.in_ok-locker.ensures.sums c.in_ok-locker.ensures.manifests c.options-options.ensures.store flags; infos = ap (λ a. Some (infos_by a.infos)) c.options-options.ensures.analyzer ∙ ap (λ i. Some (infos_by i)) c.in_ok-tellers.ensures.infos; paths = c.options-options.ensures.tree ∙ c.in_ok-tellers.ensures.tree; resolving = c.options-options.ensures.resolving ∙ ap Some (resolves_by_input c.args.input newest _ c.in_ok-tellers.ensures); registry = registry_by_input c.args.input newest _ _ (ap (λ u. u.url) c.options-options.ensures.urls) c.in_ok-tellers.ensures.urls; newest = ap (λ (r : JsrVersionResolver). r.newest_dependency_date_options) c.options-options.ensures.versions }) refl)) (λ bare turns. (turns.0, _, turns.1.0, turns.1.1));
      },
    )

pub returns-clause-emptied : goal.returns-clause-emptied
returns-clause-emptied c = empty_of_bare c.args.input c.build_bare.new.graph c.in-Ok.ensures.promise c.build_npm_packages.new.self c.in-Err-build_npm_packages.ensures.emptied

pub returns-clause-budget : goal.returns-clause-budget
returns-clause-budget c =
    let promise = c.in-Ok.ensures.promise in
    let at_npm = bare_at_npm c.args.input c.build_bare.new.graph promise in
    let newest = c.in_ok-tellers.tellers.versions.newest_dependency_date_options in
    let flags = flags_without c.args.input _ (flags_by_input c.args.input _ _ c.in_ok-tellers.ensures c.options-options.ensures.flags) in
    λ is. inr (record {
      built = c.build_bare.new.graph;
      promise = promise;
      newest = newest;
      limit = c.in_ok-tellers.ensures.limit;
      over =
          subst (λ (n : ℕ). PutsOver (told_to_packages c.args.input newest) c.build_bare.new.graph.kind (begun_packages c.args.input newest c.args.called.now c.build_bare.new.graph) n) c.options-options.ensures.budget
          (c.in-Err-build_npm_packages.ensures.overspent (told_to_packages c.args.input newest) (record { answers = c.in_ok-again.ensures.world; known_is = goes_by_input (without_npm c.args.input) _ _ _ _ c.options-options.ensures.locker c.in_ok-locker.ensures.sums c.in_ok-locker.ensures.manifests c.options-options.ensures.store flags; infos = ap (λ a. Some (infos_by a.infos)) c.options-options.ensures.analyzer ∙ ap (λ i. Some (infos_by i)) c.in_ok-tellers.ensures.infos; paths = c.options-options.ensures.tree ∙ c.in_ok-tellers.ensures.tree; resolving = c.options-options.ensures.resolving ∙ ap Some (resolves_by_input c.args.input newest _ c.in_ok-tellers.ensures); registry = registry_by_input c.args.input newest _ _ (ap (λ u. u.url) c.options-options.ensures.urls) c.in_ok-tellers.ensures.urls; newest = ap (λ (r : JsrVersionResolver). r.newest_dependency_date_options) c.options-options.ensures.versions }) is);
      more = λ questions covers enough.
          c.in-Err-build_npm_packages.ensures.room
          c.in-Ok.ensures.no_circle
          at_npm
          (told_to_packages c.args.input newest)
          questions
          (record { answers = c.in_ok-again.ensures.world; known_is = goes_by_input (without_npm c.args.input) _ _ _ _ c.options-options.ensures.locker c.in_ok-locker.ensures.sums c.in_ok-locker.ensures.manifests c.options-options.ensures.store flags; infos = ap (λ a. Some (infos_by a.infos)) c.options-options.ensures.analyzer ∙ ap (λ i. Some (infos_by i)) c.in_ok-tellers.ensures.infos; paths = c.options-options.ensures.tree ∙ c.in_ok-tellers.ensures.tree; resolving = c.options-options.ensures.resolving ∙ ap Some (resolves_by_input c.args.input newest _ c.in_ok-tellers.ensures); registry = registry_by_input c.args.input newest _ _ (ap (λ u. u.url) c.options-options.ensures.urls) c.in_ok-tellers.ensures.urls; newest = ap (λ (r : JsrVersionResolver). r.newest_dependency_date_options) c.options-options.ensures.versions })
          covers
          (subst (λ (n : ℕ). length questions ≤ n) (sym c.options-options.ensures.budget) enough)
          is;
    })

-- want of memory is no fault of the budget, and none of the loader
pub returns-in_err-again-clause-budget : goal.returns-in_err-again-clause-budget
returns-in_err-again-clause-budget c =
    let p = err_from_is_err_and c.from_residual-in_err-again.result c.from_residual-in_err-again.ensures.1 in rw (p.1, p.2) (λ is. absurd (cc))

pub returns-in_err-again-clause-loader : goal.returns-in_err-again-clause-loader
returns-in_err-again-clause-loader c =
    let p = err_from_is_err_and c.from_residual-in_err-again.result c.from_residual-in_err-again.ensures.1 in rw (p.1, p.2) (λ is. absurd (cc))

pub returns-clause-loader : goal.returns-clause-loader
returns-clause-loader c = λ is.
    fails_within _ c.args.input.fail_next c.args.input.fail_next _ _ _ c.in_ok-again.ensures.may_fail refl c.in_ok-again.ensures.asked (within_same _ _ _ _ c.options-options.ensures.budget c.in-Err-build_npm_packages.ensures.within) (c.in-Err-build_npm_packages.ensures.allowed is)
