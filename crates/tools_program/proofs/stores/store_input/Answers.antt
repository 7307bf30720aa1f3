use Rattle.std.proofs.Common.{◌≡◌, ◌∙◌, ℕ, Bool, false, Option, Some, sym, ap, refl, subst, inl, inr}
use Rattle.std.proofs.lemmas.Result.{err_from_is_err_and}
use Rattle.std.specs.Prelude.{IfSome}
use Rattle.source_io.specs.Answers.{lists_cache_info}
use Rattle.spec_base.specs.Options.{by_option}
use Rattle.source_io.specs.Loaders.{asked_of, may_fail_in, world_told}
use Rattle.source_io.specs.declared.types.World.{World}
use Rattle.source_io.specs.declared.world_loader.WorldLoader.{WorldLoader}
use Rattle.graph_store.specs.Stores.{entries_in}
use Rattle.graph_store.specs.Worlds.{AreToldBy}
use Rattle.graph_store.specs.declared.store.Store.{Store}
use Rattle.program_phases.proofs.CallsWithin.{fails_within, within_same}
use Rattle.tools_program.specs.StoreTool.{IsStoreOfBuild}
use Rattle.tools_program.specs.Tasks.Task.{Stores}
use Rattle.tools_program.proofs.FaultLemmas.{fault_over}
use Rattle.tools_program.proofs.stores.store_input.Goals as goal

-- a world that is told tells whether it lists cached copies
caches_told : {told : Option World} {w : World} → told ≡ Some w → by_option told false lists_cache_info ≡ lists_cache_info w
caches_told is = ap (λ o. by_option o false lists_cache_info) is

pub record_over-requires-clause-empty : goal.record_over-requires-clause-empty
record_over-requires-clause-empty c = c.new-recorder.ensures.empty

pub returns-in_err-build-clause-fault : goal.returns-in_err-build-clause-fault
returns-in_err-build-clause-fault c =
    let p = err_from_is_err_and c.from_residual.result c.from_residual.ensures.1 in rw (p.1, p.2) (inl c.requires.fresh)

pub returns-in_err-loader_of-clause-fault : goal.returns-in_err-loader_of-clause-fault
returns-in_err-loader_of-clause-fault c =
    let p = err_from_is_err_and c.from_residual-in_err-loader_of.result c.from_residual-in_err-loader_of.ensures.1 in rw (p.1, p.2) (inl c.requires.fresh)

pub returns-in-Err-clause-fault : goal.returns-in-Err-clause-fault
returns-in-Err-clause-fault c =
    let parts = c.in_ok-build.ensures.build in
    let inner = c.new-recorder.ensures.inner in
    let world = ap world_told inner ∙ c.in_ok-loader_of.ensures.world ∙ ap (λ (w : World). Some w) c.in_ok-build.ensures.world in
    fault_over Stores c.args.input c.args.graph.now _
    c.requires.fresh
    (λ is. c.in-Err.ensures.budget c.args.input c.args.input.world parts world refl is)
    (λ is.
    fails_within _ _ c.args.input.fail_next _ _ c.args.input.max_loads
    (λ n. ap (λ (l : WorldLoader). may_fail_in l n) inner ∙ c.in_ok-loader_of.ensures.may_fail n)
    c.in_ok-build.ensures.fail_next
    (ap asked_of inner ∙ c.in_ok-loader_of.ensures.asked)
    (within_same _ _ _ _ parts.max_loads c.record_over.ensures.within)
    (c.in-Err.ensures.allowed is))

pub returns-in_err-store_report-clause-fault : goal.returns-in_err-store_report-clause-fault
returns-in_err-store_report-clause-fault c =
    let p = err_from_is_err_and c.from_residual-in_err-store_report.result c.from_residual-in_err-store_report.ensures.1 in
    let inner = c.new-recorder.ensures.inner in
    let world = ap world_told inner ∙ c.in_ok-loader_of.ensures.world ∙ ap (λ (w : World). Some w) c.in_ok-build.ensures.world in
    rw (p.1, p.2) (inr (c.in-Ok.ensures.promise c.args.input c.args.input.world c.in_ok-build.ensures.build world (caches_told world) refl))

pub returns-clause-promise : goal.returns-clause-promise
returns-clause-promise c =
    let inner = c.new-recorder.ensures.inner in
    let world = ap world_told inner ∙ c.in_ok-loader_of.ensures.world ∙ ap (λ (w : World). Some w) c.in_ok-build.ensures.world in
    c.in-Ok.ensures.promise c.args.input c.args.input.world c.in_ok-build.ensures.build world (caches_told world) refl

pub returns-clause-report : goal.returns-clause-report
returns-clause-report c =
    let inner = c.new-recorder.ensures.inner in
    let world = ap world_told inner ∙ c.in_ok-loader_of.ensures.world ∙ ap (λ (w : World). Some w) c.in_ok-build.ensures.world in
    let told = subst (λ (o : Option World). IfSome o (AreToldBy (entries_in c.record_over.new.recorder.store))) (c.record_over.ensures.loader.same_world ∙ world) c.finish-loader.ensures.told in
    let kept = c.in-Ok.ensures.kept c.args.input c.args.input.world c.in_ok-build.ensures.build world (caches_told world) refl in (
      entries_in c.finish-loader.result.1,
      c.in_ok-store_report.ensures,
      subst (λ (s : Store). AreToldBy (entries_in s) c.args.input.world) (sym c.finish-loader.ensures.store) told,
      subst (λ (s : Store). IsStoreOfBuild c.args.input.world c.args.input (entries_in s) c.in-Ok.built) (sym c.finish-loader.ensures.store) kept,
    )
