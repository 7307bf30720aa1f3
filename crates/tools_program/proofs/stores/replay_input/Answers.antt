use Rattle.std.proofs.Common.{refl, inl, inr}
use Rattle.std.proofs.lemmas.Result.{err_from_is_err_and}
use Rattle.graph_store.specs.Stores.{entries_in}
use Rattle.graph_store.specs.Worlds.{store_world}
use Rattle.tools_program.specs.Tasks.Task.{Replays}
use Rattle.tools_program.proofs.FaultLemmas.{emptied, fault_over}
use Rattle.tools_program.proofs.stores.replay_input.Goals as goal

pub returns-in_err-build-clause-fault : goal.returns-in_err-build-clause-fault
returns-in_err-build-clause-fault c =
    let p = err_from_is_err_and c.from_residual.result c.from_residual.ensures.1 in rw (p.1, p.2) (inl c.requires.fresh)

pub returns-in_err-graph_report-in-Ok-clause-fault : goal.returns-in_err-graph_report-in-Ok-clause-fault
returns-in_err-graph_report-in-Ok-clause-fault c =
    let p = err_from_is_err_and c.from_residual-in_err-graph_report-in-Ok.result c.from_residual-in_err-graph_report-in-Ok.ensures.1 in
    rw (p.1, p.2)
    (inr (c.in-Ok.ensures.promise c.args.input (store_world (entries_in c.args.store) c.args.input.world.max_redirects) c.in_ok-build.ensures.build c.new-loader.ensures.world refl c.requires.fresh))

pub returns-clause-fault : goal.returns-clause-fault
returns-clause-fault c =
    fault_over (Replays (entries_in c.args.store)) c.args.input c.build_over.new.graph _
    (emptied c.args.input _ c.build_over.new.graph c.requires.fresh c.in-Err.ensures.emptied)
    (λ is. c.in-Err.ensures.budget c.args.input (store_world (entries_in c.args.store) c.args.input.world.max_redirects) c.in_ok-build.ensures.build c.new-loader.ensures.world c.requires.fresh is)
    (λ is. c.in-Err.ensures.allowed is)
