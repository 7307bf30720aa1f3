use Rattle.std.proofs.Common.{◌≡◌, rules, subst}
use Rattle.std.specs.Prelude.{IfErr}
use Rattle.graph_store.specs.Stores.{entries_in}
use Rattle.tools_program.specs.Tasks.{Task, task_in}
use Rattle.tools_program.specs.Tasks.Task.{Replays, Stores}
use Rattle.tools_program.specs.Told.{SaysOfFault}
use Rattle.tools_program.proofs.FaultLemmas.{fault_of, promise_of}
use Rattle.tools_program.proofs.phases.report_by.Goals as goal

pub returns-in-Lock-clause-promise : goal.returns-in-Lock-clause-promise
returns-in-Lock-clause-promise c = promise_of (task_in c.args.task) c.args.input c.lock_input.new.graph (search rules) c.lock_input.result c.lock_input.ensures.promise

pub returns-in-Lock-clause-fault : goal.returns-in-Lock-clause-fault
returns-in-Lock-clause-fault c = fault_of (task_in c.args.task) c.args.input c.lock_input.new.graph (search rules) c.lock_input.result (search rules) c.lock_input.ensures.fault

pub returns-in-Policy-clause-promise : goal.returns-in-Policy-clause-promise
returns-in-Policy-clause-promise c = promise_of (task_in c.args.task) c.args.input c.policy_input.new.graph (search rules) c.policy_input.result c.policy_input.ensures.promise

pub returns-in-Policy-clause-fault : goal.returns-in-Policy-clause-fault
returns-in-Policy-clause-fault c = fault_of (task_in c.args.task) c.args.input c.policy_input.new.graph (search rules) c.policy_input.result (search rules) c.policy_input.ensures.fault

pub returns-in-Map-clause-promise : goal.returns-in-Map-clause-promise
returns-in-Map-clause-promise c = promise_of (task_in c.args.task) c.args.input c.map_input.new.graph (search rules) c.map_input.result c.map_input.ensures.promise

pub returns-in-Map-clause-fault : goal.returns-in-Map-clause-fault
returns-in-Map-clause-fault c = fault_of (task_in c.args.task) c.args.input c.map_input.new.graph (search rules) c.map_input.result (search rules) c.map_input.ensures.fault

pub returns-in-Store-clause-fault : goal.returns-in-Store-clause-fault
returns-in-Store-clause-fault c =
    let same : Stores ≡ task_in c.args.task = search rules in
    subst (λ (t : Task). IfErr c.store_input.result (λ f. SaysOfFault t c.args.input c.store_input.new.graph f)) same c.store_input.ensures.fault

pub returns-clause-fault : goal.returns-clause-fault
returns-clause-fault c =
    let same : Replays (entries_in c.in-Replay.store) ≡ task_in c.args.task = search rules in
    subst (λ (t : Task). IfErr c.replay_input.result (λ f. SaysOfFault t c.args.input c.replay_input.new.graph f)) same c.replay_input.ensures.fault
