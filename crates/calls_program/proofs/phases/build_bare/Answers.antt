use Rattle.std.proofs.Common.{◌≡◌, ◌∙◌, ap, sym, subst}
use Rattle.std.specs.Prelude.{IfErr, OnErr, OnOk}
use Rattle.graph_core.specs.Graph.{new_graph}
use Rattle.open_loads.specs.declared.fault.BuildFault.TheVariants.{Budget, Loader}
use Rattle.world_file.specs.declared.input.Input.{Input}
use Rattle.program_phases.specs.Outcome.{FailsWithin, IsTooLarge, KeepsPromise}
use Rattle.calls_program.proofs.phases.build_bare.Goals as goal

pub build_by-requires-clause-fresh : goal.build_by-requires-clause-fresh
build_by-requires-clause-fresh c = c.requires.fresh ∙ ap (λ (i : Input). new_graph i.kind) (sym c.without_resolutions-bare.ensures)

pub returns-clause-promise : goal.returns-clause-promise
returns-clause-promise c = subst (λ (i : Input). OnOk c.build_by.result (KeepsPromise i c.build_by.new.graph)) c.without_resolutions-bare.ensures c.build_by.ensures.promise

pub returns-clause-emptied : goal.returns-clause-emptied
returns-clause-emptied c = subst (λ (i : Input). OnErr c.build_by.result (c.build_by.new.graph ≡ new_graph i.kind)) c.without_resolutions-bare.ensures c.build_by.ensures.emptied

pub returns-clause-budget : goal.returns-clause-budget
returns-clause-budget c = subst (λ (i : Input). IfErr c.build_by.result (λ fault. fault ≡ Budget → IsTooLarge i)) c.without_resolutions-bare.ensures c.build_by.ensures.budget

pub returns-clause-loader : goal.returns-clause-loader
returns-clause-loader c = subst (λ (i : Input). IfErr c.build_by.result (λ fault. fault ≡ Loader → FailsWithin i)) c.without_resolutions-bare.ensures c.build_by.ensures.loader
