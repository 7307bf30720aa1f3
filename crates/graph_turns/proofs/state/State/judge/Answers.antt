use Rattle.std.proofs.Common.{◌≡◌, ◌∙◌, Some, List, sym, ap}
use Rattle.std.proofs.lemmas.Result.{on_ok_weaker}
use Rattle.graph_turns.specs.declared.choosing.Verdict.TheVariants.{AsksAgain, Fails, Gets, Probes, Restarts}
use Rattle.graph_turns.specs.declared.registry.RegistryFile.{RegistryFile}
use Rattle.graph_turns.proofs.Entering.Verdicts.{again_first, first_is, none_first, probes_first, restart_first}
use Rattle.graph_turns.proofs.state.State.judge.Goals as goal

pub returns-in-None : goal.returns-in-None
returns-in-None g c = sym (none_first c.args.registry.now.versions.now.newest_dependency_date_options c.args.self.now (sym c.in_ok-first_verdict.ensures ∙ c.in-None.is))

pub returns-in-Some-AsksAgain : goal.returns-in-Some-AsksAgain
returns-in-Some-AsksAgain g c =
    let s = c.args.self.now in
    let first = sym c.in_ok-first_verdict.ensures ∙ c.in-Some-AsksAgain.is ∙ ap Some c.in-Some-AsksAgain.field-0-is in
    on_ok_weaker c.push_back.result
    (λ e. ap (λ (l : List RegistryFile). record s { wanted = l }) e ∙ sym (again_first c.args.registry.now.versions.now.newest_dependency_date_options s c.in-Some-AsksAgain.name first))
    c.push_back.ensures.ok

pub returns-in-Some-Probes : goal.returns-in-Some-Probes
returns-in-Some-Probes g c =
    let first = sym c.in_ok-first_verdict.ensures ∙ c.in-Some-Probes.is ∙ ap Some c.in-Some-Probes.field-0-is in
    on_ok_weaker c.probe.result (λ e. e ∙ sym (probes_first c.args.registry.now.versions.now.newest_dependency_date_options c.args.self.now c.in-Some-Probes.nvs first)) c.probe.ensures

pub returns-in-Some-Restarts : goal.returns-in-Some-Restarts
returns-in-Some-Restarts g c =
    let first = sym c.in_ok-first_verdict.ensures ∙ c.in-Some-Restarts.is ∙ ap Some c.in-Some-Restarts.field-0-is in
    c.want_restart.ensures ∙ sym (restart_first c.args.registry.now.versions.now.newest_dependency_date_options c.args.self.now first)

pub returns-in-Some-Gets : goal.returns-in-Some-Gets
returns-in-Some-Gets g c =
    let first = sym c.in_ok-first_verdict.ensures ∙ c.in-Some-Gets.is ∙ ap Some c.in-Some-Gets.field-0-is in
    let f = first_is c.args.registry.now.versions.now.newest_dependency_date_options c.args.self.now (Gets c.in-Some-Gets.nv c.in-Some-Gets.is_yanked) first in
    on_ok_weaker c.give_version.result (λ e. e ∙ sym f.is) (c.give_version.ensures f.p f.first f.others f.goes f.items)

pub returns-in-Some-Fails : goal.returns-in-Some-Fails
returns-in-Some-Fails g c =
    let first = sym c.in_ok-first_verdict.ensures ∙ c.in-Some-Fails.is ∙ ap Some c.in-Some-Fails.field-0-is in
    let f = first_is c.args.registry.now.versions.now.newest_dependency_date_options c.args.self.now (Fails c.in-Some-Fails.error) first in
    on_ok_weaker c.refuse_item.result (λ e. e ∙ sym f.is) (c.refuse_item.ensures f.p f.first f.others f.goes f.items)
