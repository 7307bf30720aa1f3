use Rattle.std.proofs.Common.{◌≡◌, ◌∙◌, sym, subst}
use Rattle.std.specs.Prelude.{IfOk}
use Rattle.graph_turns.specs.declared.choosing.Verdict.{Verdict}
use Rattle.graph_turns.proofs.Entering.Verdicts.{verdict_first, verdict_now}
use Rattle.graph_turns.proofs.state.State.verdict_in.Goals as goal

pub returns-then-len-eq0 : goal.returns-then-len-eq0
returns-then-len-eq0 g c =
    subst (λ (v : Verdict). IfOk c.verdict_by.result (λ x. x ≡ v))
    (verdict_now c.args.registry.now.versions.now.newest_dependency_date_options c.args.self.now c.args.req.now c.args.info.now c.in_ok-nvs.nvs c.in_ok-nvs.ensures (sym c.len.ensures ∙ c.if-len-eq0.true))
    c.verdict_by.ensures

pub returns-else-len-eq0 : goal.returns-else-len-eq0
returns-else-len-eq0 g c =
    verdict_first c.args.registry.now.versions.now.newest_dependency_date_options c.args.self.now c.args.req.now c.args.info.now c.in_ok-nvs.nvs c.in_ok-nvs.ensures (λ none. c.if-len-eq0.false (c.len.ensures ∙ none))
