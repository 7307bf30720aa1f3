use Rattle.std.proofs.Common.{◌≡◌, ◌∙◌, ℕ, List, sym, ap, subst}
use Rattle.std.specs.Prelude.{IfOk}
use Rattle.graph_turns.specs.declared.choosing.Verdict.TheVariants.{Gets}
use Rattle.graph_turns.proofs.Entering.Verdicts.{verdict_found, verdict_none}
use Rattle.graph_turns.proofs.state.State.verdict_by.Goals as goal

pub returns-in-Err : goal.returns-in-Err
returns-in-Err g c =
    subst (λ v. IfOk c.without_version.result (λ x. x ≡ v))
    (verdict_none c.args.registry.now.versions.now.newest_dependency_date_options c.args.self.now c.args.req.now c.args.info.now c.in-Err.error (sym c.in-Err.is ∙ c.in_ok-error.ensures))
    c.without_version.ensures

pub returns-in_ok-name-in-Ok : goal.returns-in_ok-name-in-Ok
returns-in_ok-name-in-Ok g c =
    ap (λ (n : List ℕ). Gets (record { name = n; version = c.in-Ok.version }) c.in-Ok.is_yanked) c.in_ok-name-in-Ok.ensures
    ∙ verdict_found c.args.registry.now.versions.now.newest_dependency_date_options c.args.self.now c.args.req.now c.args.info.now c.in-Ok.version c.in-Ok.is_yanked (sym c.in-Ok.is ∙ c.in_ok-error.ensures)
