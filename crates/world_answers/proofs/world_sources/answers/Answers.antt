use Rattle.std.proofs.Common.{◌≡◌, ◌++◌, ◌∙◌, IfOk, ap, subst}
use Rattle.source_io.specs.declared.types.CacheSetting.TheVariants.{Reload}
use Rattle.world_answers.specs.AnswerOrder.{ordered}
use Rattle.world_answers.specs.WorldSources.{answers_under, answers_under_both, answers_cached}
use Rattle.world_answers.proofs.SourceLemmas.{together_ordered}
use Rattle.world_answers.proofs.world_sources.answers.Goals as goal

pub returns : goal.returns
returns c =
    let reloaded = c.in_ok-put_answers.ensures ∙ ap (λ l. l ++ answers_under Reload c.args.reload) c.in_ok-answers.ensures in
    let used = c.in_ok-put_under_both.ensures ∙ ap (λ l. l ++ answers_under_both c.args.sources) reloaded in
    let all = c.in_ok-put_cached.ensures ∙ ap (λ l. l ++ answers_cached c.args.cached) used in
    subst (λ l. IfOk c.ordered.result (λ found. found ≡ l)) (ap ordered all ∙ together_ordered c.args.sources c.args.reload c.args.cached) c.ordered.ensures
