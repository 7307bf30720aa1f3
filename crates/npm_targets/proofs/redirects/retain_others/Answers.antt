use Rattle.std.proofs.Common.{rules}
use Rattle.std.specs.Prelude.{not}
use Rattle.std.proofs.lemmas.Map.Made.{filter_same_pairs}
use Rattle.npm_targets.specs.Edges.{is_npm}
use Rattle.npm_targets.proofs.redirects.retain_others.Goals as goal

pub returns-clause-left : goal.returns-clause-left
returns-clause-left c = filter_same_pairs _ (λ e. not (is_npm e.1)) _ (λ k v b w f' t. search rules) _ _ c.retain.ensures.filtered
