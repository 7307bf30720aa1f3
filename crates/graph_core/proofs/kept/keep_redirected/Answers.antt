use Rattle.std.proofs.Common.{rules}
use Rattle.std.specs.List.{list_any}
use Rattle.std.proofs.lemmas.Map.Made.{filter_same_pairs}
use Rattle.spec_base.specs.Specifier.{same_specifier}
use Rattle.graph_core.proofs.kept.keep_redirected.Goals as goal

pub returns : goal.returns
returns c = filter_same_pairs _ (λ e. list_any (same_specifier e.0) c.args.kept.now) _ (λ k v b w f' t. search rules) _ _ c.retain.ensures.filtered
