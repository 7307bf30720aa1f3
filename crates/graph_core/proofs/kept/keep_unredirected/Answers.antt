use Rattle.std.proofs.Common.{rules}
use Rattle.std.specs.Prelude.{◌&&◌, not}
use Rattle.std.specs.FinMap as finite
use Rattle.std.specs.List.{list_any}
use Rattle.std.proofs.lemmas.Map.Made.{filter_same_pairs}
use Rattle.spec_base.specs.Specifier.{same_specifier, specifier_text}
use Rattle.graph_core.proofs.kept.keep_unredirected.Goals as goal

pub returns : goal.returns
returns c =
    filter_same_pairs _ (λ e. list_any (same_specifier e.0) c.args.kept.now && not (finite.contains_key c.args.redirects.now (specifier_text e.0))) _
    (λ k v b w f' t. search rules) _ _ c.retain.ensures.filtered
