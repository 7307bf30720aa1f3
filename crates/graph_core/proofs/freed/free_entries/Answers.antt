use Rattle.std.proofs.Common.{rules}
use Rattle.std.proofs.lemmas.Map.Made.{map_same_pairs}
use Rattle.graph_core.specs.Pruned.{freed_dependency}
use Rattle.graph_core.proofs.freed.free_entries.Goals as goal

pub returns : goal.returns
returns c = map_same_pairs _ freed_dependency _ (λ k v b w f' t. search rules) _ _ c.retain.ensures.filtered
