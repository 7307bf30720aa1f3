use Rattle.std.proofs.Common.{rules}
use Rattle.std.proofs.lemmas.Map.Made.{map_same_pairs}
use Rattle.graph_core.specs.Pruned.{freed_slot}
use Rattle.graph_core.proofs.kept.free_slots.Goals as goal

pub returns : goal.returns
returns c = map_same_pairs _ freed_slot _ (λ k v b w f' t. search rules) _ _ c.retain.ensures.filtered
