use Rattle.std.specs.Vec.{vec_capacity}
use Rattle.graph_store.proofs.AnswerMap.{IsMoving}
use Rattle.graph_store.proofs.answer_map.AnswerMap.into_store.Given as goal

abbrev pub invariant-loop-specifier : goal.invariant-loop-specifier
invariant-loop-specifier l = IsMoving l.fn.self l.specifier-iterator l.entries.items (vec_capacity l.entries)
