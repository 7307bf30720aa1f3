-- What was added and what is left to add are all.
use Rattle.std.proofs.Common.{◌≡◌, length}
use Rattle.graph_turns.specs.Machine.Waiting.{notes_added}
use Rattle.graph_turns.proofs.state.State.add_dependencies.Given as goal

abbrev pub invariant-loop-note : goal.invariant-loop-note
invariant-loop-note g l = notes_added (g.U.JsrUrlProvider.meaning l.fn.urls) l.fn.self ≡ notes_added (g.U.JsrUrlProvider.meaning l.fn.urls) l.self

abbrev pub decreases-loop-note : goal.decreases-loop-note
decreases-loop-note g l = length l.self.notes
