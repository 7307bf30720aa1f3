use Rattle.std.proofs.Common.{◌≡◌, ◌∙◌, List, sym, ap}
use Rattle.graph_turns.specs.declared.dependencies.Note.{Note}
use Rattle.graph_turns.proofs.Entering.Noted.{all_noted, one_noted}
use Rattle.graph_turns.proofs.state.State.add_dependencies.Goals as goal

pub loop-note-preserved : goal.loop-note-preserved
loop-note-preserved g c =
    c.loop-note.invariant
    ∙ one_noted (g.U.JsrUrlProvider.meaning c.args.urls.now) c.loop-note.self c.add_dependency.new.self c.in-Some.note c.pop_front.new.self c.in-Some.ensures.some c.in_ok-add_dependency.ensures

pub returns : goal.returns
returns g c =
    ap (λ (l : List Note). record c.loop-note.self { notes = l }) c.in_default.ensures.same
    ∙ sym (c.loop-note.invariant ∙ all_noted (g.U.JsrUrlProvider.meaning c.args.urls.now) c.loop-note.self c.in_default.ensures.none)
