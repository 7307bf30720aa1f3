use Rattle.std.proofs.Common.{◌≡◌, ◌∙◌, ◌++◌, ◌∷◌, [], ℕ, List, slice_get, drop, length, sym, ap, subst, arith}
use Rattle.source_io.specs.declared.types.Question.{Question}
use Rattle.graph_turns.specs.Promise.Contents.{content_question}
use Rattle.open_loads.specs.Order.OpenLoads.{OpenLoads, known_now}
use Rattle.open_loads.specs.Order.Numbered.{later_all, put}
use Rattle.open_loads.proofs.Order.Opening.{fewer_left, later_next, later_none, later_put, mapped_none, mapped_some}
use Rattle.open_loads.proofs.open_loads.OpenLoads.put_later.Goals as goal

pub loop-question-smaller : goal.loop-question-smaller
loop-question-smaller g c =
    let b = c.loop-question.self in
    let at = mapped_some (content_question (known_now b)) (slice_get b.state.contents (length b.later)) c.in-Some.question (sym c.in-Some.is ∙ c.in_ok-question.ensures) in
    let same : c.push_back.new.self ≡ c.self.inside.later ++ c.in_ok-ticket.ticket ∷ [] = c.in_ok-push_back.ensures.ok in
    let later : c.self.inside.later ≡ b.later = ap (λ (x : OpenLoads). x.later) (c.self.view_is ∙ c.in_ok-ticket.ensures.put) in
    let all : c.push_back.new.self ≡ b.later ++ c.in_ok-ticket.ticket ∷ [] = same ∙ ap (λ (x : List ℕ). x ++ c.in_ok-ticket.ticket ∷ []) later in
    let contents = ap (λ (x : OpenLoads). length x.state.contents) (c.self.view_is ∙ c.in_ok-ticket.ensures.put) in
    let less = fewer_left b.state.contents b.later c.in_ok-ticket.ticket at.0 at.1 in
    let long = ap length all in
    omega (arith, less, contents, long)

pub loop-question-preserved : goal.loop-question-preserved
loop-question-preserved g c =
    let b = c.loop-question.self in
    let at = mapped_some (content_question (known_now b)) (slice_get b.state.contents (length b.later)) c.in-Some.question (sym c.in-Some.is ∙ c.in_ok-question.ensures) in
    let step = later_put b _ at.0 c.in-Some.question c.in_ok-ticket.ticket c.push_back.new.self
    (ap (λ (q : Question). record (put b q) { later = b.later ++ b.queued ∷ [] }) at.2)
    (c.self.view_is ∙ c.in_ok-ticket.ensures.put) c.in_ok-ticket.ensures.ticket c.in_ok-push_back.ensures.ok in
    record {
      put = subst (λ (x : OpenLoads). later_all (drop (length x.later) x.state.contents) x ≡ later_all (drop (length c.args.self.now.later) c.args.self.now.state.contents) c.args.self.now) (sym step) (sym (later_next b at.0 at.1) ∙ c.loop-question.invariant.put);
      known = ap (λ (x : OpenLoads). x.known) (c.self.view_is ∙ c.in_ok-ticket.ensures.put) ∙ c.loop-question.invariant.known;
    }

pub returns-clause-put : goal.returns-clause-put
returns-clause-put g c =
    let b = c.loop-question.self in
    sym (later_none b (mapped_none (content_question (known_now b)) (slice_get b.state.contents (length b.later)) (sym c.in_default.is ∙ c.in_ok-question.ensures))) ∙ c.loop-question.invariant.put
