use Rattle.std.proofs.Common.{◌≡◌, ◌≢◌, ◌+◌, ap, arith}
use Rattle.open_loads.specs.Order.OpenLoads.{OpenLoads}
use Rattle.open_loads.specs.Order.Ordered.{IsInFlight, IsTaken}
use Rattle.build_tests.proofs.build_machine_tests.answer_backwards.Goals as goal

pub answer-requires-2-clause-in_flight : goal.answer-requires-2-clause-in_flight
answer-requires-2-clause-in_flight c =
    let out = c.in_ok-first.ensures.next in
    let next = c.in_ok-second.ensures.next in
    let one : IsTaken out.entered.turns c.take_question.new.self.turns c.in-Some.first c.in-Some.one = rw c.in-Some.is at out.some in
    let two : IsTaken next.entered.turns c.take_question-2.new.self.turns c.in-Some-2.second c.in-Some-2.other = rw c.in-Some-2.is at next.some in
    let flies : IsInFlight c.take_question.new.self.turns c.in-Some.first = rw c.in-Some.is at c.in_ok-first.ensures.flies in
    let more : c.take_question.new.self.turns.taken ≡ out.entered.turns.taken + 1 = ap (λ (x : OpenLoads). x.taken) one.one_more in
    let kept = next.same_taken in
    let apart : c.in-Some.first ≢ c.in-Some-2.second = λ same. omega (arith, same, one.is_next, two.is_next, more, kept) in
    c.in_ok-answer.ensures.taken.flight_to c.in-Some.first (c.in_ok-second.ensures.still c.in-Some.first flies) apart
