-- The first open question is taken out and answered.
use Rattle.std.proofs.Common.{◌≡◌, ℕ, ◌<◌, List, [], ◌∷◌, length, drop, get_or, Some, refl, sym, ap, ◌∙◌, arith}
use Rattle.std.specs.Prelude.{option_map}
use Rattle.std.proofs.lemmas.Option.{slice_get_read}
use Rattle.source_io.specs.declared.types.Answer.{Answer}
use Rattle.source_io.specs.declared.types.Question.{Question}
use Rattle.source_io.specs.declared.types.World.{World}
use Rattle.source_io.specs.Answers.{answer_of}
use Rattle.source_io.specs.Calls.{answered_at}
use Rattle.source_io.specs.Tickets.{IsAnswered}

abbrev Tickets : Type 0
Tickets = List (ℕ × Question)

-- the first question has this answer
pub first_answer : (w : World) (open_tickets : Tickets) (x : ℕ × Question) (a : Answer) → 0 < length open_tickets → x ≡ get_or open_tickets 0 x → a ≡ answer_of w x.1
    → answered_at w open_tickets 0 ≡ Some (x.0, a)
first_answer w open_tickets x a some at by_world =
    ap (option_map (λ t. (t.0, answer_of w t.1))) (slice_get_read open_tickets (length open_tickets) 0 x refl some at)
    ∙ ap (λ y. Some (x.0, y)) (sym by_world)

-- it is taken out with this answer
pub first_taken : (w : World) (open_tickets left : Tickets) (x : ℕ × Question) (a : Answer) → 0 < length open_tickets → x ≡ get_or open_tickets 0 x → a ≡ answer_of w x.1
    → left ≡ drop 1 open_tickets → IsAnswered (Some w) open_tickets left x.0 a
first_taken w [] left x a some at by_world rest = absurd (omega arith)
first_taken w (y ∷ ys) left x a some at by_world rest = record {
  question = x.1;
  takes = record { front = []; back = ys; was = ap (λ t. t ∷ ys) (sym at); left = rest };
  by_world = by_world;
}
