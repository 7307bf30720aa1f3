-- Tickets that no open question has.
use Rattle.std.proofs.Common.{◌≡◌, ℕ, List, [], ◌∷◌, length, arith}
use Rattle.source_io.specs.declared.types.Question.{Question}
use Rattle.source_io.specs.Tickets.{IsUnused}
use Rattle.source_io.proofs.TicketLemmas.{unused_none}

pub unused_where_none : (t : ℕ) (xs : List (ℕ × Question)) → length xs ≡ 0 → IsUnused t xs
unused_where_none t [] none = unused_none t
unused_where_none t (x ∷ xs) none = absurd (omega arith)
