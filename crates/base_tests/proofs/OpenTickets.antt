-- Tickets that no open question has, as the tests ask.
use Rattle.std.proofs.Common.{◌++◌, ◌≢◌, ℕ, List, [], ◌∷◌}
use Rattle.source_io.specs.declared.types.Question.{Question}
use Rattle.source_io.specs.Tickets.{IsUnused}
use Rattle.source_io.proofs.TicketLemmas.{unused_none, unused_more}

pub unused_first : (t : ℕ) → IsUnused t []
unused_first t = unused_none t

pub unused_next : (t u : ℕ) (v : Question) (xs : List (ℕ × Question)) → t ≢ u → IsUnused t xs → IsUnused t (xs ++ (u, v) ∷ [])
unused_next t u v xs other unused = unused_more t u v xs other unused
