-- The open tickets of a loader and the questions in flight of a build.
use Rattle.std.specs.Prelude.{◌≡◌, ℕ, List, [], ◌∷◌, ◌⊎◌, Some}
use Rattle.source_io.specs.declared.types.Question.{Question}
use Rattle.open_loads.specs.Order.OpenLoads.{OpenLoads}
use Rattle.open_loads.specs.Order.Ordered.{IsInFlight, asked_at}

-- a ticket is open
abbrev pub HasTicket : ℕ → List (ℕ × Question) → Type 0
HasTicket t [] = ⊥
HasTicket t (p ∷ ps) = (t ≡ p.0) ⊎ HasTicket t ps

-- no ticket is open twice
abbrev pub OnceEach : List (ℕ × Question) → Type 0
OnceEach [] = Unit {0}
OnceEach (p ∷ ps) = (HasTicket p.0 ps → ⊥) × OnceEach ps

-- a question is open under a ticket
abbrev pub IsAmong : ℕ → Question → List (ℕ × Question) → Type 0
IsAmong t q [] = ⊥
IsAmong t q (p ∷ ps) = ((t ≡ p.0) × (q ≡ p.1)) ⊎ IsAmong t q ps

-- what is open in the loader is what is in flight in the build
pub record Matches (tickets : List (ℕ × Question)) (b : OpenLoads) : Type 0 where
  pub flies : (t : ℕ) (q : Question) → IsAmong t q tickets → IsInFlight b t × (asked_at b t ≡ Some q)
  pub open_still : (t : ℕ) → IsInFlight b t → HasTicket t tickets
  pub once : OnceEach tickets
