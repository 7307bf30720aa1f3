-- What a sink takes, and what it holds.
use Rattle.std.specs.Prelude.{◌≡◌, ℕ, ◌<◌, ◌≤◌, ⊤, List, ◌++◌, take, Option, Some, None}
use Rattle.byte_io.specs.declared.sink.WriteOutcome.{WriteOutcome}
use Rattle.byte_io.specs.declared.sink.WriteOutcome.TheVariants.{Took, Failed}

-- at most the piece is taken, and something of a piece that isn't empty
abbrev pub IsTakenOf : WriteOutcome → ℕ → Type 0
IsTakenOf (Took n) size = (n ≤ size) × (0 < size → 0 < n)
IsTakenOf Failed size = ⊤

-- what is taken comes after what was written
abbrev pub AppendsTo : List ℕ → Option (List ℕ) → List ℕ → WriteOutcome → Type 0
AppendsTo done now piece (Took n) = now ≡ Some (done ++ take n piece)
AppendsTo done now piece Failed = now ≡ Some done

-- the same where the sink tells what was written; it never begins or ceases to tell
abbrev pub Appends : Option (List ℕ) → Option (List ℕ) → List ℕ → WriteOutcome → Type 0
Appends None now piece outcome = now ≡ None
Appends (Some done) now piece outcome = AppendsTo done now piece outcome
