-- A whole source read.
use Rattle.std.specs.Prelude.{◌≡◌, ℕ, ◌+◌, ◌<◌, ◌≤◌, Bool, true, false, List, [], ◌++◌, length, Option, Some, None, Result, Ok, Err}
use Rattle.byte_io.specs.declared.reading.ReadRefusal.{ReadRefusal}
use Rattle.byte_io.specs.declared.reading.ReadRefusal.TheVariants.{Memory, Failed, TooLong}

-- the most bytes that are read
abbrev pub most_bytes : ℕ
most_bytes = 67108864

-- all was taken and is answered; or one byte too many was taken, exactly where it is too long
abbrev pub EndsBy : List ℕ → List ℕ → Result (List ℕ) ReadRefusal → Type 0
EndsBy taken rest (Ok bytes) = (bytes ≡ taken) × (rest ≡ []) × (length taken ≤ most_bytes)
EndsBy taken rest (Err TooLong) = length taken ≡ most_bytes + 1
EndsBy taken rest (Err Memory) = length taken ≤ most_bytes
EndsBy taken rest (Err Failed) = length taken ≤ most_bytes

-- bytes were taken from those that were left
pub record ReadsAll (bytes : List ℕ) (now : Option (List ℕ)) (result : Result (List ℕ) ReadRefusal) : Type 0 where
  pub taken : List ℕ
  pub rest : List ℕ
  pub parts : bytes ≡ taken ++ rest
  pub leaves : now ≡ Some rest
  pub ends : EndsBy taken rest result

-- the same where the source tells what it has left; it never begins or ceases to tell
abbrev pub IsReadAll : Option (List ℕ) → Option (List ℕ) → Result (List ℕ) ReadRefusal → Type 0
IsReadAll None now result = now ≡ None
IsReadAll (Some bytes) now result = ReadsAll bytes now result

-- ---- one read

-- bytes that were read so far, and with one more part
abbrev pub PartEndsBy : List ℕ → List ℕ → List ℕ → List ℕ → Result Bool ReadRefusal → Type 0
PartEndsBy part rest before after (Ok true) = after ≡ before ++ part
PartEndsBy part rest before after (Ok false) = (part ≡ []) × (rest ≡ []) × (after ≡ before)
PartEndsBy part rest before after (Err TooLong) = length before + length part ≡ most_bytes + 1
PartEndsBy part rest before after (Err Memory) = length before + length part ≤ most_bytes
PartEndsBy part rest before after (Err Failed) = length before + length part ≤ most_bytes

-- bytes were taken by one read, and stand behind those that were read before
pub record TakesPartOf (bytes : List ℕ) (now : Option (List ℕ)) (before after : List ℕ) (result : Result Bool ReadRefusal) : Type 0 where
  pub part : List ℕ
  pub rest : List ℕ
  pub parts : bytes ≡ part ++ rest
  pub leaves : now ≡ Some rest
  pub ends : PartEndsBy part rest before after result

-- the same where the source tells what it has left; it never begins or ceases to tell
abbrev pub TakesPart : Option (List ℕ) → Option (List ℕ) → List ℕ → List ℕ → Result Bool ReadRefusal → Type 0
TakesPart None now before after result = now ≡ None
TakesPart (Some bytes) now before after result = TakesPartOf bytes now before after result

-- whether something came
abbrev pub IsMore : List ℕ → List ℕ → Bool → Type 0
IsMore before after true = (length before < length after) × (length after ≤ most_bytes)
IsMore before after false = after ≡ before
