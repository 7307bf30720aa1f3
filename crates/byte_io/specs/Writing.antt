-- A whole text written to a sink.
use Rattle.std.specs.Prelude.{◌≡◌, ℕ, ◌<◌, List, ◌++◌, length, Option, Some, None, Result, Ok, Err}

-- a part from the front of the text was written, and something is missing
pub record IsCutShort (done : List ℕ) (now : Option (List ℕ)) (text : List ℕ) : Type 0 where
  pub front : List ℕ
  pub rest : List ℕ
  pub parts : text ≡ front ++ rest
  pub holds : now ≡ Some (done ++ front)
  pub missing : 0 < length rest

-- after what was written the whole text, or after a fault a part of it
abbrev pub IsWrittenAfter : {E : Type 0} → List ℕ → Option (List ℕ) → List ℕ → Result Unit E → Type 0
IsWrittenAfter done now text (Ok _) = now ≡ Some (done ++ text)
IsWrittenAfter done now text (Err _) = IsCutShort done now text

-- the same where the sink tells what was written; it never begins or ceases to tell
abbrev pub IsWritten : {E : Type 0} → Option (List ℕ) → Option (List ℕ) → List ℕ → Result Unit E → Type 0
IsWritten None now text result = now ≡ None
IsWritten (Some done) now text result = IsWrittenAfter done now text result
