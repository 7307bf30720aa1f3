-- An answer beside what a definition expects.
use Rattle.std.specs.Prelude.{◌≡◌, Option, Some, None, Result, Ok, Err, ⊤}
use Rattle.spec_base.specs.declared.refusal.Refusal.{Refusal}
use Rattle.spec_base.specs.declared.refusal.Refusal.TheVariants.{Memory, Is}

-- the answer is the expected one, unless there was no memory
abbrev pub Answers : {T E : Type 0} → Result T (Refusal E) → Result T E → Type 0
Answers (Ok x) expected = expected ≡ Ok x
Answers (Err Memory) expected = ⊤
Answers (Err (Is e)) expected = expected ≡ Err e

-- the answer, seen by `view`, is the expected one, unless there was no memory
abbrev pub AnswersBy : {T U E : Type 0} → (T → U) → Result T (Refusal E) → Result U E → Type 0
AnswersBy view (Ok x) expected = expected ≡ Ok (view x)
AnswersBy view (Err Memory) expected = ⊤
AnswersBy view (Err (Is e)) expected = expected ≡ Err e

-- the value that is read is the expected one, and it is refused exactly where none is expected, unless there was no memory
abbrev pub Reads : {T E : Type 0} → Result T (Refusal E) → Option T → Type 0
Reads (Ok x) expected = expected ≡ Some x
Reads (Err Memory) expected = ⊤
Reads (Err (Is e)) expected = expected ≡ None
