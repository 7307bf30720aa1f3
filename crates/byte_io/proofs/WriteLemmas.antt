-- A text written part by part.
use Rattle.std.proofs.Common.{◌≡◌, ℕ, ◌<◌, List, [], ◌∷◌, ◌++◌, length, take, drop, Option, Some, None, Ok, Err, refl, sym, ap, subst, ◌∙◌, append_assoc, append-nil, arith}
use Rattle.std.proofs.lemmas.List.{take-append-drop}
use Rattle.byte_io.specs.Sink.{Appends}
use Rattle.byte_io.specs.Writing.{IsWritten}
use Rattle.byte_io.specs.declared.sink.WriteOutcome.TheVariants.{Took, Failed}

-- a part from the front of the text was written, and the rest is still to be
pub record PartWritten (done : List ℕ) (now : Option (List ℕ)) (text rest : List ℕ) : Type 0 where
  pub front : List ℕ
  pub parts : text ≡ front ++ rest
  pub holds : now ≡ Some (done ++ front)

abbrev pub IsPartWritten : Option (List ℕ) → Option (List ℕ) → List ℕ → List ℕ → Type 0
IsPartWritten None now text rest = now ≡ None
IsPartWritten (Some done) now text rest = PartWritten done now text rest

pub none_written : (first : Option (List ℕ)) (text : List ℕ) → IsPartWritten first first text text
none_written None text = refl
none_written (Some done) text = record { front = []; parts = refl; holds = ap Some (sym (append-nil done)) }

pub more_written : (first now new : Option (List ℕ)) (text rest : List ℕ) (n : ℕ) → IsPartWritten first now text rest → Appends now new rest (Took n) → IsPartWritten first new text (drop n rest)
more_written None now new text rest n old step = subst (λ o. Appends o new rest (Took n)) old step
more_written (Some done) now new text rest n old step =
    let more : new ≡ Some ((done ++ old.front) ++ take n rest) = subst (λ o. Appends o new rest (Took n)) old.holds step in
    record {
      front = old.front ++ take n rest;
      parts = old.parts ∙ ap (λ r. old.front ++ r) (sym (take-append-drop n rest)) ∙ sym (append_assoc old.front (take n rest) (drop n rest));
      holds = more ∙ ap Some (append_assoc done old.front (take n rest));
    }

no_rest : (rest : List ℕ) → length rest ≡ 0 → rest ≡ []
no_rest [] e = refl
no_rest (x ∷ rest) e = absurd (omega (arith, e))

pub all_written : (E : Type 0) (first now : Option (List ℕ)) (text rest : List ℕ) → IsPartWritten first now text rest → length rest ≡ 0 → IsWritten {E = E} first now text (Ok tt)
all_written E None now text rest old end = old
all_written E (Some done) now text rest old end =
    old.holds ∙ ap (λ l. Some (done ++ l)) (sym (old.parts ∙ ap (λ r. old.front ++ r) (no_rest rest end) ∙ append-nil old.front))

pub cut_short : {E : Type 0} (first now new : Option (List ℕ)) (text rest : List ℕ) (e : E) → IsPartWritten first now text rest → 0 < length rest → Appends now new rest Failed → IsWritten first new text (Err e)
cut_short None now new text rest e old some step = subst (λ o. Appends o new rest Failed) old step
cut_short (Some done) now new text rest e old some step = record {
  front = old.front;
  rest = rest;
  parts = old.parts;
  holds = subst (λ o. Appends o new rest Failed) old.holds step;
  missing = some;
}
