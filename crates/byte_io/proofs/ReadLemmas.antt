-- A source read part by part.
use Rattle.std.proofs.Common.{◌≡◌, ℕ, ◌≤◌, true, false, List, [], ◌++◌, length, Option, Some, None, Ok, Err, refl, sym, ap, subst, ◌∙◌, append_assoc, length-append}
use Rattle.byte_io.specs.Reading.{most_bytes, IsReadAll, TakesPart, TakesPartOf}
use Rattle.byte_io.specs.declared.reading.ReadRefusal.{ReadRefusal}
use Rattle.byte_io.specs.declared.reading.ReadRefusal.TheVariants.{Memory, Failed, TooLong}

-- these bytes were taken, and the rest is still left
pub record PartRead (bytes : List ℕ) (now : Option (List ℕ)) (taken : List ℕ) : Type 0 where
  pub rest : List ℕ
  pub parts : bytes ≡ taken ++ rest
  pub leaves : now ≡ Some rest

abbrev pub IsPartRead : Option (List ℕ) → Option (List ℕ) → List ℕ → Type 0
IsPartRead None now taken = now ≡ None
IsPartRead (Some bytes) now taken = PartRead bytes now taken

pub none_read : (first : Option (List ℕ)) → IsPartRead first first []
none_read None = refl
none_read (Some bytes) = record { rest = bytes; parts = refl; leaves = refl }

-- the parts of all the bytes, with one more
parts_on : (bytes taken rest part left : List ℕ) → bytes ≡ taken ++ rest → rest ≡ part ++ left → bytes ≡ (taken ++ part) ++ left
parts_on bytes taken rest part left whole more =
    whole ∙ ap (λ r. taken ++ r) more ∙ sym (append_assoc taken part left)

pub more_read : (first now new : Option (List ℕ)) (before after : List ℕ) → IsPartRead first now before → TakesPart now new before after (Ok true) → IsPartRead first new after
more_read None now new before after old step = subst (λ o. TakesPart o new before after (Ok true)) old step
more_read (Some bytes) now new before after old step =
    let s : TakesPartOf old.rest new before after (Ok true) = subst (λ o. TakesPart o new before after (Ok true)) old.leaves step in
    record {
      rest = s.rest;
      parts = parts_on bytes before old.rest s.part s.rest old.parts s.parts ∙ ap (λ t. t ++ s.rest) (sym s.ends);
      leaves = s.leaves;
    }

pub all_read : (first now new : Option (List ℕ)) (before after : List ℕ) → IsPartRead first now before → length before ≤ most_bytes → TakesPart now new before after (Ok false) → IsReadAll first new (Ok after)
all_read None now new before after old within step = subst (λ o. TakesPart o new before after (Ok false)) old step
all_read (Some bytes) now new before after old within step =
    let s : TakesPartOf old.rest new before after (Ok false) = subst (λ o. TakesPart o new before after (Ok false)) old.leaves step in
    record {
      taken = before;
      rest = [];
      parts = old.parts ∙ ap (λ r. before ++ r) (s.parts ∙ ap (λ p. p ++ s.rest) s.ends.0 ∙ s.ends.1);
      leaves = s.leaves ∙ ap Some s.ends.1;
      ends = (s.ends.2, refl, within);
    }

pub refused_read : (first now new : Option (List ℕ)) (before after : List ℕ) (e : ReadRefusal) → IsPartRead first now before → TakesPart now new before after (Err e) → IsReadAll first new (Err e)
refused_read None now new before after e old step = subst (λ o. TakesPart o new before after (Err e)) old step
refused_read (Some bytes) now new before after Memory old step =
    let s : TakesPartOf old.rest new before after (Err Memory) = subst (λ o. TakesPart o new before after (Err Memory)) old.leaves step in
    record { taken = before ++ s.part; rest = s.rest; parts = parts_on bytes before old.rest s.part s.rest old.parts s.parts; leaves = s.leaves; ends = rw (length-append before s.part) s.ends }
refused_read (Some bytes) now new before after Failed old step =
    let s : TakesPartOf old.rest new before after (Err Failed) = subst (λ o. TakesPart o new before after (Err Failed)) old.leaves step in
    record { taken = before ++ s.part; rest = s.rest; parts = parts_on bytes before old.rest s.part s.rest old.parts s.parts; leaves = s.leaves; ends = rw (length-append before s.part) s.ends }
refused_read (Some bytes) now new before after TooLong old step =
    let s : TakesPartOf old.rest new before after (Err TooLong) = subst (λ o. TakesPart o new before after (Err TooLong)) old.leaves step in
    record { taken = before ++ s.part; rest = s.rest; parts = parts_on bytes before old.rest s.part s.rest old.parts s.parts; leaves = s.leaves; ends = rw (length-append before s.part) s.ends }
