-- The bytes of partial versions: no space, no bar, and ASCII.
use Rattle.std.proofs.Common.{◌≡◌, ◌<◌, ◌^◌, ◌%◌, ℕ, ◌+◌, ◌==◌, ◌&&◌, ◌||◌, List, [], ◌∷◌, ◌++◌, Bool, true, refl, ◌∙◌, arith, inl, inr, zero, suc}
use Rattle.std.proofs.lemmas.Bool.{cases_Bool, eqb-true}
use Rattle.std.proofs.lemmas.Bool.Decides.{nat_tests}
use Rattle.std.proofs.lemmas.Fmt.{decimal_by_steps}
use Rattle.std.proofs.lemmas.List.Folds.{list_all-append}
use Rattle.std.proofs.lemmas.Str.{IsUtf8-from_ascii}
use Rattle.std.specs.Fmt.{decimal}
use Rattle.std.specs.List.{list_all}
use Rattle.std.specs.Str.{IsAscii, IsUtf8}
use Rattle.semver.specs.Grammar.{is_build, is_build_identifier, is_identifier_byte, is_pre_identifier, is_pre_release}
use Rattle.semver.specs.Identifiers.{marked}
use Rattle.semver.specs.Order.{parts}
use Rattle.semver.specs.OrderLaws.{parts-shape}
use Rattle.semver.proofs.Segments.{and-left, and-right}
use Rattle.semver_npm.specs.Versions.{IsVersion, Ver}

-- a byte of a partial version: that of an identifier, `.`, `+` or `*`
abbrev pub is_word_byte : ℕ → Bool
is_word_byte b = is_identifier_byte b || (b == 46 || (b == 43 || b == 42))

both : (x y : Bool) → x ≡ true → y ≡ true → (x && y) ≡ true
both x y a b = rw (a, b) refl

pub bytes-append : (xs ys : List ℕ) → list_all is_word_byte xs ≡ true → list_all is_word_byte ys ≡ true → list_all is_word_byte (xs ++ ys) ≡ true
bytes-append xs ys a b = list_all-append is_word_byte xs ys ∙ both _ _ a b

pub decimal-bytes : (n : ℕ) → n < 2 ^ 64 → list_all is_word_byte (decimal n) ≡ true
decimal-bytes n fits = decimal_by_steps (λ k ds. list_all is_word_byte ds ≡ true)
    (λ k low. let d : is_word_byte (48 + k) ≡ true = grind (arith, nat_tests) in rw d refl)
    (λ k ds big ih. let d : is_word_byte (48 + k % 10) ≡ true = grind (arith, nat_tests) in bytes-append ds _ ih (rw d refl))
    n fits

-- bytes of identifiers between dots
ids-bytes : (xs : List ℕ) → list_all (λ p. list_all is_identifier_byte p) (parts xs) ≡ true → list_all is_word_byte xs ≡ true
ids-bytes [] h = refl
ids-bytes (b ∷ rest) h = elim (cases_Bool (b == 46)) [
  | inl dot ↦
      let rests : list_all (λ p. list_all is_identifier_byte p) (parts rest) ≡ true = rw dot at h in
      let word : is_word_byte b ≡ true = rw (eqb-true b 46 dot) refl in
      both _ _ word (ids-bytes rest rests)
  | inr other ↦
      let r = parts-shape rest in
      let more = rw (other, r.2) at h in
      let byte = and-left (is_identifier_byte b) _ (and-left (is_identifier_byte b && list_all is_identifier_byte r.0) _ more) in
      let first = and-right (is_identifier_byte b) _ (and-left (is_identifier_byte b && list_all is_identifier_byte r.0) _ more) in
      let others = and-right (is_identifier_byte b && list_all is_identifier_byte r.0) _ more in
      let word : is_word_byte b ≡ true = rw byte refl in
      both _ _ word (ids-bytes rest (rw r.2 (both _ _ first others)))
]

-- weaker tests of parts
weaker : (f g : List ℕ → Bool) → ((p : List ℕ) → f p ≡ true → g p ≡ true) → (xs : List (List ℕ)) → list_all f xs ≡ true → list_all g xs ≡ true
weaker f g w [] h = refl
weaker f g w (x ∷ rest) h = both _ _ (w x (and-left (f x) _ h)) (weaker f g w rest (and-right (f x) _ h))

build_id : (p : List ℕ) → is_build_identifier p ≡ true → list_all is_identifier_byte p ≡ true
build_id p h = and-right _ _ h

pre_id : (p : List ℕ) → is_pre_identifier p ≡ true → list_all is_identifier_byte p ≡ true
pre_id p h = build_id p (and-left _ _ h)

pub pre-bytes : (xs : List ℕ) → is_pre_release xs ≡ true → list_all is_word_byte xs ≡ true
pre-bytes [] h = refl
pre-bytes (b ∷ rest) h = ids-bytes (b ∷ rest) (weaker is_pre_identifier _ pre_id (parts (b ∷ rest)) h)

pub build-bytes : (xs : List ℕ) → is_build xs ≡ true → list_all is_word_byte xs ≡ true
build-bytes [] h = refl
build-bytes (b ∷ rest) h = ids-bytes (b ∷ rest) (weaker is_build_identifier _ build_id (parts (b ∷ rest)) h)

marked-bytes : (m : ℕ) (xs : List ℕ) → is_word_byte m ≡ true → list_all is_word_byte xs ≡ true → list_all is_word_byte (marked m xs) ≡ true
marked-bytes m [] h k = refl
marked-bytes m (b ∷ rest) h k = both _ _ h k

-- the text of a version has such bytes alone
pub version-bytes : (text : List ℕ) (v : Ver) → IsVersion text v → list_all is_word_byte text ≡ true
version-bytes text v is =
    let valid = is.0 in
    let t0 : List ℕ = marked 45 v.3 ++ marked 43 v.4 in
    let t1 : List ℕ = decimal v.2 ++ t0 in
    let t2 : List ℕ = decimal v.1 ++ 46 ∷ t1 in
    let end : list_all is_word_byte t0 ≡ true = bytes-append (marked 45 v.3) (marked 43 v.4) (marked-bytes 45 v.3 refl (pre-bytes v.3 valid.3)) (marked-bytes 43 v.4 refl (build-bytes v.4 valid.4)) in
    let patch : list_all is_word_byte t1 ≡ true = bytes-append (decimal v.2) t0 (decimal-bytes v.2 valid.2) end in
    let minor : list_all is_word_byte t2 ≡ true = bytes-append (decimal v.1) (46 ∷ t1) (decimal-bytes v.1 valid.1) patch in
    let major = bytes-append (decimal v.0) (46 ∷ t2) (decimal-bytes v.0 valid.0) minor in
    rw is.1 major

small : (b : ℕ) → is_word_byte b ≡ true → b < 128
small b h = grind (arith, nat_tests)

-- such bytes are ASCII
pub ascii : (xs : List ℕ) → list_all is_word_byte xs ≡ true → IsAscii xs
ascii [] h i = omega arith
ascii (b ∷ rest) h zero = small b (and-left _ _ h)
ascii (b ∷ rest) h (suc i) = ascii rest (and-right (is_word_byte b) _ h) i

-- a version's text is UTF-8
pub version-utf8 : (text : List ℕ) (v : Ver) → IsVersion text v → IsUtf8 text
version-utf8 text v is = IsUtf8-from_ascii text (ascii text (version-bytes text v is))
