-- The reader's numbers and parts are those of the grammar.
use Rattle.std.proofs.Common.{◌≡◌, ◌<◌, ◌^◌, ◌*◌, ℕ, zero, suc, ◌+◌, ◌-◌, ◌==◌, ◌++◌, List, [], ◌∷◌, Option, Some, None, Ok, Err, Bool, true, false, refl, sym, ap, ◌∙◌, arith, inl, inr, subst, nat_le, nat_lt, ◌⊎◌}
use Rattle.std.proofs.lemmas.Bool.{cases_Bool, eqb-true}
use Rattle.std.proofs.lemmas.Bool.Decides.{nat_tests}
use Rattle.std.specs.Prelude.{Result, unwrap_or, if◌then◌else◌}
use Rattle.std.specs.Char.{is_ascii_digit}
use Rattle.std.specs.Fmt.{decimal}
use Rattle.semver.specs.Parse.{digits_end, digits_from as kit_digits, end_error, is_leading_zero}
use Rattle.semver.specs.declared.error.Error.{Error}
use Rattle.semver.specs.declared.error.Position.{Position}
use Rattle.semver.specs.declared.error.Position.TheVariants as place
use Rattle.semver.proofs.Numerals.{numeric-of_text, numeric-text, starts_digit}
use Rattle.semver_npm.specs.Grammar.{IsXr}
use Rattle.semver_npm.specs.Reader.{◌>>=◌, digits_from, dotted_at, is_any, part_at}

pub some_value : {A : Type 0} (x y : A) → ◌≡◌ {A = Option A} (Some x) (Some y) → x ≡ y
some_value {A} x y e = ap (λ (o : Option A). unwrap_or o x) e

-- a chain of readers that gave a value
pub bind_some : {A B : Type 0} (r : Option A) (f : A → Option B) (y : B) → (r >>= f) ≡ Some y → (x : A) × (r ≡ Some x) × (f x ≡ Some y)
bind_some (Some x) f y h = (x, refl, h)
bind_some None f y h = cc h

abbrev pub ok_of : {A : Type 0} → Result A Error → Option A
ok_of (Ok x) = Some x
ok_of (Err e) = None

ok_some : {A : Type 0} (r : Result A Error) (x : A) → ok_of r ≡ Some x → r ≡ Ok x
ok_some (Ok y) x h = ap Ok (some_value y x h)
ok_some (Err e) x h = cc h

end_none : (pos : Position) (xs : List ℕ) → ok_of (end_error pos xs) ≡ None
end_none pos [] = refl
end_none pos (b ∷ rest) = refl

ends_alike : (pos : Position) (value len : ℕ) (rest : List ℕ) → (if len == 0 then None else Some (value, rest)) ≡ ok_of (digits_end pos value len rest)
ends_alike pos value zero rest = sym (end_none pos rest)
ends_alike pos value (suc n) rest =
    let none : (suc n == 0) ≡ false = grind (arith, nat_tests) in
    let some : nat_lt 0 (suc n) ≡ true = grind (arith, nat_tests) in
    rw (none, some) refl

-- the digits that are read are those of a version's numbers
digits_alike : (pos : Position) (value len : ℕ) (xs : List ℕ) → digits_from value len xs ≡ ok_of (kit_digits pos value len xs)
unfolding digits_from kit_digits
digits_alike pos value len [] = ends_alike pos value len []
digits_alike pos value len (b ∷ rest) = elim (cases_Bool (is_ascii_digit b)) [
  | inl d ↦ elim (cases_Bool (is_leading_zero value len)) [
    | inl z ↦ rw (d, z) refl
    | inr z ↦ elim (cases_Bool (nat_le (2 ^ 64) (value * 10 + (b - 48)))) [
      | inl o ↦ rw (d, z, o) refl
      | inr o ↦ rw (d, z, o) (digits_alike pos (value * 10 + (b - 48)) (len + 1) rest)
    ]
  ]
  | inr d ↦ rw d (ends_alike pos value len (b ∷ rest))
]

-- a number that was read is the text of its value
pub number_sound : (xs : List ℕ) (n : ℕ) (rest : List ℕ) → digits_from 0 0 xs ≡ Some (n, rest) → (xs ≡ decimal n ++ rest) × (n < 2 ^ 64)
number_sound xs n rest h = numeric-text place.Major xs n rest (ok_some _ _ (sym (digits_alike place.Major 0 0 xs) ∙ h))

-- the text of a number is read
pub number_read : (n : ℕ) (rest : List ℕ) → n < 2 ^ 64 → starts_digit rest ≡ false → digits_from 0 0 (decimal n ++ rest) ≡ Some (n, rest)
number_read n rest fits stop = digits_alike place.Major 0 0 (decimal n ++ rest) ∙ ap ok_of (numeric-of_text place.Major n rest fits stop)

digit_first : (b : ℕ) (t : List ℕ) (x : ℕ × List ℕ) → digits_from 0 0 (b ∷ t) ≡ Some x → is_ascii_digit b ≡ true
unfolding digits_from
digit_first b t x h = elim (cases_Bool (is_ascii_digit b)) [
  | inl d ↦ d
  | inr d ↦ cc (rw d at h)
]

not_any : (b : ℕ) → is_ascii_digit b ≡ true → is_any b ≡ false
not_any b d = grind (arith, nat_tests)

part_number : (xs : List ℕ) (n : ℕ) (rest : List ℕ) → digits_from 0 0 xs ≡ Some (n, rest) → part_at xs ≡ Some (Some n, rest)
unfolding part_at digits_from
part_number [] n rest h = cc h
part_number (b ∷ t) n rest h = rw (not_any b (digit_first b t (n, rest) h), h) refl

-- a part of the grammar is read
pub part_read : (a : Option ℕ) (u rest : List ℕ) → IsXr a u → starts_digit rest ≡ false → part_at (u ++ rest) ≡ Some (a, rest)
unfolding part_at
part_read None u rest (inl e) stop = rw e refl
part_read None u rest (inr (inl e)) stop = rw e refl
part_read None u rest (inr (inr e)) stop = rw e refl
part_read (Some n) u rest x stop = rw x.1 (part_number _ n rest (number_read n rest x.0 stop))

any_xr : (b : ℕ) → is_any b ≡ true → IsXr None (b ∷ [])
any_xr b h = elim (cases_Bool (b == 42)) [
  | inl e ↦ inr (inr (ap (λ c. c ∷ []) (eqb-true b 42 e)))
  | inr e ↦ elim (cases_Bool (b == 120)) [
    | inl f ↦ inl (ap (λ c. c ∷ []) (eqb-true b 120 f))
    | inr f ↦ inr (inl (ap (λ c. c ∷ []) (eqb-true b 88 (rw (e, f) at h))))
  ]
]

-- a part that was read is one of the grammar
pub part_sound : (xs : List ℕ) (a : Option ℕ) (rest : List ℕ) → part_at xs ≡ Some (a, rest) → (u : List ℕ) × IsXr a u × (xs ≡ u ++ rest)
unfolding part_at
part_sound [] a rest h = cc h
part_sound (b ∷ t) a rest h = elim (cases_Bool (is_any b)) [
  | inl any ↦
      let e = some_value _ _ (rw any at h) in
      let kind : None ≡ a = ap (λ (p : Option ℕ × List ℕ). p.0) e in
      let left : t ≡ rest = ap (λ (p : Option ℕ × List ℕ). p.1) e in
      (b ∷ [], subst (λ o. IsXr o (b ∷ [])) kind (any_xr b any), ap (λ r. b ∷ r) left)
  | inr other ↦
      let r = bind_some _ _ _ (rw other at h) in
      let e = some_value _ _ r.2 in
      let kind : Some r.0.0 ≡ a = ap (λ (p : Option ℕ × List ℕ). p.0) e in
      let left : r.0.1 ≡ rest = ap (λ (p : Option ℕ × List ℕ). p.1) e in
      let s = number_sound (b ∷ t) r.0.0 r.0.1 r.1 in
      (decimal r.0.0, subst (λ o. IsXr o (decimal r.0.0)) kind (s.1, refl), s.0 ∙ ap (λ l. decimal r.0.0 ++ l) left)
]

-- whether a text starts with a dot
abbrev pub starts_dot : List ℕ → Bool
starts_dot [] = false
starts_dot (b ∷ rest) = b == 46

-- the part after a dot, or none where no dot stands
pub dotted_sound : (xs : List ℕ) (b : Option ℕ) (rest : List ℕ) → dotted_at xs ≡ Some (b, rest)
    → ((None ≡ b) × ((xs ≡ rest) × (starts_dot rest ≡ false))) ⊎ ((v : List ℕ) × IsXr b v × (xs ≡ 46 ∷ (v ++ rest)))
unfolding dotted_at
dotted_sound [] b rest h =
    let e = some_value _ _ h in
    let left : [] ≡ rest = ap (λ (p : Option ℕ × List ℕ). p.1) e in
    inl (ap (λ (p : Option ℕ × List ℕ). p.0) e, (left, rw (sym left) refl))
dotted_sound (c ∷ t) b rest h = elim (cases_Bool (c == 46)) [
  | inl dot ↦
      let p = part_sound t b rest (rw dot at h) in
      inr (p.0, p.1, ap (λ b. b ∷ t) (eqb-true c 46 dot) ∙ ap (λ l. 46 ∷ l) p.2)
  | inr other ↦
      let e = some_value _ _ (rw other at h) in
      let left : c ∷ t ≡ rest = ap (λ (p : Option ℕ × List ℕ). p.1) e in
      inl (ap (λ (p : Option ℕ × List ℕ). p.0) e, (left, rw (sym left) other))
]

pub dotted_read : (b : Option ℕ) (v rest : List ℕ) → IsXr b v → starts_digit rest ≡ false → dotted_at (46 ∷ (v ++ rest)) ≡ Some (b, rest)
unfolding dotted_at
dotted_read b v rest x stop = part_read b v rest x stop

pub dotted_none : (rest : List ℕ) → starts_dot rest ≡ false → dotted_at rest ≡ Some (None, rest)
unfolding dotted_at
dotted_none [] h = refl
dotted_none (c ∷ t) h = rw h refl
