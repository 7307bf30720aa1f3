-- Bytes, numbers, sized bytes and names: reading and grammar agree.
use Rattle.std.proofs.Common.{◌≡◌, ℕ, suc, ◌+◌, ◌*◌, ◌%◌, ◌^◌, ◌<◌, ◌≤◌, Bool, true, false, cond, eqb, ltb, List, [], ◌∷◌, ◌++◌, length, take, drop, Result, Ok, Err, refl, sym, ap, ◌∙◌, subst, ⊎_elim, append-nil, arith}
use Rattle.std.specs.Prelude.{nat_le, nat_lt, MatchBool}
use Rattle.std.specs.Str.{is_utf8}
use Rattle.std.proofs.lemmas.Bool.{ltb-false, ltb-true, le-ltb, eqb-false}
use Rattle.std.proofs.lemmas.Bool.Decides.{nat_tests, eqb_tells}
use Rattle.std.proofs.Math.Dec.{eqb-suc-zero}
use Rattle.std.proofs.lemmas.List.{length-append, take_at, drop_at, take-append-drop, length-take}
use Rattle.wasm_dts.specs.declared.refusal.WasmRefusal.{WasmRefusal}
use Rattle.wasm_dts.specs.declared.refusal.WasmRefusal.TheVariants.{UnexpectedEnd, IntegerOverflow, InvalidUtf8}
use Rattle.wasm_dts.specs.Span.{Span}
use Rattle.wasm_dts.specs.Binary.{◌>>=◌, taken, byte, continued, leb, leb_value, fitting, number, number32, number64, sized, name}
use Rattle.wasm_dts.specs.Grammar as grammar
use Rattle.wasm_dts.specs.Grammar.{Spelling, just, nowhere, either, IsByte, IsLeb, IsNumber, IsNumber32, IsNumber64, AreBytes, IsSized, IsName}
use Rattle.wasm_dts.proofs.Agreement.{span, Front, AgreesBy, Agrees, itself, ok_is, span_is, reads, read_is, just_agrees, nowhere_agrees, either_agrees, then_by}

-- ---- tests

high_bit : (b : ℕ) → 128 ≤ b → nat_le 128 b ≡ true
high_bit b le = grind (arith, nat_tests)

low_byte : (b : ℕ) → b < 128 → nat_le 128 b ≡ false
low_byte b lt = grind (arith, nat_tests)

is_high : (b : ℕ) → nat_le 128 b ≡ true → 128 ≤ b
is_high b h = grind (arith, nat_tests)

is_low : (b : ℕ) → nat_le 128 b ≡ false → b < 128
is_low b h = grind (arith, nat_tests)

-- a test that refuses nothing
pub guard_ok : {A : Type 0} (b : Bool) (d : WasmRefusal) (r : Result A WasmRefusal) (y : A) → cond b (Err d) r ≡ Ok y → (b ≡ false) × (r ≡ Ok y)
guard_ok true d r y e = absurd cc
guard_ok false d r y e = (refl, e)

-- ---- LEB128

-- what is spelled in LEB128 is so long, and has this value
pub record Spelled (front back : List ℕ) (n : ℕ) : Type 0 where
  pub value : leb_value front ≡ n
  pub len : continued (front ++ back) + 1 ≡ length front

continues : (b c : ℕ) (bytes back : List ℕ) (n high : ℕ) → 128 ≤ b → n ≡ b % 128 + 128 * high → Spelled (c ∷ bytes) back high → Spelled (b ∷ c ∷ bytes) back n
unfolding leb_value
continues b c bytes back n high le e s =
    record {
      value = ap (λ v. b % 128 + 128 * v) s.value ∙ sym e;
      len = ap (λ t. cond t (1 + continued (c ∷ (bytes ++ back))) 0 + 1) (high_bit b le) ∙ omega (arith, s.len);
    }

pub leb_only : (front back : List ℕ) (n : ℕ) → IsLeb front n → Spelled front back n
unfolding IsLeb leb_value
leb_only [] back n h = absurd h
leb_only (b ∷ []) back n h = record { value = omega (arith, h.1); len = ap (λ t. cond t (1 + continued back) 0 + 1) (low_byte b h.0) }
leb_only (b ∷ c ∷ bytes) back n h = continues b c bytes back n h.1.0 h.0 h.1.1 (leb_only (c ∷ bytes) back h.1.0 h.1.2)

leb_at : (bytes : List ℕ) (m : ℕ) → continued bytes ≡ m → m < length bytes → IsLeb (take (suc m) bytes) (leb_value (take (suc m) bytes))
unfolding IsLeb leb_value
leb_at [] m e lt = absurd (omega arith)
leb_at (b ∷ bytes) m e lt = leb_at_byte b bytes m (nat_le 128 b) refl e lt (λ j. leb_at bytes j) where
  leb_at_byte : (b : ℕ) (bytes : List ℕ) (m : ℕ) (t : Bool) → nat_le 128 b ≡ t → cond t (1 + continued bytes) 0 ≡ m → m < suc (length bytes)
      → ((j : ℕ) → continued bytes ≡ j → j < length bytes → IsLeb (take (suc j) bytes) (leb_value (take (suc j) bytes))) → IsLeb (take (suc m) (b ∷ bytes)) (leb_value (take (suc m) (b ∷ bytes)))
  leb_at_byte b bytes m false t e lt later = subst (λ (x : ℕ). IsLeb (b ∷ take x bytes) (b % 128 + 128 * leb_value (take x bytes))) e (is_low b t, omega arith)
  leb_at_byte b [] m true t e lt later = absurd (omega arith)
  leb_at_byte b (c ∷ bytes) m true t e lt later =
      let up : suc (continued (c ∷ bytes)) ≡ m = omega arith in
      subst (λ (x : ℕ). IsLeb (b ∷ take x (c ∷ bytes)) (b % 128 + 128 * leb_value (take x (c ∷ bytes)))) up
      (is_high b t, (leb_value (take (suc (continued (c ∷ bytes))) (c ∷ bytes)), refl, later (continued (c ∷ bytes)) refl (omega arith)))

within : (bytes : List ℕ) → continued bytes ≤ length bytes
within [] = omega arith
within (b ∷ bytes) = within_byte (nat_le 128 b) (continued bytes) (length bytes) (within bytes) where
  within_byte : (t : Bool) (n len : ℕ) → n ≤ len → cond t (1 + n) 0 ≤ suc len
  within_byte true n len h = omega arith
  within_byte false n len h = omega arith

differ : (a b : ℕ) → a < b → eqb a b ≡ false
differ a b lt = ⊎_elim (λ same. absurd (omega (arith, same.1))) (λ other. other.0) (eqb_tells a b)

-- the first n bytes, and what is behind them
parted : (at n : ℕ) (bytes : List ℕ) (x rest : Span) → n ≤ length bytes → reads (span at (take n bytes)) (span (at + n) (drop n bytes)) ≡ Ok (x, rest)
    → (bytes ≡ take n bytes ++ rest.bytes) × (rest ≡ span (at + length (take n bytes)) rest.bytes) × (take n bytes ≡ x.bytes)
parted at n bytes x rest le e =
    let p = ok_is (span at (take n bytes), span (at + n) (drop n bytes)) (x, rest) e in
    let same : drop n bytes ≡ rest.bytes = ap (λ q. q.1.bytes) p in
    (sym (take-append-drop n bytes) ∙ ap (λ (l : List ℕ). take n bytes ++ l) same, ap (λ q. q.1) (sym p) ∙ span_is (at + n) (at + length (take n bytes)) (drop n bytes) rest.bytes (omega (arith, length-take n bytes)) same, ap (λ q. q.0.bytes) p)

-- and back
joined_again : (at n : ℕ) (front back : List ℕ) → length front ≡ n → reads (span at (take n (front ++ back))) (span (at + n) (drop n (front ++ back))) ≡ reads (span at front) (span (at + length front) back)
joined_again at n front back e =
    read_is (span at (take n (front ++ back))) (span at front) (span (at + n) (drop n (front ++ back))) (span (at + length front) back)
    (ap (span at) (take_at front back n e)) (span_is (at + n) (at + length front) (drop n (front ++ back)) back (omega arith) (drop_at front back n e))

pub leb_agrees : AgreesBy (λ (x : Span). leb_value x.bytes) leb IsLeb
leb_agrees =
    record {
      found = λ at bytes x rest e.
          let k = continued bytes in
          let g = guard_ok (eqb k (length bytes)) (UnexpectedEnd (at + length bytes)) (reads (span at (take (k + 1) bytes)) (span (at + (k + 1)) (drop (k + 1) bytes))) (x, rest) e in
          let lt : k < length bytes = omega (arith, within bytes, eqb-false k (length bytes) g.0) in
          let p = parted at (k + 1) bytes x rest (omega arith) g.1 in
          let up : suc k ≡ k + 1 = omega arith in
          let spelled : IsLeb (take (k + 1) bytes) (leb_value (take (k + 1) bytes)) = subst (λ (m : ℕ). IsLeb (take m bytes) (leb_value (take m bytes))) up (leb_at bytes k refl lt) in
          (take (k + 1) bytes, p.0, p.1, subst (λ (l : List ℕ). IsLeb (take (k + 1) bytes) (leb_value l)) p.2 spelled);
      only = λ at front back a h.
          let s = leb_only front back a h in
          let k = continued (front ++ back) in
          let ne = differ k (length (front ++ back)) (omega (arith, s.len, length-append front back)) in (
            span at front,
            s.value,
            ap (λ t. cond t (Err (UnexpectedEnd (at + length (front ++ back)))) (reads (span at (take (k + 1) (front ++ back))) (span (at + (k + 1)) (drop (k + 1) (front ++ back))))) ne
                ∙ joined_again at (k + 1) front back (sym s.len),
          );
    }

pub taken_agrees : (n : ℕ) → AgreesBy (λ (x : Span). x.bytes) (taken n) (AreBytes n)
taken_agrees n =
    record {
      found = λ at bytes x rest e.
          let g = guard_ok (ltb (length bytes) n) (UnexpectedEnd (at + length bytes)) (reads (span at (take n bytes)) (span (at + n) (drop n bytes))) (x, rest) e in
          let le : n ≤ length bytes = ltb-false _ _ g.0 in
          let p = parted at n bytes x rest le g.1 in
          (take n bytes, p.0, p.1, (omega (arith, length-take n bytes), sym p.2));
      only = λ at front back a h.
          let le = le-ltb (length (front ++ back)) n (omega (arith, h.0, length-append front back)) in (
            span at front,
            sym h.1,
            ap (λ t. cond t (Err (UnexpectedEnd (at + length (front ++ back)))) (reads (span at (take n (front ++ back))) (span (at + n) (drop n (front ++ back))))) le
                ∙ joined_again at n front back h.0,
          );
    }

byte_found : (at : ℕ) (bytes : List ℕ) (x : ℕ) (rest : Span) → byte (span at bytes) ≡ Ok (x, rest) → Front IsByte at bytes x rest
byte_found at [] x rest e = absurd cc
byte_found at (b ∷ bytes) x rest e =
    let g = guard_ok (eqb (suc (length bytes)) 0) (UnexpectedEnd (at + suc (length bytes))) (reads b (span (at + 1) bytes)) (x, rest) e in
    let p = ok_is (b, span (at + 1) bytes) (x, rest) g.1 in
    let same : bytes ≡ rest.bytes = ap (λ q. q.1.bytes) p in
    (b ∷ [], ap (λ (l : List ℕ). b ∷ l) same, ap (λ q. q.1) (sym p) ∙ ap (span (at + 1)) same, ap (λ q. q.0 ∷ []) p)

pub byte_agrees : Agrees byte IsByte
byte_agrees =
    record {
      found = byte_found;
      only = λ at front back a h. (
        a,
        refl,
        subst (λ (l : List ℕ). byte (span at (l ++ back)) ≡ Ok (a, span (at + length l) back)) (sym h)
            (ap (λ t. cond t (Err (UnexpectedEnd (at + suc (length back)))) (reads a (span (at + 1) back))) (eqb-suc-zero (length back))),
      );
    }

-- ---- numbers

fitting_agrees : (limit n : ℕ) (x : Span) → Agrees (λ s. fitting limit (x, s)) (either (nat_lt (leb_value x.bytes) limit) (just (leb_value x.bytes)) nowhere)
fitting_agrees limit n x =
    either_agrees (nat_lt (leb_value x.bytes) limit) (λ s. Ok (leb_value x.bytes, s)) (λ s. Err (IntegerOverflow x.at)) (just (leb_value x.bytes)) nowhere (just_agrees (leb_value x.bytes)) (nowhere_agrees (IntegerOverflow x.at))

fitted : (limit : ℕ) → Agrees (λ s. leb s >>= fitting limit) (grammar.◌>>=◌ IsLeb (λ n. either (nat_lt n limit) (just n) nowhere))
fitted limit = then_by (λ (x : Span). leb_value x.bytes) itself leb (λ n x s. fitting limit (x, s)) IsLeb (λ n. either (nat_lt n limit) (just n) nowhere) leb_agrees (fitting_agrees limit)

fits_limit : (limit n x : ℕ) (bytes : List ℕ) → MatchBool (nat_lt n limit) (just n bytes x) ⊥ → (bytes ≡ []) × (x ≡ n) × (n < limit)
fits_limit limit n x bytes h = fits_at (nat_lt n limit) refl h where
  fits_at : (t : Bool) → nat_lt n limit ≡ t → MatchBool t (just n bytes x) ⊥ → (bytes ≡ []) × (x ≡ n) × (n < limit)
  fits_at true e h = (h.0, h.1, ltb-true _ _ e)
  fits_at false e h = absurd h

not_le : (a b : ℕ) → nat_le a b ≡ false → b < a
not_le a b h = grind (arith, nat_tests)

above : (a b : ℕ) → b < a → nat_le a b ≡ false
above a b lt = grind (arith, nat_tests)

below : (a b : ℕ) → a < b → nat_lt a b ≡ true
below a b lt = grind (arith, nat_tests)

pub number_agrees : (most limit : ℕ) → Agrees (number most limit) (IsNumber most limit)
number_agrees most limit =
    record {
      found = λ at bytes x rest e.
          let g = guard_ok (nat_le most (continued bytes)) (IntegerOverflow at) (leb (span at bytes) >>= fitting limit) (x, rest) e in
          let f = (fitted limit).found at bytes x rest g.1 in
          let h = f.3 in
          let q = fits_limit limit h.2 x h.1 h.5 in
          let same : f.0 ≡ h.0 = h.3 ∙ ap (λ (l : List ℕ). h.0 ++ l) q.0 ∙ append-nil h.0 in
          let s = leb_only h.0 rest.bytes h.2 h.4 in
          let few : continued bytes ≡ continued (h.0 ++ rest.bytes) = ap continued (f.1 ∙ ap (λ (l : List ℕ). l ++ rest.bytes) same) in
          (f.0, f.1, f.2, (subst (λ (l : List ℕ). IsLeb l x) (sym same) (subst (IsLeb h.0) (sym q.1) h.4), omega (arith, not_le most (continued bytes) g.0, s.len, ap length same), omega (arith, q.1, q.2)));
      only = λ at front back a h.
          let s = leb_only front back a h.0 in
          let p = (fitted limit).only at front back a (front, [], a, sym (append-nil front), h.0, subst (λ t. MatchBool t (just a [] a) ⊥) (sym (below a limit h.2)) (refl, refl)) in
          (p.0, p.1, ap (λ t. cond t (Err (IntegerOverflow at)) (leb (span at (front ++ back)) >>= fitting limit)) (above most (continued (front ++ back)) (omega (arith, s.len, h.1))) ∙ p.2);
    }

pub number32_agrees : Agrees number32 IsNumber32
number32_agrees = number_agrees 5 (2 ^ 32)

pub number64_agrees : Agrees number64 IsNumber64
number64_agrees = number_agrees 10 (2 ^ 64)

-- ---- sized bytes and names

pub sized_agrees : AgreesBy (λ (x : Span). x.bytes) sized IsSized
sized_agrees = then_by itself (λ (x : Span). x.bytes) number32 (λ m n s. taken n s) IsNumber32 AreBytes number32_agrees (λ m n. taken_agrees n)

pub name_agrees : Agrees name IsName
name_agrees =
    then_by (λ (x : Span). x.bytes) itself sized (λ m x s. cond (is_utf8 x.bytes) (Ok (x.bytes, s)) (Err (InvalidUtf8 x.at))) IsSized (λ text. either (is_utf8 text) (just text) nowhere) sized_agrees
    (λ m x. either_agrees (is_utf8 x.bytes) (λ s. Ok (x.bytes, s)) (λ s. Err (InvalidUtf8 x.at)) (just x.bytes) nowhere (just_agrees x.bytes) (nowhere_agrees (InvalidUtf8 x.at)))
