-- Reading and grammar agree: what is read is spelled so, and what is spelled so is read, whatever follows it.
use Rattle.std.proofs.Common.{◌≡◌, ℕ, ◌+◌, Bool, true, false, cond, List, [], ◌++◌, length, Result, Ok, Err, refl, sym, ap, ◌∙◌, subst, append_assoc, arith}
use Rattle.std.proofs.lemmas.List.{length-append}
use Rattle.wasm_dts.specs.declared.refusal.WasmRefusal.{WasmRefusal}
use Rattle.wasm_dts.specs.Span.{Span}
use Rattle.wasm_dts.specs.Binary.{Read, ◌>>=◌}
use Rattle.wasm_dts.specs.Grammar as grammar
use Rattle.wasm_dts.specs.Grammar.{Spelling, just, whatever, nowhere, either, made}

abbrev pub span : ℕ → List ℕ → Span
span at bytes = record { at = at; bytes = bytes }

-- what was read from the front
abbrev pub Front : {A : Type 0} → Spelling A → ℕ → List ℕ → A → Span → Type 0
Front P at bytes x rest = (front : List ℕ) × (bytes ≡ front ++ rest.bytes) × (rest ≡ span (at + length front) rest.bytes) × P front x

-- what is read, seen by v, is spelled so
pub record AgreesBy {X A : Type 0} (v : X → A) (r : Span → Read X) (P : Spelling A) : Type 0 where
  pub found : (at : ℕ) (bytes : List ℕ) (x : X) (rest : Span) → r (span at bytes) ≡ Ok (x, rest) → Front P at bytes (v x) rest
  pub only : (at : ℕ) (front back : List ℕ) (a : A) → P front a → (x : X) × (v x ≡ a) × (r (span at (front ++ back)) ≡ Ok (x, span (at + length front) back))

abbrev pub itself : {A : Type 0} → A → A
itself x = x

abbrev pub Agrees : {A : Type 0} → (Span → Read A) → Spelling A → Type 0
Agrees r P = AgreesBy itself r P

-- the same of a reader of all that is left
pub record AgreesWhole {A : Type 0} (r : Span → Result A WasmRefusal) (P : Spelling A) : Type 0 where
  pub found : (at : ℕ) (bytes : List ℕ) (x : A) → r (span at bytes) ≡ Ok x → P bytes x
  pub only : (at : ℕ) (bytes : List ℕ) (x : A) → P bytes x → r (span at bytes) ≡ Ok x

-- the value of a step that isn't refused
pub bind_ok : {A B : Type 0} (r : Result A WasmRefusal) (f : A → Result B WasmRefusal) (y : B) → (r >>= f) ≡ Ok y → (x : A) × (r ≡ Ok x) × (f x ≡ Ok y)
bind_ok (Ok x) f y e = (x, refl, e)
bind_ok (Err d) f y e = absurd cc

abbrev pub done : {A : Type 0} → A → Result A WasmRefusal
done x = Ok x

pub ok_is : {A : Type 0} (x y : A) → done x ≡ done y → x ≡ y
ok_is x y e = cc

pub span_is : (at more : ℕ) (bytes rest : List ℕ) → at ≡ more → bytes ≡ rest → span at bytes ≡ span more rest
span_is at more bytes rest e f = ap (λ (n : ℕ). span n bytes) e ∙ ap (span more) f

abbrev pub reads : {A : Type 0} → A → Span → Read A
reads x s = Ok (x, s)

pub read_is : {A : Type 0} (x y : A) (s t : Span) → x ≡ y → s ≡ t → reads x s ≡ reads y t
read_is x y s t e f = ap (λ z. reads z s) e ∙ ap (reads y) f

-- nothing is read
pub just_agrees : {A : Type 0} (x : A) → Agrees (λ s. Ok (x, s)) (just x)
just_agrees x =
    record {
      found = λ at bytes y rest e.
          let p = ok_is (x, span at bytes) (y, rest) e in
          let same : bytes ≡ rest.bytes = ap (λ q. q.1.bytes) p in
          ([], same, ap (λ q. q.1) (sym p) ∙ span_is at (at + 0) bytes rest.bytes (omega arith) same, (refl, ap (λ q. q.0) (sym p)));
      only = λ at front back y h.
          let len : length front ≡ 0 = ap length h.0 in
          (x, sym h.1, ap (reads x) (span_is at (at + length front) (front ++ back) back (omega arith) (ap (λ (f : List ℕ). f ++ back) h.0)));
    }

pub nowhere_agrees : {A : Type 0} (d : WasmRefusal) → Agrees {A = A} (λ s. Err d) nowhere
nowhere_agrees d = record { found = λ at bytes x rest e. absurd cc; only = λ at front back x h. absurd h }

pub either_agrees : {A : Type 0} (b : Bool) (r q : Span → Read A) (P Q : Spelling A) → Agrees r P → Agrees q Q → Agrees (λ s. cond b (r s) (q s)) (either b P Q)
either_agrees true r q P Q a c = record { found = a.found; only = a.only }
either_agrees false r q P Q a c = record { found = c.found; only = c.only }

-- one part, and another behind it
pub then_by : {X A Y B : Type 0} (u : X → A) (v : Y → B) (r : Span → Read X) (k : ℕ → X → Span → Read Y) (P : Spelling A) (Q : A → Spelling B) → AgreesBy u r P → ((n : ℕ) (x : X) → AgreesBy v (k n x) (Q (u x)))
    → AgreesBy v (λ s. r s >>= λ x. k s.at x.0 x.1) (grammar.◌>>=◌ P Q)
then_by u v r k P Q a c =
    record {
      found = λ at bytes y rest e.
          let b = bind_ok (r (span at bytes)) (λ x. k at x.0 x.1) (y, rest) e in
          let f = a.found at bytes b.0.0 b.0.1 b.1 in
          let g = (c at b.0.0).found (at + length f.0) b.0.1.bytes y rest (ap (k at b.0.0) (sym f.2) ∙ b.2) in
          let len : at + length f.0 + length g.0 ≡ at + length (f.0 ++ g.0) = omega (arith, length-append f.0 g.0) in
          (f.0 ++ g.0, f.1 ∙ ap (λ (l : List ℕ). f.0 ++ l) g.1 ∙ sym (append_assoc f.0 g.0 rest.bytes), g.2 ∙ ap (λ (n : ℕ). span n rest.bytes) len, (f.0, g.0, u b.0.0, refl, f.3, g.3));
      only = λ at front back y h.
          let len : at + length h.0 + length h.1 ≡ at + length front = omega (arith, length-append h.0 h.1, ap length h.3) in
          let p = a.only at h.0 (h.1 ++ back) h.2 h.4 in
          let first : r (span at (front ++ back)) ≡ Ok (p.0, span (at + length h.0) (h.1 ++ back)) = ap (λ (l : List ℕ). r (span at l)) (ap (λ (l : List ℕ). l ++ back) h.3 ∙ append_assoc h.0 h.1 back) ∙ p.2 in
          let q = (c at p.0).only (at + length h.0) h.1 back y (subst (λ z. Q z h.1 y) (sym p.1) h.5) in
          (q.0, q.1, ap (λ z. z >>= λ x. k at x.0 x.1) first ∙ q.2 ∙ ap (λ (n : ℕ). reads q.0 (span n back)) len);
    }

pub then_agrees : {A B : Type 0} (r : Span → Read A) (k : A → Span → Read B) (P : Spelling A) (Q : A → Spelling B) → Agrees r P → ((x : A) → Agrees (k x) (Q x)) → Agrees (λ s. r s >>= λ x. k x.0 x.1) (grammar.◌>>=◌ P Q)
then_agrees r k P Q a c = then_by itself itself r (λ n. k) P Q a (λ n. c)

-- ---- readers of all that is left

pub whatever_agrees : {A : Type 0} (x : A) → AgreesWhole (λ s. Ok x) (whatever x)
whatever_agrees x = record { found = λ at bytes y e. sym (ok_is x y e); only = λ at bytes y h. ap done (sym h) }

pub either_whole : {A : Type 0} (b : Bool) (r q : Span → Result A WasmRefusal) (P Q : Spelling A) → AgreesWhole r P → AgreesWhole q Q → AgreesWhole (λ s. cond b (r s) (q s)) (either b P Q)
either_whole true r q P Q a c = record { found = a.found; only = a.only }
either_whole false r q P Q a c = record { found = c.found; only = c.only }

pub then_whole : {A B : Type 0} (r : Span → Read A) (k : A → Span → Result B WasmRefusal) (P : Spelling A) (Q : A → Spelling B) → Agrees r P → ((x : A) → AgreesWhole (k x) (Q x)) → AgreesWhole (λ s. r s >>= λ x. k x.0 x.1) (grammar.◌>>=◌ P Q)
then_whole r k P Q a c =
    record {
      found = λ at bytes y e.
          let b = bind_ok (r (span at bytes)) (λ x. k x.0 x.1) y e in
          let f = a.found at bytes b.0.0 b.0.1 b.1 in
          (f.0, b.0.1.bytes, b.0.0, f.1, f.3, (c b.0.0).found (at + length f.0) b.0.1.bytes y (ap (k b.0.0) (sym f.2) ∙ b.2));
      only = λ at bytes y h.
          let p = a.only at h.0 h.1 h.2 h.4 in
          ap (λ (l : List ℕ). r (span at l) >>= λ x. k x.0 x.1) h.3 ∙ ap (λ z. z >>= λ x. k x.0 x.1) p.2 ∙ (c p.0).only (at + length h.0) h.1 y (subst (λ z. Q z h.1 y) (sym p.1) h.5);
    }

pub made_agrees : {A B : Type 0} (f : A → B) (r : Span → Result A WasmRefusal) (P : Spelling A) → AgreesWhole r P → AgreesWhole (λ s. r s >>= λ x. Ok (f x)) (made f P)
made_agrees f r P a =
    record {
      found = λ at bytes y e.
          let b = bind_ok (r (span at bytes)) (λ x. Ok (f x)) y e in
          (b.0, a.found at bytes b.0 b.1, sym (ok_is (f b.0) y b.2));
      only = λ at bytes y h. ap (λ z. z >>= λ x. Ok (f x)) (a.only at bytes h.0 h.1) ∙ ap done (sym h.2);
    }
