-- Words, spaces and simples: what the reader takes is what the grammar has.
use Rattle.std.proofs.Common.{◌≡◌, ℕ, zero, suc, ◌==◌, ◌++◌, List, [], ◌∷◌, length, take, drop, Option, Some, None, Bool, true, false, refl, sym, ap, ◌∙◌, arith, inl, inr, append_assoc, subst}
use Rattle.std.proofs.lemmas.Bool.{cases_Bool, eqb-true}
use Rattle.std.proofs.lemmas.Bool.Decides.{nat_tests}
use Rattle.std.proofs.lemmas.List.{drop_at, take-append-drop, take_at}
use Rattle.std.specs.List.{list_all}
use Rattle.semver.specs.Parse.{strip_spaces}
use Rattle.semver.proofs.Segments.{and-left, and-right}
use Rattle.semver_npm.specs.Grammar.{IsPartial, IsSimple, IsXr, operator_text, spaces}
use Rattle.semver_npm.specs.Reader.{ends_word, operand_at, operator_at, or_equal, partial_at, partial_of, simple_at, word_length}
use Rattle.semver_npm.specs.declared.simple.Operator.{Operator}
use Rattle.semver_npm.specs.declared.simple.Operator.TheVariants.{Plain, Exact, Less, AtMost, Greater, AtLeast, Caret, Tilde}
use Rattle.semver_npm.specs.declared.simple.Partial.{Partial}
use Rattle.semver_npm.specs.declared.simple.Simple.{Simple}
use Rattle.semver_npm.proofs.Numbers.{bind_some, some_value}
use Rattle.semver_npm.proofs.Partials.{partial_read, partial_sound}
use Rattle.semver_npm.proofs.WordBytes.{bytes-append, decimal-bytes, is_word_byte, version-bytes}

-- a text that is empty, or begins with a space or a bar
abbrev pub is_cut : List ℕ → Bool
is_cut [] = true
is_cut (b ∷ t) = ends_word b

not_end : (b : ℕ) → is_word_byte b ≡ true → ends_word b ≡ false
not_end b h = grind (arith, nat_tests)

word_cut : (w k : List ℕ) → list_all is_word_byte w ≡ true → is_cut k ≡ true → length w ≡ word_length (w ++ k)
unfolding word_length
word_cut [] [] h c = refl
word_cut [] (b ∷ t) h c = rw c refl
word_cut (b ∷ w) k h c = rw (not_end b (and-left (is_word_byte b) _ h)) (ap suc (word_cut w k (and-right (is_word_byte b) _ h) c))

xr-bytes : (a : Option ℕ) (u : List ℕ) → IsXr a u → list_all is_word_byte u ≡ true
xr-bytes None u (inl e) = rw e refl
xr-bytes None u (inr (inl e)) = rw e refl
xr-bytes None u (inr (inr e)) = rw e refl
xr-bytes (Some n) u x = rw x.1 (decimal-bytes n x.0)

-- the bytes of a partial version
pub partial-bytes : (p : Partial) (w : List ℕ) → IsPartial p w → list_all is_word_byte w ≡ true
partial-bytes p w (inl g) = xr-bytes g.0 w g.1
partial-bytes p w (inr (inl (a, b, u, v, x, y, e, is))) = rw e (bytes-append u (46 ∷ v) (xr-bytes a u x) (xr-bytes b v y))
partial-bytes p w (inr (inr (inl (a, b, c, u, v, y, xa, xb, xc, e, is)))) =
    rw e (bytes-append u (46 ∷ (v ++ 46 ∷ y)) (xr-bytes a u xa) (bytes-append v (46 ∷ y) (xr-bytes b v xb) (xr-bytes c y xc)))
partial-bytes p w (inr (inr (inr (v, is, e)))) = version-bytes w v is

-- a partial version of the grammar is read, whatever follows a space or a bar
pub partial_at_read : (p : Partial) (w k : List ℕ) → IsPartial p w → is_cut k ≡ true → partial_at (w ++ k) ≡ Some (p, k)
partial_at_read p w k g c =
    let cut = word_cut w k (partial-bytes p w g) c in
    rw (take_at w k (word_length (w ++ k)) cut, drop_at w k (word_length (w ++ k)) cut, partial_read p w g) refl

-- a partial version that was read is one of the grammar
pub partial_at_sound : (xs : List ℕ) (p : Partial) (rest : List ℕ) → partial_at xs ≡ Some (p, rest) → (w : List ℕ) × IsPartial p w × (xs ≡ w ++ rest)
partial_at_sound xs p rest h =
    let n = word_length xs in
    let r = bind_some (partial_of (take n xs)) _ _ h in
    let e = some_value _ _ r.2 in
    let kind : r.0 ≡ p = ap (λ (y : Partial × List ℕ). y.0) e in
    let left : drop n xs ≡ rest = ap (λ (y : Partial × List ℕ). y.1) e in
    (take n xs, subst (λ q. IsPartial q (take n xs)) kind (partial_sound (take n xs) r.0 r.1), sym (take-append-drop n xs) ∙ ap (λ l. take n xs ++ l) left)

-- spaces, and what stands after them
pub strip_sound : (xs : List ℕ) → (n : ℕ) × (xs ≡ spaces n ++ strip_spaces xs)
unfolding strip_spaces
strip_sound [] = (0, refl)
strip_sound (b ∷ t) = elim (cases_Bool (b == 32)) [
  | inl space ↦
      let r = strip_sound t in
      (suc r.0, rw (eqb-true b 32 space) (ap (λ l. 32 ∷ l) r.1))
  | inr other ↦ (0, rw other refl)
]

abbrev pub starts_space : List ℕ → Bool
starts_space [] = false
starts_space (b ∷ t) = b == 32

pub strip_read : (n : ℕ) (w : List ℕ) → starts_space w ≡ false → strip_spaces (spaces n ++ w) ≡ w
unfolding strip_spaces
strip_read zero [] h = refl
strip_read zero (b ∷ t) h = rw h refl
strip_read (suc n) w h = strip_read n w h

operator_sound : (xs : List ℕ) → xs ≡ operator_text (operator_at xs).0 ++ (operator_at xs).1
operator_sound [] = refl
operator_sound (a ∷ rest) = elim (cases_Bool (a == 60)) [
  | inl e ↦ rw (eqb-true a 60 e) (second rest Less AtMost 60 refl refl)
  | inr e ↦ elim (cases_Bool (a == 62)) [
    | inl f ↦ rw (eqb-true a 62 f) (second rest Greater AtLeast 62 refl refl)
    | inr f ↦ elim (cases_Bool (a == 61)) [
      | inl g ↦ rw (eqb-true a 61 g) refl
      | inr g ↦ elim (cases_Bool (a == 94)) [
        | inl h ↦ rw (eqb-true a 94 h) refl
        | inr h ↦ elim (cases_Bool (a == 126)) [
          | inl i ↦ rw (eqb-true a 126 i) refl
          | inr i ↦ rw (e, f, g, h, i) refl
        ]
      ]
    ]
  ]
]
  where
    second : (rest : List ℕ) (one two : Operator) (b : ℕ) → operator_text one ≡ b ∷ [] → operator_text two ≡ b ∷ 61 ∷ [] → b ∷ rest ≡ operator_text (or_equal one two rest).0 ++ (or_equal one two rest).1
    second [] one two b p q = rw p refl
    second (c ∷ t) one two b p q = elim (cases_Bool (c == 61)) [
      | inl e ↦ rw (e, q, eqb-true c 61 e) refl
      | inr e ↦ rw (e, p) refl
    ]

operand_sound : (o : Operator) (r : List ℕ) → (n : ℕ) × (o ≡ Plain → n ≡ 0) × (r ≡ spaces n ++ operand_at o r)
operand_sound Plain r = (0, λ e. refl, refl)
operand_sound Exact r = let s = strip_sound r in (s.0, λ e. cc e, s.1)
operand_sound Less r = let s = strip_sound r in (s.0, λ e. cc e, s.1)
operand_sound AtMost r = let s = strip_sound r in (s.0, λ e. cc e, s.1)
operand_sound Greater r = let s = strip_sound r in (s.0, λ e. cc e, s.1)
operand_sound AtLeast r = let s = strip_sound r in (s.0, λ e. cc e, s.1)
operand_sound Caret r = let s = strip_sound r in (s.0, λ e. cc e, s.1)
operand_sound Tilde r = let s = strip_sound r in (s.0, λ e. cc e, s.1)

-- a simple that was read is one of the grammar
pub simple_sound : (xs : List ℕ) (s : Simple) (rest : List ℕ) → simple_at xs ≡ Some (s, rest) → (t : List ℕ) × IsSimple s t × (xs ≡ t ++ rest)
simple_sound xs s rest h =
    let o = (operator_at xs).0 in
    let r = (operator_at xs).1 in
    let b = bind_some (partial_at (operand_at o r)) _ _ h in
    let e = some_value _ _ b.2 in
    let kind : record { operator = o; partial = b.0.0 } ≡ s = ap (λ (y : Simple × List ℕ). y.0) e in
    let left : b.0.1 ≡ rest = ap (λ (y : Simple × List ℕ). y.1) e in
    let w = partial_at_sound (operand_at o r) b.0.0 b.0.1 b.1 in
    let n = operand_sound o r in
    let text : List ℕ = operator_text o ++ (spaces n.0 ++ w.0) in
    let tail : r ≡ spaces n.0 ++ (w.0 ++ rest) = n.2 ∙ ap (λ l. spaces n.0 ++ l) (w.2 ∙ ap (λ l. w.0 ++ l) left) in
    let whole : xs ≡ text ++ rest =
    operator_sound xs ∙ (ap (λ l. operator_text o ++ l) tail
    ∙ (ap (λ l. operator_text o ++ l) (sym (append_assoc (spaces n.0) w.0 rest)) ∙ sym (append_assoc (operator_text o) (spaces n.0 ++ w.0) rest))) in
    (text, subst (λ y. IsSimple y text) kind (n.0, w.0, w.1, n.1, refl), whole)
