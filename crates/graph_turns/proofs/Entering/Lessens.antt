-- Orders of numbers, one before the other, in which nothing goes on forever.
use Rattle.std.proofs.Common.{◌≡◌, ℕ, zero, suc, ◌<◌, sym, subst, arith}

-- from an element on, all that is less comes to an end
pub data Ending {A : Type 0} (less : A → A → Type 0) : A → Type 0 where
  all : {x : A} → ((y : A) → less y x → Ending less y) → Ending less x

-- ---- numbers

abbrev pub Below : ℕ → ℕ → Type 0
Below m n = m < n

below_ends : (n m : ℕ) → m < n → Ending Below m
below_ends zero m lt = absurd (omega arith)
below_ends (suc n) m lt = all (λ k less. below_ends n k (omega (arith, lt, less)))

pub number_ends : (n : ℕ) → Ending Below n
number_ends n = below_ends (suc n) n (omega arith)

-- ---- one before the other

pub data Lex {A B : Type 0} (first_less : A → A → Type 0) (second_less : B → B → Type 0) : A × B → A × B → Type 0 where
  first : {p q : A × B} → first_less p.0 q.0 → Lex first_less second_less p q
  second : {p q : A × B} → p.0 ≡ q.0 → second_less p.1 q.1 → Lex first_less second_less p q

module _ {A B : Type 0} (first_less : A → A → Type 0) (second_less : B → B → Type 0) where
  abbrev Ends : A → B → Type 0
  Ends a x = Ending (Lex first_less second_less) (a, x)

  -- what is less than a pair, by the first part or by the second
  by_part : (a : A) (x : B) → ((b : A) → first_less b a → (y : B) → Ends b y) → ((y : B) → second_less y x → Ends a y) → (p : A × B) → Lex first_less second_less p (a, x) → Ending (Lex first_less second_less) p
  by_part a x earlier later p (first less) = earlier p.0 less p.1
  by_part a x earlier later p (second same less) = subst (λ (z : A). Ends z p.1) (sym same) (later p.1 less)

  from_second : (a : A) → ((b : A) → first_less b a → (y : B) → Ends b y) → (x : B) → Ending second_less x → Ends a x
  from_second a earlier x (all rest) = all (λ p less. by_part a x earlier (λ y l. from_second a earlier y (rest y l)) p less)

  pub lex_ends : ((x : B) → Ending second_less x) → (a : A) → Ending first_less a → (x : B) → Ends a x
  lex_ends each a (all rest) x = from_second a (λ b less y. lex_ends each b (rest b less) y) x (each x)
