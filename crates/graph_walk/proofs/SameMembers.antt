-- Tests of lists by their members.
use Rattle.std.proofs.Common.{◌≡◌, List, [], ◌∷◌, filter, Bool, true, false, cond, ◌||◌, Option, None, refl, sym, ap, ◌∙◌, inl, inr, ⊎_elim}
use Rattle.std.specs.Prelude.{bytes_eq}
use Rattle.std.specs.List.{list_any}
use Rattle.std.proofs.lemmas.Bool.{cases_Bool}
use Rattle.url.specs.Parts.{Parts}
use Rattle.spec_base.specs.Specifier.{specifier_text}
use Rattle.graph_core.specs.Pruned.{has_text_of}
use Rattle.graph_walk.specs.Lists.{Text, Among, Within}
use Rattle.graph_walk.specs.Order.{texts, is_seen}
use Rattle.graph_walk.proofs.Steps.{seen_among, unseen_new}

pub same_test : (a b : Bool) → (a ≡ true → b ≡ true) → (b ≡ true → a ≡ true) → a ≡ b
same_test true true f h = refl
same_test true false f h = sym (f refl)
same_test false true f h = h refl
same_test false false f h = refl

pub none_either : {V : Type 0} (b : Bool) → ◌≡◌ {A = Option V} (cond b None None) None
none_either true = refl
none_either false = refl

-- ---- members that pass a test
pub passes_first : {X : Type 0} (test : X → Bool) (x : X) (xs : List X) → test x ≡ true → list_any test (x ∷ xs) ≡ true
passes_first test x xs e = ap (λ b. b || list_any test xs) e

pub passes_later : {X : Type 0} (test : X → Bool) (x : X) (xs : List X) → list_any test xs ≡ true → list_any test (x ∷ xs) ≡ true
passes_later test x xs e = by (test x)
  where
    by : (b : Bool) → (b || list_any test xs) ≡ true
    by true = refl
    by false = e

pub passes : {X : Type 0} (test : X → Bool) (xs : List X) (x : X) → Among x xs → test x ≡ true → list_any test xs ≡ true
passes test [] x a e = absurd a
passes test (y ∷ xs) x (inl same) e = passes_first test y xs (ap test (sym same) ∙ e)
passes test (y ∷ xs) x (inr a) e = passes_later test y xs (passes test xs x a e)

pub record Passing {X : Type 0} (test : X → Bool) (xs : List X) : Type 0 where
  pub one : X
  pub among : Among one xs
  pub holds : test one ≡ true

pub passing : {X : Type 0} (test : X → Bool) (xs : List X) → list_any test xs ≡ true → Passing test xs
passing test [] e = absurd (cc)
passing test (x ∷ xs) e = by (test x) refl (passing test xs) e
  where
    by : (b : Bool) → test x ≡ b → (list_any test xs ≡ true → Passing test xs) → (b || list_any test xs) ≡ true → Passing test (x ∷ xs)
    by true is rest h = record { one = x; among = inl refl; holds = is }
    by false is rest h = let p = rest h in record { one = p.one; among = inr p.among; holds = p.holds }

pub same_any : {X : Type 0} (p q : X → Bool) (xs : List X) → ((x : X) → Among x xs → p x ≡ q x) → list_any p xs ≡ list_any q xs
same_any p q [] h = refl
same_any p q (x ∷ xs) h = ap (λ b. b || list_any p xs) (h x (inl refl)) ∙ ap (λ b. q x || b) (same_any p q xs (λ y a. h y (inr a)))

-- lists with the same members pass a test alike
pub within_any : (test : Text → Bool) (xs ys : List Text) → Within xs ys → list_any test xs ≡ true → list_any test ys ≡ true
within_any test xs ys h e = let p = passing test xs e in passes test ys p.one (h p.one p.among) p.holds

-- ---- members that are left by a test
pub in_filter : (test : Text → Bool) (xs : List Text) (x : Text) → Among x (filter test xs) → Among x xs × (test x ≡ true)
in_filter test [] x a = absurd a
in_filter test (y ∷ xs) x a = by (test y) refl (in_filter test xs x) a
  where
    by : (b : Bool) → test y ≡ b → (Among x (filter test xs) → Among x xs × (test x ≡ true))
        → Among x (cond b (y ∷ filter test xs) (filter test xs)) → Among x (y ∷ xs) × (test x ≡ true)
    by true is rest a = ⊎_elim (λ same. (inl same, ap test same ∙ is)) (λ c. (inr (rest c).0, (rest c).1)) a
    by false is rest a = (inr (rest a).0, (rest a).1)

pub from_filter : (test : Text → Bool) (xs : List Text) (x : Text) → Among x xs → test x ≡ true → Among x (filter test xs)
from_filter test [] x a e = absurd a
from_filter test (y ∷ xs) x a e = by (test y) refl (λ c. from_filter test xs x c e) a
  where
    by : (b : Bool) → test y ≡ b → (Among x xs → Among x (filter test xs)) → Among x (y ∷ xs)
        → Among x (cond b (y ∷ filter test xs) (filter test xs))
    by true is rest a = ⊎_elim inl (λ c. inr (rest c)) a
    by false is rest a = ⊎_elim (λ same. let no : true ≡ false = sym e ∙ ap test same ∙ is in absurd (cc)) rest a

-- ---- specifiers and their texts
pub is_among : (xs : List Text) (x : Text) → Among x xs → is_seen xs x ≡ true
is_among xs x a = ⊎_elim (λ t. t) (λ f. absurd (unseen_new xs x f a)) (cases_Bool (is_seen xs x))

pub by_texts : (test : Text → Bool) (kept : List Parts) → list_any (λ s. test (specifier_text s)) kept ≡ list_any test (texts kept)
by_texts test [] = refl
by_texts test (s ∷ kept) = ap (λ b. test (specifier_text s) || b) (by_texts test kept)

pub kept_among : (kept : List Parts) (s : Text) → has_text_of kept s ≡ true → Among s (texts kept)
kept_among kept s e = seen_among (texts kept) s (sym (by_texts (bytes_eq s) kept) ∙ e)

pub among_kept : (kept : List Parts) (s : Text) → Among s (texts kept) → has_text_of kept s ≡ true
among_kept kept s a = by_texts (bytes_eq s) kept ∙ is_among (texts kept) s a
