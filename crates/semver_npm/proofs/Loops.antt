-- One step of the lists that the reader makes.
use Rattle.std.proofs.Common.{◌≡◌, ℕ, suc, ◌+◌, ◌-◌, ◌<◌, ◌≤◌, List, [], ◌∷◌, ◌++◌, Option, Some, None, ap, sym, ◌∙◌, refl, arith, append_assoc}
use Rattle.semver_npm.specs.Reader.{Follow, Simples, ◌>>=◌, after_range, after_simple, item_at, range_at, ranges_from, simples_from}
use Rattle.semver_npm.specs.declared.simple.Simple.{Simple}

-- the simples so far, and those that are left
abbrev pub with_simples : List Simple → Option Simples → Option Simples
with_simples front rest = rest >>= λ t. Some (front ++ t.0, t.1)

abbrev pub with_ranges : List (List Simple) → Option (List (List Simple)) → Option (List (List Simple))
with_ranges front rest = rest >>= λ rs. Some (front ++ rs)

abbrev pub then_simples : ℕ → Option (Simple × Follow) → Option Simples
then_simples n i = i >>= λ i. after_simple (simples_from n) i.0 i.1

abbrev pub then_ranges : ℕ → Option Simples → Option (List (List Simple))
then_ranges n r = r >>= λ r. after_range (ranges_from n) r

simples_at : (n : ℕ) (xs : List ℕ) (i : Option (Simple × Follow)) → i ≡ item_at xs → simples_from (suc n) xs ≡ then_simples n i
unfolding simples_from
simples_at n xs i e = ap (then_simples n) (sym e)

pub simples_step : (total k : ℕ) (front : List Simple) (xs text : List ℕ) (i : Option (Simple × Follow)) → k < total
    → with_simples front (simples_from (total - k) xs) ≡ simples_from total text → i ≡ item_at xs
    → with_simples front (then_simples (total - (k + 1)) i) ≡ simples_from total text
simples_step total k front xs text i lt inv e =
    let one : total - k ≡ suc (total - (k + 1)) = omega arith in
    ap (with_simples front) (sym (ap (λ n. simples_from n xs) one ∙ simples_at (total - (k + 1)) xs i e)) ∙ inv

-- a simple more, and those that are left
pub simples_snoc : (front : List Simple) (s : Simple) (rest : Option Simples) → with_simples (front ++ s ∷ []) rest ≡ with_simples front (rest >>= λ t. Some (s ∷ t.0, t.1))
simples_snoc front s None = refl
simples_snoc front s (Some t) = ap (λ l. Some (l, t.1)) (append_assoc front (s ∷ []) t.0)

pub simples_ended : (total k : ℕ) (front : List Simple) (xs text : List ℕ) → total ≤ k → with_simples front (simples_from (total - k) xs) ≡ simples_from total text → None ≡ simples_from total text
unfolding simples_from
simples_ended total k front xs text ge inv = let none : total - k ≡ 0 = omega arith in ap (λ n. with_simples front (simples_from n xs)) (sym none) ∙ inv

ranges_at : (n : ℕ) (xs : List ℕ) (r : Option Simples) → r ≡ range_at xs → ranges_from (suc n) xs ≡ then_ranges n r
unfolding ranges_from
ranges_at n xs r e = ap (then_ranges n) (sym e)

pub ranges_step : (total k : ℕ) (front : List (List Simple)) (xs text : List ℕ) (r : Option Simples) → k < total
    → with_ranges front (ranges_from (total - k) xs) ≡ ranges_from total text → r ≡ range_at xs
    → with_ranges front (then_ranges (total - (k + 1)) r) ≡ ranges_from total text
ranges_step total k front xs text r lt inv e =
    let one : total - k ≡ suc (total - (k + 1)) = omega arith in
    ap (with_ranges front) (sym (ap (λ n. ranges_from n xs) one ∙ ranges_at (total - (k + 1)) xs r e)) ∙ inv

pub ranges_snoc : (front : List (List Simple)) (r : List Simple) (rest : Option (List (List Simple))) → with_ranges (front ++ r ∷ []) rest ≡ with_ranges front (rest >>= λ rs. Some (r ∷ rs))
ranges_snoc front r None = refl
ranges_snoc front r (Some rs) = ap Some (append_assoc front (r ∷ []) rs)

pub ranges_ended : (total k : ℕ) (front : List (List Simple)) (xs text : List ℕ) → total ≤ k → with_ranges front (ranges_from (total - k) xs) ≡ ranges_from total text → None ≡ ranges_from total text
unfolding ranges_from
ranges_ended total k front xs text ge inv = let none : total - k ≡ 0 = omega arith in ap (λ n. with_ranges front (ranges_from n xs)) (sym none) ∙ inv
