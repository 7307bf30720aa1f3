-- A text is cut behind a `/` at a byte that doesn't stand before it.
use Rattle.std.proofs.Common.{◌≡◌, ℕ, suc, ◌+◌, ◌-◌, ◌<◌, ◌≤◌, Bool, true, false, cond, not, ◌==◌, List, [], ◌∷◌, ◌++◌, length, get_or, take, drop, Option, Some, All, refl, ap, ◌∙◌, arith, append_assoc, length-append}
use Rattle.std.specs.Prelude.{filter, reverse}
use Rattle.std.specs.List.{prefix_len, suffix_len}
use Rattle.std.proofs.lemmas.Bool.{cond-false, ne_eqb}
use Rattle.std.proofs.lemmas.List.{length-reverse, reverse-append}
use Rattle.std.proofs.lemmas.Grind.{reverse_onto}
use Rattle.std.proofs.lemmas.List.Sums.{suffix_len_is}
use Rattle.std.proofs.lemmas.List.Elements.{All-head, All-tail, filter-append}
use Rattle.std.proofs.Math.Seq.{take-append-add}
use Rattle.url.specs.Input.{is_c0_control_or_space, is_tab_or_new_line, trim_c0_control_and_space, trim_end, strip_tabs_and_new_lines, split_once}
use Rattle.url.proofs.InputLemmas.{IsNot, Passes, filter_all}

-- the text goes on behind these bytes and a `/`
abbrev pub GoesOn : List ℕ → List ℕ → Type 0
GoesOn front text = (rest : List ℕ) × (text ≡ front ++ 47 ∷ rest)

prefix_within : (test : ℕ → Bool) (xs ys : List ℕ) (b : ℕ) → test b ≡ false → prefix_len test (xs ++ b ∷ ys) ≤ length xs
prefix_within test [] ys b fails = rw fails (omega arith)
prefix_within test (x ∷ xs) ys b fails =
    let later = prefix_within test xs ys b fails in
    elim (test x) as (λ v. cond v (1 + prefix_len test (xs ++ b ∷ ys)) 0 ≤ suc (length xs)) [ true ↦ omega arith | false ↦ omega arith ]

pub suffix_within : (test : ℕ → Bool) (xs ys : List ℕ) (b : ℕ) → test b ≡ false → suffix_len test (xs ++ b ∷ ys) ≤ length ys
suffix_within test xs ys b fails =
    let turned : reverse (xs ++ b ∷ ys) ≡ reverse ys ++ b ∷ reverse xs = reverse_around xs ys b in
    let within = prefix_within test (reverse ys) (reverse xs) b fails in
    let len = length-reverse ys in
    rw turned (omega arith)
  where
    reverse_around : (xs ys : List ℕ) (b : ℕ) → reverse (xs ++ b ∷ ys) ≡ reverse ys ++ b ∷ reverse xs
    reverse_around xs ys b = reverse-append xs (b ∷ ys) ∙ ap (λ l. l ++ reverse xs) (reverse_onto ys b []) ∙ append_assoc (reverse ys) (b ∷ []) (reverse xs)

-- a `/` is not trimmed, nor is what stands before it
pub end_trimmed : (test : ℕ → Bool) (xs ys : List ℕ) → test 47 ≡ false → GoesOn xs (trim_end test (xs ++ 47 ∷ ys))
end_trimmed test xs ys fails =
    let n = length (xs ++ 47 ∷ ys) - suffix_len test (xs ++ 47 ∷ ys) in
    let within = suffix_within test xs ys 47 fails in
    let len = length-append xs (47 ∷ ys) in
    let k = n - length xs - 1 in
    let is : n ≡ length xs + suc k = omega arith in
    (take k ys, ap (λ m. take m (xs ++ 47 ∷ ys)) is ∙ take-append-add xs (47 ∷ ys) (suc k))

none_at_front : (test : ℕ → Bool) (xs ys : List ℕ) → 0 < length xs → test (get_or xs 0 0) ≡ false → prefix_len test (xs ++ ys) ≡ 0
none_at_front test [] ys some fails = absurd (omega arith)
none_at_front test (x ∷ xs) ys some fails = cond-false _ _ _ fails

-- the URL Standard trims both ends of a text
pub trimmed : (xs ys : List ℕ) → 0 < length xs → is_c0_control_or_space (get_or xs 0 0) ≡ false → GoesOn xs (trim_c0_control_and_space (xs ++ 47 ∷ ys))
unfolding trim_c0_control_and_space
trimmed xs ys some visible =
    let first = none_at_front is_c0_control_or_space xs (47 ∷ ys) some visible in
    let back = end_trimmed is_c0_control_or_space xs ys refl in
    (back.0, ap (λ n. trim_end is_c0_control_or_space (drop n (xs ++ 47 ∷ ys))) first ∙ back.1)

-- and strips tabs and new lines
pub stripped_of_lines : (xs ys : List ℕ) → All (Passes (λ b. not (is_tab_or_new_line b))) xs → GoesOn xs (strip_tabs_and_new_lines (xs ++ 47 ∷ ys))
unfolding strip_tabs_and_new_lines
stripped_of_lines xs ys plain =
    let test = λ (b : ℕ). not (is_tab_or_new_line b) in
    (filter test ys, filter-append test xs (47 ∷ ys) ∙ ap (λ l. l ++ 47 ∷ filter test ys) (filter_all test xs plain))

-- a separator that isn't among the first bytes cuts the others
pub cut_later : (s : ℕ) (xs ys : List ℕ) → All (IsNot s) xs → split_once s (xs ++ ys) ≡ (xs ++ (split_once s ys).0, (split_once s ys).1)
unfolding split_once
cut_later s [] ys none = refl
cut_later s (x ∷ xs) ys none =
    cond-false _ _ _ (ne_eqb x s (All-head (IsNot s) x xs none)) ∙ ap (λ r. (x ∷ r.0, r.1)) (cut_later s xs ys (All-tail (IsNot s) x xs none))

-- the bytes up to the separator go on too
pub cut_behind : (s : ℕ) (xs ys : List ℕ) → All (IsNot s) xs → (47 == s) ≡ false → (rest : List ℕ) × (split_once s (xs ++ 47 ∷ ys) ≡ (xs ++ 47 ∷ rest, (split_once s ys).1))
unfolding split_once
cut_behind s xs ys none other =
    let before : List ℕ × Option (List ℕ) = ([], Some ys) in
    let later : List ℕ × Option (List ℕ) = (47 ∷ (split_once s ys).0, (split_once s ys).1) in
    ((split_once s ys).0, cut_later s xs (47 ∷ ys) none ∙ ap (λ r. (xs ++ r.0, r.1)) (cond-false (47 == s) before later other))

-- where the bytes that pass a test at the end begin
pub start_is : (test : ℕ → Bool) (xs : List ℕ) (n : ℕ) → n ≤ length xs → ((k : ℕ) → n ≤ k → k < length xs → test (get_or xs k 0) ≡ true) → (0 < n → test (get_or xs (n - 1) 0) ≡ false) → n ≡ length xs - suffix_len test xs
start_is test xs n within pass stops = let e = suffix_len_is test xs n 0 within pass stops in omega (arith, e)
