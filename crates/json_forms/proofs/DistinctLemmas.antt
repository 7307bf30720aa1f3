-- Entries that rise don't repeat.
use Rattle.std.proofs.Common.{◌≡◌, ℕ, List, [], ◌∷◌, map, true, false, Less, refl, sym, ap, ◌∙◌}
use Rattle.std.proofs.lemmas.Bool.Decides.{same_from_decides, Decides-like}
use Rattle.std.proofs.lemmas.Map.Text.{is_eq-slice_cmp}
use Rattle.std.proofs.lemmas.Slice.Eq.{bytes_eq-Decides}
use Rattle.std.specs.Cmp.Lexicographic.{slice_cmp}
use Rattle.std.specs.List.{AllByRecursion, list_any}
use Rattle.std.specs.List.Sorted.{IsStrictlySortedBy}
use Rattle.std.specs.Ordering.{is_eq, nat_cmp}
use Rattle.std.specs.Str.{bytes_eq}
use Rattle.url.specs.Parts.{Parts, serialize}
use Rattle.specifier_index.specs.EntryOrder.{AreRising}
use Rattle.json_forms.specs.Keyed.{no_repeats}

-- a text stands before another
abbrev Before : List ℕ → List ℕ → Type 0
Before x y = slice_cmp nat_cmp x y ≡ Less

pub same_bytes : (a b : List ℕ) → bytes_eq a b ≡ bytes_eq b a
same_bytes a b = same_from_decides _ _ (bytes_eq-Decides a b) (Decides-like _ sym sym (bytes_eq-Decides b a))

other : (t x : List ℕ) → Before x t → bytes_eq t x ≡ false
other t x before = same_bytes t x ∙ sym (is_eq-slice_cmp x t) ∙ ap is_eq before

none_same : (t : List ℕ) (ts seen : List (List ℕ)) → AllByRecursion (λ x. AllByRecursion (Before x) (t ∷ ts)) seen → list_any (bytes_eq t) seen ≡ false
none_same t ts [] all = refl
none_same t ts (x ∷ seen) all = rw (other t x all.0.0) (none_same t ts seen all.1)

rests : (t : List ℕ) (ts seen : List (List ℕ)) → AllByRecursion (λ x. AllByRecursion (Before x) (t ∷ ts)) seen → AllByRecursion (λ x. AllByRecursion (Before x) ts) seen
rests t ts [] all = tt
rests t ts (x ∷ seen) all = (all.0.1, rests t ts seen all.1)

-- texts that rise, and stand behind those that were seen, don't repeat
distinct : (seen ts : List (List ℕ)) → AllByRecursion (λ x. AllByRecursion (Before x) ts) seen → IsStrictlySortedBy (slice_cmp nat_cmp) ts → no_repeats seen ts ≡ true
unfolding IsStrictlySortedBy
distinct seen [] below sorted = refl
distinct seen (t ∷ ts) below sorted = rw (none_same t ts seen below) (distinct (t ∷ seen) ts (sorted.0, rests t ts seen below) sorted.1)

texts_before : {T : Type 0} (e : Parts × T) (es : List (Parts × T)) → AllByRecursion (λ d. Before (serialize e.0) (serialize d.0)) es → AllByRecursion (Before (serialize e.0)) (map (λ d. serialize d.0) es)
texts_before e [] all = tt
texts_before e (d ∷ es) all = (all.0, texts_before e es all.1)

texts_sorted : {T : Type 0} (es : List (Parts × T)) → AreRising es → IsStrictlySortedBy (slice_cmp nat_cmp) (map (λ e. serialize e.0) es)
unfolding IsStrictlySortedBy
texts_sorted [] sorted = tt
texts_sorted (e ∷ es) sorted = (texts_before e es sorted.0, texts_sorted es sorted.1)

pub rising_distinct : {T : Type 0} (es : List (Parts × T)) → AreRising es → true ≡ no_repeats [] (map (λ e. serialize e.0) es)
rising_distinct {T} es up = sym (distinct [] (map (λ (e : Parts × T). serialize e.0) es) tt (texts_sorted es up))
