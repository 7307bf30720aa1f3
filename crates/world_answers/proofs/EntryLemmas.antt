-- Entries that rise are of distinct specifiers.
use Rattle.std.proofs.Common.{◌≡◌, ℕ, List, [], ◌∷◌, map, true, false, Some, Less, refl, sym, ap, ◌∙◌}
use Rattle.std.proofs.lemmas.Bool.Decides.{same_from_decides, Decides-like}
use Rattle.std.proofs.lemmas.Map.Text.{is_eq-slice_cmp}
use Rattle.std.proofs.lemmas.Slice.Eq.{bytes_eq-Decides}
use Rattle.std.specs.Cmp.Lexicographic.{slice_cmp}
use Rattle.std.specs.List.{AllByRecursion, list_any}
use Rattle.std.specs.List.Sorted.{IsStrictlySortedBy}
use Rattle.std.specs.Ordering.{is_eq, nat_cmp}
use Rattle.std.specs.Str.{bytes_eq}
use Rattle.url.specs.Parts.{Parts, serialize}
use Rattle.specifier_index.specs.EntryOrder.{AreRising, entry_cmp}
use Rattle.json_forms.specs.Keyed.{no_repeats, if_distinct}

-- an entry's text stands before another's
abbrev Before : {T : Type 0} → Parts × T → Parts × T → Type 0
Before d e = entry_cmp d e ≡ Less

other : (t x : List ℕ) → slice_cmp nat_cmp x t ≡ Less → bytes_eq t x ≡ false
other t x before =
    let swapped = same_from_decides _ _ (bytes_eq-Decides t x) (Decides-like _ sym sym (bytes_eq-Decides x t)) in
    swapped ∙ sym (is_eq-slice_cmp x t) ∙ ap is_eq before

module _ {T : Type 0} where
  abbrev texts : List (Parts × T) → List (List ℕ)
  texts es = map (λ e. serialize e.0) es

  none_same : (e : Parts × T) (es seen : List (Parts × T)) → AllByRecursion (λ d. AllByRecursion (Before d) (e ∷ es)) seen → list_any (bytes_eq (serialize e.0)) (texts seen) ≡ false
  none_same e es [] all = refl
  none_same e es (d ∷ seen) all = rw (other (serialize e.0) (serialize d.0) all.0.0) (none_same e es seen all.1)

  rests : (e : Parts × T) (es seen : List (Parts × T)) → AllByRecursion (λ d. AllByRecursion (Before d) (e ∷ es)) seen → AllByRecursion (λ d. AllByRecursion (Before d) es) seen
  rests e es [] all = tt
  rests e es (d ∷ seen) all = (all.0.1, rests e es seen all.1)

  -- entries that rise, and stand behind those that were seen, don't repeat
  distinct : (seen es : List (Parts × T)) → AllByRecursion (λ d. AllByRecursion (Before d) es) seen → AreRising es → no_repeats (texts seen) (texts es) ≡ true
  unfolding IsStrictlySortedBy
  distinct seen [] below rising = refl
  distinct seen (e ∷ es) below rising = rw (none_same e es seen below) (distinct (e ∷ seen) es (rising.0, rests e es seen below) rising.1)

-- so that they are what is read
pub rising_read : {T : Type 0} (es : List (Parts × T)) → AreRising es → if_distinct es ≡ Some es
rising_read es rising = rw (distinct [] es tt rising)
