-- The order of answers: what is put in order ascends, has no other answers than came in, and stays as it is when it is put in order again.
use Rattle.std.proofs.Common.{◌≡◌, ℕ, ◌==◌, List, [], ◌∷◌, ◌++◌, length, map, fold, Bool, true, false, cond, Option, Some, None, Less, Greater, refl, sym, ap, ◌∙◌, subst, append_assoc, append-nil}
use Rattle.std.proofs.lemmas.Bool.{eq-eqb}
use Rattle.std.proofs.lemmas.List.Kept.{IsStrictlySortedBy-dedup}
use Rattle.std.specs.BTreeMap.{insert_entry, is_at}
use Rattle.std.specs.List.{AllByRecursion, dedup, find}
use Rattle.std.specs.List.Sorted.{IsSorted, IsStable, IsStrictlySortedBy}
use Rattle.std.specs.Map.{lookup, keys_of}
use Rattle.std.specs.Ordering.{is_eq}
use Rattle.std.specs.Option.{option_or}
use Rattle.std.specs.Prelude.{is_some, option_map, if◌then◌else◌}
use Rattle.url.specs.Parts.{Parts}
use Rattle.source_io.specs.Answers.{purpose_place}
use Rattle.source_io.specs.declared.types.Answer.{Answer}
use Rattle.source_io.specs.declared.types.Purpose.{Purpose}
use Rattle.world_answers.proofs.Ascending.{all_put, sorted_put, all_below, none_there, put_last}
use Rattle.world_answers.proofs.Firsts.{equal_is, first_at, put_at, same_entries, IsOfOne, sorted_first, dedup_first}
use Rattle.source_io.specs.AnswerOrder.{place_cmp, answer_cmp}
use Rattle.source_io.proofs.AnswerOrderLemmas.{place_total, answer_total}
use Rattle.world_answers.specs.AnswerOrder.{with_first, placed, listed, ordered, if_distinct}

-- an answer at its place
abbrev pub Spot : Type 0
Spot = (Parts × ℕ) × (Purpose × Answer)

-- ---- answers at their places

-- what holds of an answer at its place
abbrev At : (Parts × Purpose × Answer → Type 0) → Spot → Type 0
At P e = P (e.0.0, e.1.0, e.1.1)

-- the place is that of the purpose
abbrev pub IsPlaced : Spot → Type 0
IsPlaced e = e.0.1 ≡ purpose_place e.1.0

first_all : (P : Spot → Type 0) (found : List Spot) (e : Parts × Purpose × Answer) → AllByRecursion P found → P ((e.0, purpose_place e.1), (e.1, e.2)) → AllByRecursion P (with_first found e)
first_all P found e all here = by (is_some (lookup (is_at (place_cmp (e.0, purpose_place e.1))) found)) refl
  where
    by : (b : Bool) → is_some (lookup (is_at (place_cmp (e.0, purpose_place e.1))) found) ≡ b
        → AllByRecursion P (if b then found else insert_entry place_cmp found (e.0, purpose_place e.1) (e.1, e.2))
    by true is = all
    by false is = all_put place_total (e.0, purpose_place e.1) (e.1, e.2) P found is all here

first_sorted : (found : List Spot) (e : Parts × Purpose × Answer) → IsStrictlySortedBy place_cmp (keys_of found) → IsStrictlySortedBy place_cmp (keys_of (with_first found e))
first_sorted found e sorted = by (is_some (lookup (is_at (place_cmp (e.0, purpose_place e.1))) found))
  where
    by : (b : Bool) → IsStrictlySortedBy place_cmp (keys_of (if b then found else insert_entry place_cmp found (e.0, purpose_place e.1) (e.1, e.2)))
    by true = sorted
    by false = sorted_put place_total (e.0, purpose_place e.1) (e.1, e.2) found sorted

folded_sorted : (found : List Spot) (es : List (Parts × Purpose × Answer)) → IsStrictlySortedBy place_cmp (keys_of found) → IsStrictlySortedBy place_cmp (keys_of (fold with_first found es))
folded_sorted found [] sorted = sorted
folded_sorted found (e ∷ es) sorted = folded_sorted (with_first found e) es (first_sorted found e sorted)

folded_placed : (found : List Spot) (es : List (Parts × Purpose × Answer)) → AllByRecursion IsPlaced found → AllByRecursion IsPlaced (fold with_first found es)
folded_placed found [] all = all
folded_placed found (e ∷ es) all = folded_placed (with_first found e) es (first_all IsPlaced found e all refl)

-- each answer stands at the place of its purpose
pub all_placed : (es : List (Parts × Purpose × Answer)) → AllByRecursion IsPlaced (placed es)
all_placed es = folded_placed [] es tt

folded_all : (P : Parts × Purpose × Answer → Type 0) (found : List Spot) (es : List (Parts × Purpose × Answer)) → AllByRecursion (At P) found → AllByRecursion P es → AllByRecursion (At P) (fold with_first found es)
folded_all P found [] all more = all
folded_all P found (e ∷ es) all more = folded_all P (with_first found e) es (first_all (At P) found e all more.0) more.1

nil_sorted : IsStrictlySortedBy place_cmp []
unfolding IsStrictlySortedBy
nil_sorted = tt

listed_all : (P : Parts × Purpose × Answer → Type 0) (found : List Spot) → AllByRecursion (At P) found → AllByRecursion P (listed found)
listed_all P [] all = tt
listed_all P (e ∷ es) all = (all.0, listed_all P es all.1)

-- what holds of all answers holds of those in order
pub ordered_all : (P : Parts × Purpose × Answer → Type 0) (es : List (Parts × Purpose × Answer)) → AllByRecursion P es → AllByRecursion P (ordered es)
unfolding ordered
ordered_all P es all = listed_all P (placed es) (folded_all P [] es tt all)

-- ---- in order already

first_last : (e : Spot) (done : List Spot) → AllByRecursion (λ d. place_cmp e.0 d.0 ≡ Greater) done → IsPlaced e → with_first done (e.0.0, e.1.0, e.1.1) ≡ done ++ e ∷ []
first_last e done all is =
    ap (λ n. if is_some (lookup (is_at (place_cmp (e.0.0, n))) done) then done else insert_entry place_cmp done (e.0.0, n) (e.1.0, e.1.1)) (sym is)
    ∙ ap (λ found. if is_some found then done else insert_entry place_cmp done e.0 e.1) (none_there place_total e done all)
    ∙ put_last place_total e done all

placed_again : (done rest : List Spot) → IsStrictlySortedBy place_cmp (keys_of (done ++ rest)) → AllByRecursion IsPlaced rest → fold with_first done (listed rest) ≡ done ++ rest
placed_again done [] sorted all = sym (append-nil done)
placed_again done (e ∷ rest) sorted all =
    ap (λ found. fold with_first found (listed rest)) (first_last e done (all_below place_total done e rest sorted) all.0)
    ∙ placed_again (done ++ e ∷ []) rest (subst (λ (es : List Spot). IsStrictlySortedBy place_cmp (keys_of es)) (sym (append_assoc done (e ∷ []) rest)) sorted) all.1
    ∙ append_assoc done (e ∷ []) rest

-- answers in order stay so
pub ordered_again : (es : List (Parts × Purpose × Answer)) → ordered (ordered es) ≡ ordered es
unfolding ordered
ordered_again es = ap listed (placed_again [] (placed es) (folded_sorted [] es nil_sorted) (all_placed es))

-- and no two of them are of one specifier and purpose
pub ordered_distinct : (es : List (Parts × Purpose × Answer)) → if_distinct (ordered es) ≡ Some (ordered es)
ordered_distinct es =
    ap (λ (found : List (Parts × Purpose × Answer)). if length found == length (ordered es) then Some found else None) (ordered_again es)
    ∙ ap (λ b. if b then Some (ordered es) else None) (eq-eqb (length (ordered es)) (length (ordered es)) refl)

-- ---- put in order by a sort

-- an answer at the place of its purpose
spot : Parts × Purpose × Answer → Spot
spot e = ((e.0, purpose_place e.1), (e.1, e.2))

spots_listed : (es : List (Parts × Purpose × Answer)) → listed (map spot es) ≡ es
unfolding spot
spots_listed [] = refl
spots_listed (e ∷ es) = ap (λ l. e ∷ l) (spots_listed es)

all_spots : (e : Parts × Purpose × Answer) (es : List (Parts × Purpose × Answer)) → AllByRecursion (λ d. answer_cmp e d ≡ Less) es → AllByRecursion (λ p. place_cmp (e.0, purpose_place e.1) p ≡ Less) (keys_of (map spot es))
unfolding spot
all_spots e [] all = tt
all_spots e (d ∷ es) all = (all.0, all_spots e es all.1)

spots_sorted : (es : List (Parts × Purpose × Answer)) → IsStrictlySortedBy answer_cmp es → IsStrictlySortedBy place_cmp (keys_of (map spot es))
unfolding spot IsStrictlySortedBy
spots_sorted [] sorted = tt
spots_sorted (e ∷ es) sorted = (all_spots e es sorted.0, spots_sorted es sorted.1)

-- whether an answer is at a place
unfoldable pub is_there : Parts × ℕ → Parts × Purpose × Answer → Bool
is_there q e = is_eq (place_cmp q (e.0, purpose_place e.1))

there_alike : (q : Parts × ℕ) → IsOfOne answer_total (is_there q)
unfolding is_there
there_alike q x at_x y =
    ap is_eq (sym (place_total.congr q (x.0, purpose_place x.1) (y.0, purpose_place y.1) (equal_is (place_cmp q (x.0, purpose_place x.1)) at_x)))

spots_first : (q : Parts × ℕ) (es : List (Parts × Purpose × Answer)) → first_at place_cmp q (map spot es) ≡ option_map spot (find (is_there q) es)
unfolding spot is_there
spots_first q [] = refl
spots_first q (e ∷ es) = by (is_there q e) (spots_first q es)
  where
    by : (b : Bool) → first_at place_cmp q (map spot es) ≡ option_map spot (find (is_there q) es)
        → cond b (Some (spot e)) (first_at place_cmp q (map spot es)) ≡ option_map spot (cond b (Some e) (find (is_there q) es))
    by true rest = refl
    by false rest = rest

folded_first : (q : Parts × ℕ) (found : List Spot) (es : List (Parts × Purpose × Answer)) → first_at place_cmp q (fold with_first found es) ≡ option_or (first_at place_cmp q found) (first_at place_cmp q (map spot es))
unfolding spot is_there
folded_first q found [] = by (first_at place_cmp q found)
  where
    by : (o : Option Spot) → o ≡ option_or o None
    by None = refl
    by (Some x) = refl
folded_first q found (e ∷ es) =
    folded_first q (with_first found e) es
    ∙ ap (λ o. option_or o (first_at place_cmp q (map spot es))) (put_at place_total q (e.0, purpose_place e.1) (e.1, e.2) found)
    ∙ by (first_at place_cmp q found) (is_there q e)
  where
    by : (o : Option Spot) (b : Bool) → option_or (option_or o (cond b (Some (spot e)) None)) (first_at place_cmp q (map spot es)) ≡ option_or o (cond b (Some (spot e)) (first_at place_cmp q (map spot es)))
    by (Some x) b = refl
    by None true = refl
    by None false = refl

-- a stable sort puts answers in order, once of those at one place the first is left
pub sorted_ordered : (es ys : List (Parts × Purpose × Answer)) → IsSorted answer_cmp ys → IsStable answer_cmp es ys → dedup (λ x y. is_eq (answer_cmp x y)) ys ≡ ordered es
unfolding ordered
sorted_ordered es ys sorted stable =
    let left = dedup (λ x y. is_eq (answer_cmp x y)) ys in
    let strict : IsStrictlySortedBy answer_cmp left = IsStrictlySortedBy-dedup answer_total (λ x y. refl) ys sorted in
    let first : (q : Parts × ℕ) → first_at place_cmp q (map spot left) ≡ first_at place_cmp q (placed es) =
    λ q. spots_first q left
    ∙ ap (option_map spot) (dedup_first answer_total (is_there q) (there_alike q) ys ∙ sorted_first answer_total (is_there q) (there_alike q) es ys stable)
    ∙ sym (spots_first q es) ∙ sym (folded_first q [] es)
    in
    sym (spots_listed left)
    ∙ ap listed (same_entries place_total (map spot left) (placed es) (spots_sorted left strict) (folded_sorted [] es nil_sorted) first)

-- answers that are found alike at each place are the same in order
pub same_ordered : (xs ys : List (Parts × Purpose × Answer)) → ((q : Parts × ℕ) → find (is_there q) xs ≡ find (is_there q) ys) → ordered xs ≡ ordered ys
unfolding ordered
same_ordered xs ys same =
    ap listed (same_entries place_total (placed xs) (placed ys) (folded_sorted [] xs nil_sorted) (folded_sorted [] ys nil_sorted)
    (λ q. folded_first q [] xs ∙ spots_first q xs ∙ ap (option_map spot) (same q) ∙ sym (spots_first q ys) ∙ sym (folded_first q [] ys)))

-- ---- answers that rise

spots_placed : (es : List (Parts × Purpose × Answer)) → AllByRecursion IsPlaced (map spot es)
unfolding spot
spots_placed [] = tt
spots_placed (e ∷ es) = (refl, spots_placed es)

-- they are in order
pub rising_ordered : (es : List (Parts × Purpose × Answer)) → IsStrictlySortedBy answer_cmp es → ordered es ≡ es
unfolding ordered
rising_ordered es up =
    ap (λ l. listed (fold with_first [] l)) (sym (spots_listed es))
    ∙ ap listed (placed_again [] (map spot es) (spots_sorted es up) (spots_placed es))
    ∙ spots_listed es
