-- Lists of texts as sets, and the one list that each set has in ascending order.
use Rattle.std.proofs.Common.{◌≡◌, ℕ, ◌+◌, ◌<◌, ◌≤◌, length, take, get_or, Bool, true, false, ◌&&◌, ◌||◌, cond, List, [], ◌∷◌, ◌++◌, Option, Some, None, Ordering, Less, Equal, Greater, refl, sym, ap, ◌∙◌, ⊎_elim, bytes_eq, map, flat_map, filter, filter_map, fold}
use Rattle.std.specs.List.{list_any, AllByRecursion, cons_option}
use Rattle.std.specs.List.Sorted.{IsStrictlySortedBy}
use Rattle.std.specs.Ordering.{match_ordering, ordering_reverse}
use Rattle.std.specs.Cmp.{IsTotalOrder}
use Rattle.std.specs.Cmp.Lexicographic.{nat_list_cmp_total}
use Rattle.std.specs.BTreeMap.{is_at}
use Rattle.std.specs.BTreeSet.{BTreeSet, insert_key}
use Rattle.std.proofs.Math.Bool.{or_assoc, or-false}
use Rattle.std.proofs.lemmas.Bool.{or_cases, or_left, or_right, and_parts, and_from, false≢true}
use Rattle.std.proofs.lemmas.Grind.{fold-append}
use Rattle.std.proofs.lemmas.List.{append-nil, take_more, take_all}
use Rattle.std.proofs.lemmas.List.Elements.{filter_map-append}
use Rattle.std.proofs.lemmas.List.Folds.{list_any-append}
use Rattle.std.proofs.lemmas.Map.Lookups.{btree_set_from_contains, exact_bytes}
use Rattle.std.proofs.lemmas.Map.Text.{is_eq-slice_cmp}
use Rattle.std.proofs.lemmas.Slice.Eq.{bytes_eq-Decides}
use Rattle.spec_base.specs.Options.{by_option}
use Rattle.spec_base.specs.Shown.{text_cmp}
use Rattle.file_tree.specs.Tree.{ascending}
use Rattle.file_tree.specs.Walk.{has_path}

-- ---- tests

-- two tests that imply each other are one
pub same_tests : (s t : Bool) → (s ≡ true → t ≡ true) → (t ≡ true → s ≡ true) → s ≡ t
same_tests true t f g = sym (f refl)
same_tests false true f g = g refl
same_tests false false f g = refl

or_swap : (a b c : Bool) → (a || (b || c)) ≡ (b || (a || c))
or_swap true true c = refl
or_swap true false c = refl
or_swap false b c = refl

or_pairs : (a b c d : Bool) → ((a || b) || (c || d)) ≡ ((a || c) || (b || d))
or_pairs true b c d = refl
or_pairs false b c d = or_swap b c d

or_same : (a b : Bool) → (a || (a || b)) ≡ (a || b)
or_same true b = refl
or_same false b = refl

-- ---- texts that are the same

pub same_from : (a b : List ℕ) → bytes_eq a b ≡ true → a ≡ b
same_from a b e = (bytes_eq-Decides a b).0 e

pub same_at : (a : List ℕ) → bytes_eq a a ≡ true
same_at a = (bytes_eq-Decides a a).1 refl

-- ---- what a list has

-- one that passes
pub any_from : (p : List ℕ → Bool) (t : List ℕ) (ts : List (List ℕ)) → has_path ts t ≡ true → p t ≡ true → list_any p ts ≡ true
any_from p t [] has pass = absurd (false≢true has)
any_from p t (u ∷ us) has pass =
    ⊎_elim (λ e. or_left (p u) (list_any p us) (ap p (sym (same_from t u e)) ∙ pass)) (λ e. or_right (p u) (list_any p us) (any_from p t us e pass)) (or_cases (bytes_eq t u) (has_path us t) has)

-- the one that passes
pub any_gives : (p : List ℕ → Bool) (ts : List (List ℕ)) → list_any p ts ≡ true → (t : List ℕ) × (has_path ts t ≡ true) × (p t ≡ true)
any_gives p [] e = absurd (false≢true e)
any_gives p (u ∷ us) e =
    ⊎_elim (λ h. (u, or_left (bytes_eq u u) (has_path us u) (same_at u), h))
    (λ h. let r = any_gives p us h in (r.0, or_right (bytes_eq r.0 u) (has_path us r.0) r.1, r.2))
    (or_cases (p u) (list_any p us) e)

-- a test of lists with the same elements
any_same : (p : List ℕ → Bool) (ts us : List (List ℕ)) → ((t : List ℕ) → has_path ts t ≡ has_path us t) → list_any p ts ≡ list_any p us
any_same p ts us same =
    same_tests (list_any p ts) (list_any p us)
    (λ e. let r = any_gives p ts e in any_from p r.0 us (sym (same r.0) ∙ r.1) r.2)
    (λ e. let r = any_gives p us e in any_from p r.0 ts (same r.0 ∙ r.1) r.2)

pub any_flat_map : {X Y : Type 0} (p : Y → Bool) (f : X → List Y) (xs : List X) → list_any p (flat_map f xs) ≡ list_any (λ x. list_any p (f x)) xs
any_flat_map p f [] = refl
any_flat_map p f (x ∷ xs) = list_any-append p (f x) (flat_map f xs) ∙ ap (λ b. list_any p (f x) || b) (any_flat_map p f xs)

pub any_map : {X Y : Type 0} (p : Y → Bool) (f : X → Y) (xs : List X) → list_any p (map f xs) ≡ list_any (λ x. p (f x)) xs
any_map p f [] = refl
any_map p f (x ∷ xs) = ap (λ b. p (f x) || b) (any_map p f xs)

-- two tests that agree
pub any_alike : {X : Type 0} (p q : X → Bool) (xs : List X) → ((x : X) → p x ≡ q x) → list_any p xs ≡ list_any q xs
any_alike p q [] same = refl
any_alike p q (x ∷ xs) same = ap (λ b. b || list_any p xs) (same x) ∙ ap (λ b. q x || b) (any_alike p q xs same)

-- either of two tests
pub any_or : {X : Type 0} (p q : X → Bool) (xs : List X) → list_any (λ x. p x || q x) xs ≡ (list_any p xs || list_any q xs)
any_or p q [] = refl
any_or p q (x ∷ xs) =
    ap (λ b. (p x || q x) || b) (any_or p q xs) ∙ or_pairs (p x) (q x) (list_any p xs) (list_any q xs)

-- what a filter keeps
filter_choice : (b : Bool) (p : List ℕ → Bool) (t u : List ℕ) (us : List (List ℕ)) → p u ≡ b → has_path (filter p us) t ≡ (has_path us t && p t) → has_path (cond b (u ∷ filter p us) (filter p us)) t ≡ ((bytes_eq t u || has_path us t) && p t)
filter_choice true p t u us e ih =
    same_tests (bytes_eq t u || has_path (filter p us) t) ((bytes_eq t u || has_path us t) && p t)
    (λ h. ⊎_elim (λ s. and_from (bytes_eq t u || has_path us t) (p t) (or_left (bytes_eq t u) (has_path us t) s) (ap p (same_from t u s) ∙ e))
    (λ s. let r = and_parts (has_path us t) (p t) (sym ih ∙ s) in and_from (bytes_eq t u || has_path us t) (p t) (or_right (bytes_eq t u) (has_path us t) r.0) r.1)
    (or_cases (bytes_eq t u) (has_path (filter p us) t) h))
    (λ h. let r = and_parts (bytes_eq t u || has_path us t) (p t) h in
    ⊎_elim (λ s. or_left (bytes_eq t u) (has_path (filter p us) t) s)
    (λ s. or_right (bytes_eq t u) (has_path (filter p us) t) (ih ∙ and_from (has_path us t) (p t) s r.1))
    (or_cases (bytes_eq t u) (has_path us t) r.0))
filter_choice false p t u us e ih =
    same_tests (has_path (filter p us) t) ((bytes_eq t u || has_path us t) && p t)
    (λ h. let r = and_parts (has_path us t) (p t) (sym ih ∙ h) in and_from (bytes_eq t u || has_path us t) (p t) (or_right (bytes_eq t u) (has_path us t) r.0) r.1)
    (λ h. let r = and_parts (bytes_eq t u || has_path us t) (p t) h in
    ⊎_elim (λ s. absurd (false≢true (sym e ∙ ap p (sym (same_from t u s)) ∙ r.1)))
    (λ s. ih ∙ and_from (has_path us t) (p t) s r.1)
    (or_cases (bytes_eq t u) (has_path us t) r.0))

pub has_filtered : (p : List ℕ → Bool) (t : List ℕ) (ts : List (List ℕ)) → has_path (filter p ts) t ≡ (has_path ts t && p t)
has_filtered p t [] = refl
has_filtered p t (u ∷ us) = filter_choice (p u) p t u us refl (has_filtered p t us)

has_cons_option : (t : List ℕ) (o : Option (List ℕ)) (ts : List (List ℕ)) → has_path (cons_option o ts) t ≡ (by_option o false (bytes_eq t) || has_path ts t)
has_cons_option t None ts = refl
has_cons_option t (Some u) ts = refl

pub has_filter_mapped : (f : List ℕ → Option (List ℕ)) (t : List ℕ) (ts : List (List ℕ)) → has_path (filter_map f ts) t ≡ list_any (λ u. by_option (f u) false (bytes_eq t)) ts
has_filter_mapped f t [] = refl
has_filter_mapped f t (u ∷ us) =
    has_cons_option t (f u) (filter_map f us) ∙ ap (λ b. by_option (f u) false (bytes_eq t) || b) (has_filter_mapped f t us)

-- ---- ascending lists

module _ {K : Type 0} (R : K → K → Ordering) (o : IsTotalOrder R) where
  all_inserted : (P : K → Type 0) (k : K) (ks : List K) → AllByRecursion P ks → P k → AllByRecursion P (insert_key R ks k)
  all_inserted P k [] all here = (here, tt)
  all_inserted P k (x ∷ xs) all here = by (R k x) (all_inserted P k xs all.1 here)
    where
      by : (r : Ordering) → AllByRecursion P (insert_key R xs k) → AllByRecursion P (match_ordering r (k ∷ x ∷ xs) (x ∷ xs) (x ∷ insert_key R xs k))
      by Less rest = (here, all)
      by Equal rest = all
      by Greater rest = (all.0, rest)

  all_above : (k x : K) (xs : List K) → R k x ≡ Less → AllByRecursion (λ y. R x y ≡ Less) xs → AllByRecursion (λ y. R k y ≡ Less) xs
  all_above k x [] less all = tt
  all_above k x (y ∷ ys) less all = (o.trans k x y less all.0, all_above k x ys less all.1)

  inserted_sorted : (k : K) (ks : List K) → IsStrictlySortedBy R ks → IsStrictlySortedBy R (insert_key R ks k)
  unfolding IsStrictlySortedBy
  inserted_sorted k [] sorted = (tt, tt)
  inserted_sorted k (x ∷ xs) sorted = by (R k x) refl (inserted_sorted k xs sorted.1)
    where
      by : (r : Ordering) → R k x ≡ r → IsStrictlySortedBy R (insert_key R xs k) → IsStrictlySortedBy R (match_ordering r (k ∷ x ∷ xs) (x ∷ xs) (x ∷ insert_key R xs k))
      by Less e rest = ((e, all_above k x xs e sorted.0), sorted)
      by Equal e rest = sorted
      by Greater e rest =
          (all_inserted (λ y. R x y ≡ Less) k xs sorted.0 (o.antisymm x k ∙ ap ordering_reverse e), rest)

  fold_sorted : (acc ks : List K) → IsStrictlySortedBy R acc → IsStrictlySortedBy R (fold (insert_key R) acc ks)
  fold_sorted acc [] sorted = sorted
  fold_sorted acc (k ∷ ks) sorted = fold_sorted (insert_key R acc k) ks (inserted_sorted k acc sorted)

  nil_sorted : IsStrictlySortedBy R []
  unfolding IsStrictlySortedBy
  nil_sorted = tt

ascending_sorted : (ts : List (List ℕ)) → IsStrictlySortedBy text_cmp (ascending ts)
unfolding ascending
ascending_sorted ts = fold_sorted text_cmp nat_list_cmp_total [] ts (nil_sorted text_cmp nat_list_cmp_total)

inserted_choice : (q t u : List ℕ) (us : List (List ℕ)) (r : Ordering) → text_cmp t u ≡ r → has_path (insert_key text_cmp us t) q ≡ (bytes_eq q t || has_path us q) → has_path (match_ordering r (t ∷ u ∷ us) (u ∷ us) (u ∷ insert_key text_cmp us t)) q ≡ (bytes_eq q t || (bytes_eq q u || has_path us q))
inserted_choice q t u us Less e ih = refl
inserted_choice q t u us Equal e ih =
    sym (ap (λ v. bytes_eq q v || (bytes_eq q u || has_path us q)) (exact_bytes t u e) ∙ or_same (bytes_eq q u) (has_path us q))
inserted_choice q t u us Greater e ih =
    ap (λ b. bytes_eq q u || b) ih ∙ or_swap (bytes_eq q u) (bytes_eq q t) (has_path us q)

has_inserted : (q t : List ℕ) (ts : List (List ℕ)) → has_path (insert_key text_cmp ts t) q ≡ (bytes_eq q t || has_path ts q)
has_inserted q t [] = refl
has_inserted q t (u ∷ us) = inserted_choice q t u us (text_cmp t u) refl (has_inserted q t us)

has_folded : (q : List ℕ) (acc ts : List (List ℕ)) → has_path (fold (insert_key text_cmp) acc ts) q ≡ (has_path ts q || has_path acc q)
has_folded q acc [] = refl
has_folded q acc (t ∷ ts) =
    has_folded q (insert_key text_cmp acc t) ts ∙ ap (λ b. has_path ts q || b) (has_inserted q t acc)
    ∙ or_swap (has_path ts q) (bytes_eq q t) (has_path acc q) ∙ sym (or_assoc (bytes_eq q t) (has_path ts q) (has_path acc q))

-- an ascending list has what the list has
pub has_ascending : (q : List ℕ) (ts : List (List ℕ)) → has_path (ascending ts) q ≡ has_path ts q
unfolding ascending
has_ascending q ts = has_folded q [] ts ∙ or-false (has_path ts q)

pub by_order : (q : List ℕ) (ts : List (List ℕ)) → list_any (is_at (text_cmp q)) ts ≡ has_path ts q
by_order q ts = any_alike (is_at (text_cmp q)) (bytes_eq q) ts (λ t. is_eq-slice_cmp q t)

-- lists with the same elements have one ascending list
same_ascending : (ts us : List (List ℕ)) → ((t : List ℕ) → has_path ts t ≡ has_path us t) → ascending ts ≡ ascending us
same_ascending ts us same =
    let a : BTreeSet (List ℕ) = record { keys = ascending ts } in
    let b : BTreeSet (List ℕ) = record { keys = ascending us } in
    btree_set_from_contains nat_list_cmp_total a b (ascending_sorted ts) (ascending_sorted us)
    (λ q. by_order q (ascending ts) ∙ has_ascending q ts ∙ same q ∙ sym (has_ascending q us) ∙ sym (by_order q (ascending us)))
    exact_bytes

-- what is made of each element of lists with the same elements
pub same_made : (f : List ℕ → Option (List ℕ)) (ts us : List (List ℕ)) → ((t : List ℕ) → has_path ts t ≡ has_path us t) → ascending (filter_map f ts) ≡ ascending (filter_map f us)
same_made f ts us same =
    same_ascending (filter_map f ts) (filter_map f us)
    (λ t. has_filter_mapped f t ts ∙ any_same (λ u. by_option (f u) false (bytes_eq t)) ts us same ∙ sym (has_filter_mapped f t us))

-- ---- a text more

pub ascending_none : ascending [] ≡ []
unfolding ascending
ascending_none = refl

ascending_push : (ts : List (List ℕ)) (t : List ℕ) → ascending (ts ++ t ∷ []) ≡ insert_key text_cmp (ascending ts) t
unfolding ascending
ascending_push ts t = fold-append (insert_key text_cmp) [] ts (t ∷ [])

pushed : {X : Type 0} (g : X → Option (List ℕ)) (xs : List X) (x : X) (o : Option (List ℕ)) → g x ≡ o → ascending (filter_map g (xs ++ x ∷ [])) ≡ by_option o (ascending (filter_map g xs)) (insert_key text_cmp (ascending (filter_map g xs)))
pushed g xs x None e =
    ap ascending (filter_map-append g xs (x ∷ []) ∙ ap (λ r. filter_map g xs ++ cons_option r []) e ∙ append-nil (filter_map g xs))
pushed g xs x (Some t) e =
    ap ascending (filter_map-append g xs (x ∷ []) ∙ ap (λ r. filter_map g xs ++ cons_option r []) e) ∙ ascending_push (filter_map g xs) t

-- the next element of a list
pub added_next : {X : Type 0} (g : X → Option (List ℕ)) (xs : List X) (i : ℕ) (x : X) (old new : List (List ℕ)) (o : Option (List ℕ)) → i < length xs → x ≡ get_or xs i x → old ≡ ascending (filter_map g (take i xs)) → o ≡ g x → new ≡ by_option o old (insert_key text_cmp old) → new ≡ ascending (filter_map g (take (i + 1) xs))
added_next g xs i x old new o within is_next so_far gives made =
    made ∙ ap (λ ts. by_option o ts (insert_key text_cmp ts)) so_far
    ∙ sym (ap (λ l. ascending (filter_map g l)) (take_more xs i x within ∙ ap (λ y. take i xs ++ y ∷ []) (sym is_next)) ∙ pushed g (take i xs) x o (sym gives))

-- the whole of a list
pub added_all : {X : Type 0} (g : X → Option (List ℕ)) (xs : List X) (i : ℕ) (all : List (List ℕ)) → length xs ≤ i → all ≡ ascending (filter_map g (take i xs)) → all ≡ ascending (filter_map g xs)
added_all g xs i all past so_far = so_far ∙ ap (λ l. ascending (filter_map g l)) (take_all i xs past)

filter_mapped : {X : Type 0} (f : List ℕ → Option (List ℕ)) (h : X → List ℕ) (xs : List X) → filter_map f (map h xs) ≡ filter_map (λ x. f (h x)) xs
filter_mapped f h [] = refl
filter_mapped f h (x ∷ xs) = ap (cons_option (f (h x))) (filter_mapped f h xs)

pub mapped_names : {X : Type 0} (f : List ℕ → Option (List ℕ)) (h : X → List ℕ) (xs : List X) → ascending (filter_map f (map h xs)) ≡ ascending (filter_map (λ x. f (h x)) xs)
mapped_names f h xs = ap ascending (filter_mapped f h xs)
