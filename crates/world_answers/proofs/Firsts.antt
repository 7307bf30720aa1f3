-- What stands first at each key of entries, and what a stable sort and the removal of repeats leave of it.
use Rattle.std.proofs.Common.{◌≡◌, List, [], ◌∷◌, Bool, true, false, true≢false, not, ◌&&◌, cond, Option, Some, None, Ordering, Less, Equal, Greater, refl, sym, ap, ◌∙◌}
use Rattle.std.specs.BTreeMap.{insert_entry, is_at}
use Rattle.std.specs.Cmp.{IsTotalOrder}
use Rattle.std.specs.List.{AllByRecursion, dedup, dedup_from, filter, find}
use Rattle.std.specs.List.Sorted.{IsStrictlySortedBy, IsStable, ties}
use Rattle.std.specs.Map.{lookup, keys_of}
use Rattle.std.specs.Option.{option_or}
use Rattle.std.specs.Ordering.{match_ordering, ordering_reverse, is_eq, is_lt}
use Rattle.std.specs.Prelude.{is_some, if◌then◌else◌}
use Rattle.world_answers.proofs.Ascending.{all_above}

pub equal_is : (r : Ordering) → is_eq r ≡ true → r ≡ Equal
equal_is Less e = cc
equal_is Equal e = refl
equal_is Greater e = cc

own_reverse : (r : Ordering) → r ≡ ordering_reverse r → r ≡ Equal
own_reverse Less e = cc
own_reverse Equal e = refl
own_reverse Greater e = cc

-- a key is equal to itself
self_equal : {K : Type 0} {R : K → K → Ordering} → IsTotalOrder R → (k : K) → R k k ≡ Equal
self_equal {R = R} o k = own_reverse (R k k) (o.antisymm k k)

above_alike : {K : Type 0} {R : K → K → Ordering} → IsTotalOrder R → (q k : K) (ks : List K) → R q k ≡ Equal → AllByRecursion (λ y. R k y ≡ Less) ks → AllByRecursion (λ y. R q y ≡ Less) ks
above_alike o q k [] e all = tt
above_alike o q k (y ∷ ys) e all = (o.congr q k y e ∙ all.0, above_alike o q k ys e all.1)

-- ---- the first entry at a key

abbrev pub first_at : {K X : Type 0} → (K → K → Ordering) → K → List (K × X) → Option (K × X)
first_at R q es = find (λ e. is_eq (R q e.0)) es

some_same : {X : Type 0} (x y : X) (o : Option X) → o ≡ Some x → o ≡ Some y → x ≡ y
some_same x y None a b = cc
some_same x y (Some z) a b = cc

some_none : {X Y : Type 0} (x : X) (o : Option X) → o ≡ Some x → o ≡ None → Y
some_none x None a b = absurd (true≢false (ap is_some (sym a)))
some_none x (Some z) a b = absurd (true≢false (ap is_some b))

none_is : {X : Type 0} (o : Option X) → is_some o ≡ false → o ≡ None
none_is None e = refl
none_is (Some x) e = absurd (true≢false e)

or_new : {X : Type 0} (b : Bool) (o : Option X) (x : X) → (b ≡ true → o ≡ None) → cond b (Some x) o ≡ option_or o (cond b (Some x) None)
or_new true o x h = sym (ap (λ p. option_or p (Some x)) (h refl))
or_new false None x h = refl
or_new false (Some y) x h = refl

or_old : {X : Type 0} (b : Bool) (o : Option X) (x : X) → (b ≡ true → is_some o ≡ true) → o ≡ option_or o (cond b (Some x) None)
or_old b (Some y) x h = refl
or_old true None x h = absurd (true≢false (sym (h refl)))
or_old false None x h = refl

module _ {K X : Type 0} {R : K → K → Ordering} (o : IsTotalOrder R) where
  found_alike : (q k : K) (es : List (K × X)) → R q k ≡ Equal → is_some (first_at R q es) ≡ is_some (lookup (is_at (R k)) es)
  found_alike q k [] e = refl
  found_alike q k (x ∷ xs) e =
      ap (λ r. is_some (cond (is_eq r) (Some x) (first_at R q xs))) (o.congr q k x.0 e) ∙ by (is_eq (R k x.0)) (found_alike q k xs e)
    where
      by : (b : Bool) → is_some (first_at R q xs) ≡ is_some (lookup (is_at (R k)) xs)
          → is_some (cond b (Some x) (first_at R q xs)) ≡ is_some (cond b (Some x.1) (lookup (is_at (R k)) xs))
      by true rest = refl
      by false rest = rest

  inserted_at : (q k : K) (v : X) (es : List (K × X)) → is_some (lookup (is_at (R k)) es) ≡ false → first_at R q (insert_entry R es k v) ≡ option_or (first_at R q es) (cond (is_eq (R q k)) (Some (k, v)) None)
  inserted_at q k v [] none = refl
  inserted_at q k v (x ∷ xs) none = by (R k x.0) none (inserted_at q k v xs)
    where
      later : (b : Bool) → first_at R q (insert_entry R xs k v) ≡ option_or (first_at R q xs) (cond (is_eq (R q k)) (Some (k, v)) None)
          → cond b (Some x) (first_at R q (insert_entry R xs k v)) ≡ option_or (cond b (Some x) (first_at R q xs)) (cond (is_eq (R q k)) (Some (k, v)) None)
      later true rest = refl
      later false rest = rest

      by : (r : Ordering) → is_some (cond (is_eq r) (Some x.1) (lookup (is_at (R k)) xs)) ≡ false
          → (is_some (lookup (is_at (R k)) xs) ≡ false → first_at R q (insert_entry R xs k v) ≡ option_or (first_at R q xs) (cond (is_eq (R q k)) (Some (k, v)) None))
          → first_at R q (match_ordering r ((k, v) ∷ x ∷ xs) ((x.0, v) ∷ xs) (x ∷ insert_entry R xs k v)) ≡ option_or (first_at R q (x ∷ xs)) (cond (is_eq (R q k)) (Some (k, v)) None)
      by Less n rest =
          or_new (is_eq (R q k)) (first_at R q (x ∷ xs)) (k, v) (λ e. none_is (first_at R q (x ∷ xs)) (found_alike q k (x ∷ xs) (equal_is (R q k) e) ∙ none))
      by Equal n rest = absurd (true≢false n)
      by Greater n rest = later (is_eq (R q x.0)) (rest n)

  -- an entry that is put in where its key has none is first at its key where none was
  pub put_at : (q k : K) (v : X) (es : List (K × X)) → first_at R q (if is_some (lookup (is_at (R k)) es) then es else insert_entry R es k v) ≡ option_or (first_at R q es) (cond (is_eq (R q k)) (Some (k, v)) None)
  put_at q k v es = by (is_some (lookup (is_at (R k)) es)) refl
    where
      by : (b : Bool) → is_some (lookup (is_at (R k)) es) ≡ b
          → first_at R q (if b then es else insert_entry R es k v) ≡ option_or (first_at R q es) (cond (is_eq (R q k)) (Some (k, v)) None)
      by true is = or_old (is_eq (R q k)) (first_at R q es) (k, v) (λ e. found_alike q k es (equal_is (R q k) e) ∙ is)
      by false is = inserted_at q k v es is

  -- ---- entries whose keys ascend

  none_above : (q : K) (es : List (K × X)) → AllByRecursion (λ y. R q y ≡ Less) (keys_of es) → first_at R q es ≡ None
  none_above q [] all = refl
  none_above q (e ∷ es) all = ap (λ r. cond (is_eq r) (Some e) (first_at R q es)) all.0 ∙ none_above q es all.1

  stands_first : (e : K × X) (es : List (K × X)) → first_at R e.0 (e ∷ es) ≡ Some e
  stands_first e es = ap (λ r. cond (is_eq r) (Some e) (first_at R e.0 es)) (self_equal o e.0)

  -- they are told by what stands first at each key
  pub same_entries : (xs ys : List (K × X)) → IsStrictlySortedBy R (keys_of xs) → IsStrictlySortedBy R (keys_of ys) → ((q : K) → first_at R q xs ≡ first_at R q ys) → xs ≡ ys
  unfolding IsStrictlySortedBy
  same_entries [] [] up_a up_b same = refl
  same_entries [] (b ∷ ys) up_a up_b same = some_none b (first_at R b.0 (b ∷ ys)) (stands_first b ys) (sym (same b.0))
  same_entries (a ∷ xs) [] up_a up_b same = some_none a (first_at R a.0 (a ∷ xs)) (stands_first a xs) (same a.0)
  same_entries (a ∷ xs) (b ∷ ys) up_a up_b same = by (R a.0 b.0) refl (same_entries xs ys up_a.1 up_b.1)
    where
      later : a ≡ b → (q : K) (t : Bool) → is_eq (R q a.0) ≡ t → first_at R q xs ≡ first_at R q ys
      later is q true e =
          none_above q xs (above_alike o q a.0 (keys_of xs) (equal_is (R q a.0) e) up_a.0)
          ∙ sym (none_above q ys (above_alike o q b.0 (keys_of ys) (equal_is (R q b.0) (ap (λ x. is_eq (R q x.0)) (sym is) ∙ e)) up_b.0))
      later is q false e =
          sym (ap (λ t. cond t (Some a) (first_at R q xs)) e) ∙ same q
          ∙ ap (λ t. cond t (Some b) (first_at R q ys)) (ap (λ x. is_eq (R q x.0)) (sym is) ∙ e)

      by : (r : Ordering) → R a.0 b.0 ≡ r → (((q : K) → first_at R q xs ≡ first_at R q ys) → xs ≡ ys) → a ∷ xs ≡ b ∷ ys
      by Less e rest =
          some_none a (first_at R a.0 (a ∷ xs)) (stands_first a xs)
          (same a.0 ∙ none_above a.0 (b ∷ ys) (e, all_above o a.0 a.1 b.0 (keys_of ys) e up_b.0))
      by Equal e rest =
          let is : a ≡ b = some_same a b (first_at R a.0 (a ∷ xs)) (stands_first a xs) (same a.0 ∙ ap (λ r. cond (is_eq r) (Some b) (first_at R a.0 ys)) e) in
          ap (λ l. a ∷ l) (rest (λ q. later is q (is_eq (R q a.0)) refl)) ∙ ap (λ x. x ∷ ys) is
      by Greater e rest =
          let less : R b.0 a.0 ≡ Less = o.antisymm b.0 a.0 ∙ ap ordering_reverse e in
          some_none b (first_at R b.0 (b ∷ ys)) (stands_first b ys)
          (sym (same b.0) ∙ none_above b.0 (a ∷ xs) (less, all_above o b.0 b.1 a.0 (keys_of xs) less up_a.0))

-- ---- a stable sort, and repeats that go

find_passes : {X : Type 0} (p : X → Bool) (xs : List X) (x : X) → find p xs ≡ Some x → p x ≡ true
find_passes p [] x e = cc
find_passes p (y ∷ ys) x e = by (p y) refl e (find_passes p ys x)
  where
    by : (b : Bool) → p y ≡ b → cond b (Some y) (find p ys) ≡ Some x → (find p ys ≡ Some x → p x ≡ true) → p x ≡ true
    by true is e rest = let same : y ≡ x = cc in ap p (sym same) ∙ is
    by false is e rest = rest e

first_of : {X : Type 0} → List X → Option X
first_of [] = None
first_of (x ∷ xs) = Some x

find_filtered : {X : Type 0} (p : X → Bool) (xs : List X) → find p xs ≡ first_of (filter p xs)
unfolding first_of
find_filtered p [] = refl
find_filtered p (x ∷ xs) = by (p x) (find_filtered p xs)
  where
    by : (b : Bool) → find p xs ≡ first_of (filter p xs) → cond b (Some x) (find p xs) ≡ first_of (cond b (x ∷ filter p xs) (filter p xs))
    by true rest = refl
    by false rest = rest

filter_alike : {X : Type 0} (p q : X → Bool) (xs : List X) → ((x : X) → p x ≡ q x) → filter p xs ≡ filter q xs
filter_alike p q [] same = refl
filter_alike p q (x ∷ xs) same =
    ap (λ b. cond b (x ∷ filter p xs) (filter p xs)) (same x) ∙ ap (λ l. cond (q x) (x ∷ l) l) (filter_alike p q xs same)

tied : (r s : Ordering) → s ≡ ordering_reverse r → (not (is_lt r) && not (is_lt s)) ≡ is_eq r
tied Less s e = refl
tied Equal s e = ap (λ x. not (is_lt x)) e
tied Greater s e = ap (λ x. not (is_lt x)) e

module _ {X : Type 0} {R : X → X → Ordering} (o : IsTotalOrder R) (p : X → Bool) where
  -- the test is that of equality with one element, where there is one
  abbrev pub IsOfOne : Type 0
  IsOfOne = (x : X) → p x ≡ true → (y : X) → is_eq (R x y) ≡ p y

  of_both : IsOfOne → (x y : X) → R x y ≡ Equal → p x ≡ p y
  of_both one x y e = by (p x) (p y) refl refl
    where
      by : (a b : Bool) → p x ≡ a → p y ≡ b → p x ≡ p y
      by true b px py = px ∙ sym (ap is_eq e) ∙ one x px y
      by false true px py = sym (one y py x) ∙ ap is_eq (o.antisymm y x ∙ ap ordering_reverse e) ∙ sym py
      by false false px py = px ∙ sym py

  -- a stable sort leaves what stands first
  pub sorted_first : IsOfOne → (xs ys : List X) → IsStable R xs ys → find p ys ≡ find p xs
  sorted_first one xs ys stable = by (find p xs) (find p ys) refl refl
    where
      tie : (x : X) → p x ≡ true → (y : X) → p y ≡ ties (λ a b. is_lt (R a b)) x y
      tie x px y = sym (tied (R x y) (R y x) (o.antisymm y x) ∙ one x px y)

      passing : (x : X) → p x ≡ true → find p ys ≡ find p xs
      passing x px =
          find_filtered p ys ∙ ap first_of (filter_alike p (ties (λ a b. is_lt (R a b)) x) ys (tie x px)) ∙ ap first_of (stable x)
          ∙ sym (ap first_of (filter_alike p (ties (λ a b. is_lt (R a b)) x) xs (tie x px))) ∙ sym (find_filtered p xs)

      by : (a b : Option X) → find p xs ≡ a → find p ys ≡ b → find p ys ≡ find p xs
      by (Some x) b fx fy = passing x (find_passes p xs x fx)
      by None (Some y) fx fy = passing y (find_passes p ys y fy)
      by None None fx fy = fy ∙ sym fx

  kept_first : IsOfOne → (k : X) (xs : List X) → find p (dedup_from (λ x y. is_eq (R x y)) k xs) ≡ find p (k ∷ xs)
  kept_first one k [] = refl
  kept_first one k (x ∷ xs) = by (is_eq (R x k)) refl (kept_first one k xs) (kept_first one x xs)
    where
      twice : (b : Bool) → cond b (Some k) (find p xs) ≡ cond b (Some k) (cond b (Some x) (find p xs))
      twice true = refl
      twice false = refl

      by : (b : Bool) → is_eq (R x k) ≡ b → find p (dedup_from (λ x y. is_eq (R x y)) k xs) ≡ find p (k ∷ xs) → find p (dedup_from (λ x y. is_eq (R x y)) x xs) ≡ find p (x ∷ xs)
          → find p (cond b (dedup_from (λ x y. is_eq (R x y)) k xs) (k ∷ dedup_from (λ x y. is_eq (R x y)) x xs)) ≡ find p (k ∷ x ∷ xs)
      by true e at_k at_x =
          at_k ∙ twice (p k) ∙ ap (λ b. cond (p k) (Some k) (cond b (Some x) (find p xs))) (sym (of_both one x k (equal_is (R x k) e)))
      by false e at_k at_x = ap (λ f. cond (p k) (Some k) f) at_x

  -- and so does the removal of each element that is equal to the one before
  pub dedup_first : IsOfOne → (xs : List X) → find p (dedup (λ x y. is_eq (R x y)) xs) ≡ find p xs
  dedup_first one [] = refl
  dedup_first one (x ∷ xs) = kept_first one x xs
