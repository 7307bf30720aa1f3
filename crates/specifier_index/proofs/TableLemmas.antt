-- A table's order has each specifier that has a value, so that nothing is left out where they are lent.
use Rattle.std.proofs.Common.{◌≡◌, ℕ, Bool, true, false, true≢false, cond, ◌||◌, ◌&&◌, List, [], ◌∷◌, ◌++◌, T, bytes_eq, Option, None, Some, Result, Ok, Err, OnOk, OnErr, Ordering, Less, Equal, Greater, refl, sym, ap, ◌∙◌, subst, is_some}
use Rattle.std.proofs.lemmas.Map.Text.{is_eq-slice_cmp}
use Rattle.std.proofs.lemmas.Slice.Eq.{bytes_eq-Decides}
use Rattle.std.specs.BTreeMap.{is_at}
use Rattle.std.specs.BTreeSet.{insert_key}
use Rattle.std.specs.Set.{remove_key}
use Rattle.std.specs.Cmp.Lexicographic.{nat_list_cmp_total, slice_cmp}
use Rattle.std.specs.FinMap as finite
use Rattle.std.specs.FinMap.{FinMap, find, is_sorted, entries-from_sorted, get-empty, get-from_sorted, get-insert, get-remove, same_map}
use Rattle.std.specs.List.{AllByRecursion}
use Rattle.std.specs.List.Sorted.{IsStrictlySortedBy}
use Rattle.std.specs.Ordering.{is_eq, is_lt, match_ordering, nat_cmp}
use Rattle.std.specs.Prelude.{filter}
use Rattle.url.specs.Parts.{Parts, serialize}
use Rattle.spec_base.specs.Shown.{text_cmp}
use Rattle.spec_base.specs.Specifier.{by_text, specifier_cmp, specifier_text}
use Rattle.specifier_index.specs.SpecifierTable.{lent, stands_in, with_value}
use Rattle.specifier_index.proofs.HashLemmas.{exact}

-- ---- what stands in the order

or_twice : (a b : Bool) → a || b ≡ a || (a || b)
or_twice true b = refl
or_twice false b = refl

or_swap : (a b c : Bool) → a || (b || c) ≡ b || (a || c)
or_swap true true c = refl
or_swap true false c = refl
or_swap false b c = refl

same_text : (a b : List ℕ) → bytes_eq a b ≡ true → a ≡ b
same_text a b e = (bytes_eq-Decides a b).0 e

equal_text : (a b : Parts) → specifier_cmp a b ≡ Equal → specifier_text a ≡ specifier_text b
unfolding specifier_text
equal_text a b e = same_text (serialize a) (serialize b) (sym (is_eq-slice_cmp (serialize a) (serialize b)) ∙ ap is_eq e)

pub put_stands : (q : List ℕ) (ss : List Parts) (k : Parts) → stands_in (insert_key specifier_cmp ss k) q ≡ bytes_eq q (specifier_text k) || stands_in ss q
put_stands q [] k = refl
put_stands q (x ∷ ss) k = by (put_stands q ss k) (specifier_cmp k x) refl
  where
    by : stands_in (insert_key specifier_cmp ss k) q ≡ bytes_eq q (specifier_text k) || stands_in ss q → (r : Ordering) → specifier_cmp k x ≡ r → stands_in (match_ordering r (k ∷ x ∷ ss) (x ∷ ss) (x ∷ insert_key specifier_cmp ss k)) q ≡ bytes_eq q (specifier_text k) || (bytes_eq q (specifier_text x) || stands_in ss q)
    by rest Less e = refl
    by rest Equal e =
        or_twice (bytes_eq q (specifier_text x)) (stands_in ss q)
        ∙ ap (λ t. bytes_eq q t || (bytes_eq q (specifier_text x) || stands_in ss q)) (sym (equal_text k x e))
    by rest Greater e =
        ap (λ b. bytes_eq q (specifier_text x) || b) rest
        ∙ or_swap (bytes_eq q (specifier_text x)) (bytes_eq q (specifier_text k)) (stands_in ss q)

-- whether a specifier is at this one, by its text
at_text : (k x : Parts) → is_at (specifier_cmp k) x ≡ true → specifier_text k ≡ specifier_text x
unfolding specifier_text
at_text k x e = same_text (serialize k) (serialize x) (sym (is_eq-slice_cmp (serialize k) (serialize x)) ∙ e)

pub cut_stands : (q : List ℕ) (ss : List Parts) (k : Parts) → bytes_eq q (specifier_text k) ≡ false → stands_in ss q ≡ true → stands_in (remove_key (is_at (specifier_cmp k)) ss) q ≡ true
cut_stands q [] k other stands = stands
cut_stands q (x ∷ ss) k other stands = by (cut_stands q ss k other) (is_at (specifier_cmp k) x) refl (bytes_eq q (specifier_text x)) refl
  where
    by : (stands_in ss q ≡ true → stands_in (remove_key (is_at (specifier_cmp k)) ss) q ≡ true) → (a : Bool) → is_at (specifier_cmp k) x ≡ a → (b : Bool) → bytes_eq q (specifier_text x) ≡ b → stands_in (cond a ss (x ∷ remove_key (is_at (specifier_cmp k)) ss)) q ≡ true
    by rest true at b same =
        let lost : bytes_eq q (specifier_text x) ≡ false = ap (bytes_eq q) (sym (at_text k x at)) ∙ other in
        sym (ap (λ c. c || stands_in ss q) lost) ∙ stands
    by rest false at true same = ap (λ c. c || stands_in (remove_key (is_at (specifier_cmp k)) ss) q) same
    by rest false at false same =
        ap (λ c. c || stands_in (remove_key (is_at (specifier_cmp k)) ss) q) same
        ∙ rest (sym (ap (λ c. c || stands_in ss q) same) ∙ stands)

-- a call that puts, or changes nothing
pub by_result : {X E A B C : Type 0} (r : Result X E) → OnOk r A → OnErr r B → (A → C) → (B → C) → C
by_result (Ok x) a b f g = f a
by_result (Err e) a b f g = g b

at_key : (q t : List ℕ) (b : Bool) → bytes_eq q t ≡ b → is_eq (text_cmp q t) ≡ b
at_key q t b e = is_eq-slice_cmp q t ∙ e

and_first : (a b : Bool) → a && b ≡ true → a ≡ true
and_first true b e = refl
and_first false b e = e

and_both : (a b c : Bool) → a ≡ true → b ≡ true → c ≡ true → (a && b) && c ≡ true
and_both a b c x y z = rw (x, y, z) refl

and_second : (a b : Bool) → a && b ≡ true → b ≡ true
and_second true b e = e
and_second false b e = absurd (true≢false (sym e))

-- ---- the order has what has a value

module _ {V : Type 0} where
  abbrev pub Covers : List Parts → FinMap text_cmp V → Type 0
  Covers ss values = (q : List ℕ) → finite.contains_key values q ≡ true → stands_in ss q ≡ true

  pub none_covered : (ss : List Parts) (values : FinMap text_cmp V) → values ≡ finite.empty → Covers ss values
  none_covered ss values none q has = absurd (true≢false (sym has ∙ ap (λ m. finite.contains_key m q) none ∙ ap is_some (get-empty text_cmp q)))

  put_found : (values : FinMap text_cmp V) (t : List ℕ) (v : V) (q : List ℕ) → bytes_eq q t ≡ false → finite.contains_key (finite.insert values t v) q ≡ finite.contains_key values q
  put_found values t v q other =
      ap is_some (get-insert nat_list_cmp_total values t v q ∙ ap (λ b. cond b (Some v) (finite.get values q)) (is_eq-slice_cmp q t ∙ other))

  -- a specifier that has no value yet goes to the order
  pub covered_put : (old new : List Parts) (values : FinMap text_cmp V) (k : Parts) (v : V) → new ≡ insert_key specifier_cmp old k → Covers old values → Covers new (finite.insert values (specifier_text k) v)
  covered_put old new values k v is covers q has = ap (λ ss. stands_in ss q) is ∙ put_stands q old k ∙ by (bytes_eq q (specifier_text k)) refl
    where
      by : (b : Bool) → bytes_eq q (specifier_text k) ≡ b → b || stands_in old q ≡ true
      by true same = refl
      by false other = covers q (sym (put_found values (specifier_text k) v q other) ∙ has)

  -- no text is lost by that
  pub covered_more : (old new : List Parts) (values : FinMap text_cmp V) (k : Parts) → new ≡ insert_key specifier_cmp old k → Covers old values → Covers new values
  covered_more old new values k is covers q has =
      ap (λ ss. stands_in ss q) is ∙ put_stands q old k ∙ ap (λ b. bytes_eq q (specifier_text k) || b) (covers q has) ∙ or_true (bytes_eq q (specifier_text k))
    where
      or_true : (b : Bool) → b || true ≡ true
      or_true true = refl
      or_true false = refl

  -- and one that has a value stands there
  pub covered_kept : (ss : List Parts) (values : FinMap text_cmp V) (k : Parts) (v : V) → finite.contains_key values (specifier_text k) ≡ true → Covers ss values → Covers ss (finite.insert values (specifier_text k) v)
  covered_kept ss values k v stood covers q has = by (bytes_eq q (specifier_text k)) refl
    where
      by : (b : Bool) → bytes_eq q (specifier_text k) ≡ b → stands_in ss q ≡ true
      by true same = covers q (ap (finite.contains_key values) (same_text q (specifier_text k) same) ∙ stood)
      by false other = covers q (sym (put_found values (specifier_text k) v q other) ∙ has)

  pub covered_cut : (old new : List Parts) (values : FinMap text_cmp V) (k : Parts) → new ≡ remove_key (is_at (specifier_cmp k)) old → Covers old values → Covers new (finite.remove values (specifier_text k))
  covered_cut old new values k is covers q has = ap (λ ss. stands_in ss q) is ∙ by (bytes_eq q (specifier_text k)) refl
    where
      found : (b : Bool) → bytes_eq q (specifier_text k) ≡ b → finite.contains_key (finite.remove values (specifier_text k)) q ≡ is_some (cond b None (finite.get values q))
      found b is_b = ap is_some (get-remove nat_list_cmp_total values (specifier_text k) q ∙ ap (λ c. cond c None (finite.get values q)) (is_eq-slice_cmp q (specifier_text k) ∙ is_b))

      by : (b : Bool) → bytes_eq q (specifier_text k) ≡ b → stands_in (remove_key (is_at (specifier_cmp k)) old) q ≡ true
      by true same = absurd (true≢false (sym has ∙ found true same))
      by false other = cut_stands q old k other (covers q (sym (found false other) ∙ has))

  -- those that have a value are enough
  pub covered_left : (old new : List Parts) (values : FinMap text_cmp V) → new ≡ filter (λ s. finite.contains_key values (specifier_text s)) old → Covers old values → Covers new values
  covered_left old new values is covers q has = ap (λ ss. stands_in ss q) is ∙ left old (covers q has)
    where
      has_value : Parts → Bool
      has_value s = finite.contains_key values (specifier_text s)

      left : (ss : List Parts) → stands_in ss q ≡ true → stands_in (filter has_value ss) q ≡ true
      left [] stands = stands
      left (s ∷ ss) stands = by (left ss) (has_value s) refl (bytes_eq q (specifier_text s)) refl
        where
          by : (stands_in ss q ≡ true → stands_in (filter has_value ss) q ≡ true) → (h : Bool) → has_value s ≡ h → (b : Bool) → bytes_eq q (specifier_text s) ≡ b → stands_in (cond h (s ∷ filter has_value ss) (filter has_value ss)) q ≡ true
          by rest true h true same = ap (λ c. c || stands_in (filter has_value ss) q) same
          by rest true h false other =
              ap (λ c. c || stands_in (filter has_value ss) q) other ∙ rest (sym (ap (λ c. c || stands_in ss q) other) ∙ stands)
          by rest false h false other = rest (sym (ap (λ c. c || stands_in ss q) other) ∙ stands)
          by rest false none true same =
              absurd (true≢false (sym has ∙ ap (finite.contains_key values) (same_text q (specifier_text s) same) ∙ none))

  -- ---- what is lent

  found_lent : (values : FinMap text_cmp V) (ss : List Parts) (q : List ℕ) → find text_cmp q (by_text (lent values ss)) ≡ cond (stands_in ss q) (finite.get values q) None
  found_lent values [] q = refl
  found_lent values (s ∷ ss) q = by (found_lent values ss q) (finite.get values (specifier_text s)) refl (bytes_eq q (specifier_text s)) refl
    where
      nothing : (b : Bool) (o : Option V) → o ≡ None → cond b o None ≡ o
      nothing true o none = refl
      nothing false o none = sym none

      by : find text_cmp q (by_text (lent values ss)) ≡ cond (stands_in ss q) (finite.get values q) None → (o : Option V) → finite.get values (specifier_text s) ≡ o → (b : Bool) → bytes_eq q (specifier_text s) ≡ b → find text_cmp q (by_text (with_value s o ++ lent values ss)) ≡ cond (bytes_eq q (specifier_text s) || stands_in ss q) (finite.get values q) None
      by rest None at true same =
          let none : finite.get values q ≡ None = ap (finite.get values) (same_text q (specifier_text s) same) ∙ at in
          rest ∙ nothing (stands_in ss q) (finite.get values q) none
          ∙ sym (ap (λ c. cond (c || stands_in ss q) (finite.get values q) None) same)
      by rest None at false other = rest ∙ sym (ap (λ c. cond (c || stands_in ss q) (finite.get values q) None) other)
      by rest (Some v) at true same =
          ap (λ c. cond c (Some v) (find text_cmp q (by_text (lent values ss)))) (at_key q (specifier_text s) true same)
          ∙ sym (ap (finite.get values) (same_text q (specifier_text s) same) ∙ at)
          ∙ sym (ap (λ c. cond (c || stands_in ss q) (finite.get values q) None) same)
      by rest (Some v) at false other =
          ap (λ c. cond c (Some v) (find text_cmp q (by_text (lent values ss)))) (at_key q (specifier_text s) false other)
          ∙ rest ∙ sym (ap (λ c. cond (c || stands_in ss q) (finite.get values q) None) other)

  sorted_behind : (values : FinMap text_cmp V) (x : List ℕ) (v : V) (ss : List Parts) → AllByRecursion (λ s. slice_cmp nat_cmp x (serialize s) ≡ Less) ss → is_sorted text_cmp (by_text (lent values ss)) ≡ true → is_sorted text_cmp ((x, v) ∷ by_text (lent values ss)) ≡ true
  unfolding specifier_text
  sorted_behind values x v [] all up = refl
  sorted_behind values x v (s ∷ ss) all up = by (sorted_behind values x v ss all.1) (finite.get values (serialize s)) up
    where
      by : (is_sorted text_cmp (by_text (lent values ss)) ≡ true → is_sorted text_cmp ((x, v) ∷ by_text (lent values ss)) ≡ true) → (o : Option V) → is_sorted text_cmp (by_text (with_value s o ++ lent values ss)) ≡ true → is_sorted text_cmp ((x, v) ∷ by_text (with_value s o ++ lent values ss)) ≡ true
      by behind None h = behind h
      by behind (Some w) h =
          let rest : is_sorted text_cmp (by_text (lent values ss)) ≡ true = and_second _ _ h in
          and_both _ _ _ (ap is_lt all.0) (and_first _ _ (behind rest)) h

  sorted_lent : (values : FinMap text_cmp V) (ss : List Parts) → IsStrictlySortedBy specifier_cmp ss → is_sorted text_cmp (by_text (lent values ss)) ≡ true
  unfolding IsStrictlySortedBy specifier_text
  sorted_lent values [] up = refl
  sorted_lent values (s ∷ ss) up = by (sorted_lent values ss up.1) (finite.get values (serialize s))
    where
      by : is_sorted text_cmp (by_text (lent values ss)) ≡ true → (o : Option V) → is_sorted text_cmp (by_text (with_value s o ++ lent values ss)) ≡ true
      by rest None = rest
      by rest (Some v) = sorted_behind values (serialize s) v ss up.0 rest

  -- all values, in order
  pub all_lent : (values : FinMap text_cmp V) (ss : List Parts) → IsStrictlySortedBy specifier_cmp ss → Covers ss values → by_text (lent values ss) ≡ finite.entries values
  all_lent values ss up covers =
      let sorted : T (is_sorted text_cmp (by_text (lent values ss))) = subst T (sym (sorted_lent values ss up)) tt in
      sym (entries-from_sorted text_cmp (by_text (lent values ss)) sorted)
      ∙ ap finite.entries (same_map nat_list_cmp_total exact (finite.from_sorted (by_text (lent values ss))) values (λ q.
      get-from_sorted text_cmp (by_text (lent values ss)) q sorted ∙ found_lent values ss q ∙ by q (stands_in ss q) refl (finite.get values q) refl))
    where
      by : (q : List ℕ) (b : Bool) → stands_in ss q ≡ b → (o : Option V) → finite.get values q ≡ o → cond b (finite.get values q) None ≡ finite.get values q
      by q true stands o is = refl
      by q false stands None is = sym is
      by q false stands (Some v) is = absurd (true≢false (sym (covers q (ap is_some is)) ∙ stands))
