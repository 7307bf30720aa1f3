-- A sorted map, seen as the finite map of its entries.
use Rattle.std.proofs.Common.{◌≡◌, arith, Bool, true, false, cond, List, [], ◌∷◌, length, Some, is_some, refl, sym, ap, ◌∙◌}
use Rattle.std.specs.declared.cmp.Ordering.{Ordering}
use Rattle.std.specs.declared.cmp.Ordering.TheVariants.{Less, Equal, Greater}
use Rattle.std.specs.Ordering.{is_eq, eq_by_cmp, match_ordering}
use Rattle.std.specs.Cmp.{IsTotalOrder}
use Rattle.std.specs.List.{AllByRecursion}
use Rattle.std.specs.List.Sorted.{IsStrictlySortedBy}
use Rattle.std.specs.Map.{lookup, keys_of}
use Rattle.std.specs.BTreeMap as tree
use Rattle.std.specs.BTreeMap.{BTreeMap, is_at, insert_entry}
use Rattle.std.specs.FinMap as map
use Rattle.std.proofs.lemmas.Bool.{cond-true, cond-false}
use Rattle.std.specs.FinMap.{FinMap, nat_cmp-IsAntisymmetric, slice_cmp-IsAntisymmetric, find, put, IsAntisymmetric, from_entries, get-from_entries, get-insert, same_map, len-entries, len-empty, entries-insert}
use Rattle.std.specs.FinMap.Entries.{by_order, find-put}
use Rattle.spec_base.specs.Shown.{text_cmp}
use Rattle.metadata_store.specs.Store.{with_answer}

by_choice : {A : Type 0} (o : Ordering) (a b c : A) → match_ordering o a b c ≡ by_order o a b c
by_choice Less a b c = refl
by_choice Equal a b c = refl
by_choice Greater a b c = refl

module _ {K V : Type 0} (R : K → K → Ordering) where
  find_is : (q : K) (es : List (K × V)) → find R q es ≡ lookup (is_at (R q)) es
  find_is q [] = refl
  find_is q (e ∷ es) = ap (cond (is_eq (R q e.0)) (Some e.1)) (find_is q es)

  put_is : (es : List (K × V)) (k : K) (v : V) → insert_entry R es k v ≡ put R k v es
  put_is [] k v = refl
  put_is (e ∷ es) k v = by_choice (R k e.0) _ _ _ ∙ ap (λ rest. by_order (R k e.0) ((k, v) ∷ e ∷ es) ((e.0, v) ∷ es) (e ∷ rest)) (put_is es k v)

  put_first : (k : K) (v : V) (e : K × V) (es : List (K × V)) → R k e.0 ≡ Less → put R k v (e ∷ es) ≡ (k, v) ∷ e ∷ es
  put_first k v e es h = ap (λ o. by_order o ((k, v) ∷ e ∷ es) ((e.0, v) ∷ es) (e ∷ put R k v es)) h

  put_below : (k : K) (v : V) (es : List (K × V)) → AllByRecursion (λ y. R k y ≡ Less) (keys_of es) → put R k v es ≡ (k, v) ∷ es
  put_below k v [] h = refl
  put_below k v (e ∷ es) h = put_first k v e es h.0

no_length : {A : Type 0} (es : List A) → length es ≡ 0 → es ≡ []
no_length [] e = refl
no_length (x ∷ es) e = absurd (omega arith)

module _ {K V : Type 0} {R : K → K → Ordering} (total : IsTotalOrder R) where
  -- a look-up
  pub get_is : (m : BTreeMap K V) (q : K) → tree.get R m q ≡ map.get (from_entries {R = R} m.entries) q
  get_is m q = sym (get-from_entries total m.entries q ∙ find_is R q m.entries)

  -- an entry is put in
  pub insert_is : IsAntisymmetric R → (es : List (K × V)) (k : K) (v : V) → from_entries {R = R} (insert_entry R es k v) ≡ map.insert (from_entries es) k v
  insert_is exact es k v =
      ap from_entries (put_is R es k v)
      ∙ same_map total exact _ _ (λ q. get-from_entries total (put R k v es) q ∙ find-put R total q k v es
      ∙ sym (get-insert total (from_entries es) k v q ∙ ap (cond (eq_by_cmp R q k) (Some v)) (get-from_entries total es q)))

  -- the finite map of sorted entries has these entries
  pub entries_are : (es : List (K × V)) → IsStrictlySortedBy R (keys_of es) → map.entries (from_entries {R = R} es) ≡ es
  unfolding IsStrictlySortedBy
  entries_are [] h = no_length _ (sym (len-entries map.empty) ∙ len-empty R V)
  entries_are (e ∷ es) h = entries-insert total (from_entries es) e.0 e.1 ∙ ap (put R e.0 e.1) (entries_are es h.1) ∙ put_below R e.0 e.1 es h.0

  -- as many as there are entries
  pub len_is : (es : List (K × V)) → IsStrictlySortedBy R (keys_of es) → map.len (from_entries {R = R} es) ≡ length es
  len_is es h = len-entries {R = R} (from_entries {R = R} es) ∙ ap length (entries_are es h)

  -- an answer that stands is kept
  pub stands : (m : FinMap R V) (k : K) (v : V) → map.contains_key m k ≡ true → m ≡ with_answer m k v
  stands m k v has = sym (cond-true _ _ _ has)

  -- an answer is put where none stands
  pub put_new : IsAntisymmetric R → (es fs : List (K × V)) (k : K) (v : V) → fs ≡ insert_entry R es k v → map.contains_key (from_entries {R = R} es) k ≡ false → from_entries {R = R} fs ≡ with_answer (from_entries es) k v
  put_new exact es fs k v is absent = ap from_entries is ∙ insert_is exact es k v ∙ sym (cond-false _ _ _ absent)

  -- whether a key stands
  pub has_is : (m : BTreeMap K V) (q : K) (b : Bool) → b ≡ is_some (tree.get R m q) → map.contains_key (from_entries {R = R} m.entries) q ≡ b
  has_is m q b e = ap is_some (sym (get_is m q)) ∙ sym e

-- texts and versions of packages tie only of equal ones
pub text_exact : IsAntisymmetric text_cmp
text_exact = slice_cmp-IsAntisymmetric nat_cmp-IsAntisymmetric
