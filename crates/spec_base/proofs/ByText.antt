-- A map from specifiers, seen as the finite map from their texts.
use Rattle.std.proofs.Common.{◌≡◌, ◌≢◌, ℕ, Bool, true, false, cond, List, [], ◌∷◌, length, None, Some, refl, sym, ap, ◌∙◌, subst, ⊎_elim, arith}
use Rattle.std.proofs.lemmas.Bool.{cases_Bool}
use Rattle.std.proofs.lemmas.List.{length-map}
use Rattle.std.proofs.lemmas.Map.{lookup-remove_entry}
use Rattle.std.proofs.lemmas.Map.Keys.{IsDistinct-from_sorted}
use Rattle.std.specs.declared.cmp.Ordering.{Ordering}
use Rattle.std.specs.declared.cmp.Ordering.TheVariants.{Less, Equal, Greater}
use Rattle.std.specs.Ordering.{is_eq, eq_by_cmp, match_ordering}
use Rattle.std.specs.Cmp.{IsEquivalence, Equal-is, eq_by_cmp_equiv}
use Rattle.std.specs.Cmp.Lexicographic.{nat_list_cmp_total}
use Rattle.std.specs.List.{AllByRecursion}
use Rattle.std.specs.List.Sorted.{IsStrictlySortedBy}
use Rattle.std.specs.Map.{lookup, keys_of, remove_entry}
use Rattle.std.specs.BTreeMap as tree
use Rattle.std.specs.BTreeMap.{BTreeMap, is_at, insert_entry}
use Rattle.std.specs.FinMap as map
use Rattle.std.specs.FinMap.{find, IsAntisymmetric, nat_cmp-IsAntisymmetric, slice_cmp-IsAntisymmetric, from_entries, get-from_entries, get-insert, get-remove, same_map, len-entries, len-empty, entries-insert, put}
use Rattle.std.specs.FinMap.Entries.{by_order, find-put}
use Rattle.url.specs.Parts.{Parts, serialize}
use Rattle.spec_base.specs.Shown.{text_cmp}
use Rattle.spec_base.specs.Specifier.{specifier_cmp, specifier_text, by_text}

exact : IsAntisymmetric text_cmp
exact = slice_cmp-IsAntisymmetric nat_cmp-IsAntisymmetric

find_by_text : {V : Type 0} (q : Parts) (es : List (Parts × V)) → find text_cmp (specifier_text q) (by_text es) ≡ lookup (is_at (specifier_cmp q)) es
unfolding specifier_text
find_by_text q [] = refl
find_by_text q (e ∷ es) = ap (cond (is_eq (specifier_cmp q e.0)) (Some e.1)) (find_by_text q es)

-- a look-up by a specifier
pub get_by_text : {V : Type 0} (m : BTreeMap Parts V) (q : Parts) → tree.get specifier_cmp m q ≡ map.get (from_entries {R = text_cmp} (by_text m.entries)) (specifier_text q)
get_by_text m q = sym (get-from_entries nat_list_cmp_total (by_text m.entries) (specifier_text q) ∙ find_by_text q m.entries)

by_text_choice : {V : Type 0} (o : Ordering) (a b c : List (Parts × V)) → by_text (match_ordering o a b c) ≡ by_order o (by_text a) (by_text b) (by_text c)
by_text_choice Less a b c = refl
by_text_choice Equal a b c = refl
by_text_choice Greater a b c = refl

by_text_insert : {V : Type 0} (es : List (Parts × V)) (k : Parts) (v : V) → by_text (insert_entry specifier_cmp es k v) ≡ put text_cmp (specifier_text k) v (by_text es)
unfolding specifier_text
by_text_insert [] k v = refl
by_text_insert (e ∷ es) k v = by_text_choice (specifier_cmp k e.0) _ _ _ ∙ rw (by_text_insert es k v)

from_entries_put : {V : Type 0} (k : List ℕ) (v : V) (es : List (List ℕ × V)) → from_entries {R = text_cmp} (put text_cmp k v es) ≡ map.insert (from_entries es) k v
from_entries_put k v es =
    let o = nat_list_cmp_total in
    same_map o exact _ _ (λ q. get-from_entries o (put text_cmp k v es) q ∙ find-put text_cmp o q k v es
    ∙ sym (get-insert o (from_entries es) k v q ∙ ap (cond (eq_by_cmp text_cmp q k) _) (get-from_entries o es q)))

-- a value is put at a specifier
pub insert_by_text : {V : Type 0} (es : List (Parts × V)) (k : Parts) (v : V) → from_entries {R = text_cmp} (by_text (insert_entry specifier_cmp es k v)) ≡ map.insert (from_entries (by_text es)) (specifier_text k) v
insert_by_text es k v = ap from_entries (by_text_insert es k v) ∙ from_entries_put (specifier_text k) v (by_text es)

-- ---- a removed entry

same_key : (q : List ℕ) → eq_by_cmp text_cmp q q ≡ true
same_key q = (eq_by_cmp_equiv nat_list_cmp_total).refl q

one_text : (q k : List ℕ) → eq_by_cmp text_cmp q k ≡ true → q ≡ k
one_text q k t = exact q k ((Equal-is (text_cmp q k)).0 t)

specifier_laws : IsEquivalence (eq_by_cmp specifier_cmp)
specifier_laws = let laws = eq_by_cmp_equiv nat_list_cmp_total in record {
  refl = λ x. laws.refl (serialize x);
  symm = λ x y. laws.symm (serialize x) (serialize y);
  congr = λ x y z. laws.congr (serialize x) (serialize y) (serialize z);
}

-- two tests for texts that are the same agree
one_test : (k x y : Parts) → is_at (specifier_cmp k) x ≡ true → is_at (specifier_cmp k) y ≡ eq_by_cmp specifier_cmp x y
unfolding specifier_text
one_test k x y t = ap (λ s. eq_by_cmp text_cmp s (specifier_text y)) (one_text (specifier_text k) (specifier_text x) t)

removed_at : {V : Type 0} (k : Parts) (es : List (Parts × V)) → IsStrictlySortedBy specifier_cmp (keys_of es) → find text_cmp (specifier_text k) (by_text (remove_entry (is_at (specifier_cmp k)) es)) ≡ None
unfolding specifier_text
removed_at k es sorted =
    find_by_text k (remove_entry (is_at (specifier_cmp k)) es)
    ∙ lookup-remove_entry specifier_laws (is_at (specifier_cmp k)) (one_test k) k es (IsDistinct-from_sorted specifier_cmp (keys_of es) sorted)
    ∙ ap (λ b. cond b None (lookup (is_at (specifier_cmp k)) es)) (same_key (specifier_text k))

removed_other : {V : Type 0} (q : List ℕ) (k : Parts) (es : List (Parts × V)) → eq_by_cmp text_cmp q (specifier_text k) ≡ false → find text_cmp q (by_text (remove_entry (is_at (specifier_cmp k)) es)) ≡ find text_cmp q (by_text es)
unfolding specifier_text
removed_other q k [] ne = refl
removed_other q k (e ∷ es) ne = by_test (removed_other q k es ne) (is_at (specifier_cmp k) e.0) refl
  where
    by_test : find text_cmp q (by_text (remove_entry (is_at (specifier_cmp k)) es)) ≡ find text_cmp q (by_text es) → (b : Bool) → is_at (specifier_cmp k) e.0 ≡ b → find text_cmp q (by_text (cond b es (e ∷ remove_entry (is_at (specifier_cmp k)) es))) ≡ cond (is_eq (text_cmp q (specifier_text e.0))) (Some e.1) (find text_cmp q (by_text es))
    by_test rest true t =
        let other : is_eq (text_cmp q (specifier_text e.0)) ≡ false = ap (eq_by_cmp text_cmp q) (sym (one_text (specifier_text k) (specifier_text e.0) t)) ∙ ne in
        sym (ap (λ c. cond c (Some e.1) (find text_cmp q (by_text es))) other)
    by_test rest false f = ap (cond (is_eq (text_cmp q (specifier_text e.0))) (Some e.1)) rest

-- the entry of a specifier is removed
pub remove_by_text : {V : Type 0} (es : List (Parts × V)) (k : Parts) → IsStrictlySortedBy specifier_cmp (keys_of es) → from_entries {R = text_cmp} (by_text (remove_entry (is_at (specifier_cmp k)) es)) ≡ map.remove (from_entries (by_text es)) (specifier_text k)
remove_by_text es k sorted =
    same_map nat_list_cmp_total exact _ _ (λ q. get-from_entries nat_list_cmp_total (by_text (remove_entry (is_at (specifier_cmp k)) es)) q ∙ by_key q (eq_by_cmp text_cmp q (specifier_text k)) refl
    ∙ ap (cond (eq_by_cmp text_cmp q (specifier_text k)) None) (sym (get-from_entries nat_list_cmp_total (by_text es) q)) ∙ sym (get-remove nat_list_cmp_total (from_entries (by_text es)) (specifier_text k) q))
  where
    by_key : (q : List ℕ) (b : Bool) → eq_by_cmp text_cmp q (specifier_text k) ≡ b → find text_cmp q (by_text (remove_entry (is_at (specifier_cmp k)) es)) ≡ cond b None (find text_cmp q (by_text es))
    by_key q true t = ap (λ s. find text_cmp s (by_text (remove_entry (is_at (specifier_cmp k)) es))) (one_text q (specifier_text k) t) ∙ removed_at k es sorted
    by_key q false f = removed_other q k es f

-- ---- the entries in order

put_first : {V : Type 0} (k : List ℕ) (v : V) (e : List ℕ × V) (es : List (List ℕ × V)) → text_cmp k e.0 ≡ Less → put text_cmp k v (e ∷ es) ≡ (k, v) ∷ e ∷ es
put_first k v e es h = ap (λ o. by_order o ((k, v) ∷ e ∷ es) ((e.0, v) ∷ es) (e ∷ put text_cmp k v es)) h

put_below : {V : Type 0} (k : Parts) (v : V) (es : List (Parts × V)) → AllByRecursion (λ y. specifier_cmp k y ≡ Less) (keys_of es) → put text_cmp (specifier_text k) v (by_text es) ≡ (specifier_text k, v) ∷ by_text es
unfolding specifier_text
put_below k v [] h = refl
put_below k v (e ∷ es) h = put_first (specifier_text k) v (specifier_text e.0, e.1) (by_text es) h.0

no_length : {A : Type 0} (es : List A) → length es ≡ 0 → es ≡ []
no_length [] e = refl
no_length (x ∷ es) e = absurd (omega arith)

entries_empty : (V : Type 0) → map.entries (map.empty {X = V} {R = text_cmp}) ≡ []
entries_empty V = no_length _ (sym (len-entries map.empty) ∙ len-empty text_cmp V)

-- the finite map of sorted entries has these entries
pub entries_by_text : {V : Type 0} (es : List (Parts × V)) → IsStrictlySortedBy specifier_cmp (keys_of es) → map.entries (from_entries {R = text_cmp} (by_text es)) ≡ by_text es
unfolding IsStrictlySortedBy
entries_by_text {V = V} [] h = entries_empty V
entries_by_text (e ∷ es) h =
    entries-insert nat_list_cmp_total (from_entries (by_text es)) (specifier_text e.0) e.1
    ∙ ap (put text_cmp (specifier_text e.0) e.1) (entries_by_text es h.1)
    ∙ put_below e.0 e.1 es h.0

-- as many as there are entries
pub len_by_text : {V : Type 0} (es : List (Parts × V)) → IsStrictlySortedBy specifier_cmp (keys_of es) → map.len (from_entries {R = text_cmp} (by_text es)) ≡ length es
len_by_text es h = len-entries {R = text_cmp} (from_entries {R = text_cmp} (by_text es)) ∙ ap length (entries_by_text es h) ∙ length-map es _
