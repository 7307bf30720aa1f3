-- Entries whose keys ascend: what is put in, and what goes last.
use Rattle.std.proofs.Common.{◌≡◌, List, [], ◌∷◌, ◌++◌, false, true≢false, cond, Some, None, Ordering, Less, Equal, Greater, refl, ap, ◌∙◌}
use Rattle.std.specs.BTreeMap.{insert_entry, is_at}
use Rattle.std.specs.Cmp.{IsTotalOrder}
use Rattle.std.specs.List.{AllByRecursion}
use Rattle.std.specs.List.Sorted.{IsStrictlySortedBy}
use Rattle.std.specs.Map.{lookup, keys_of, remove_entry}
use Rattle.std.specs.Ordering.{match_ordering, ordering_reverse, is_eq}
use Rattle.std.specs.Prelude.{is_some}

-- ---- an entry that is put in

module _ {K X : Type 0} {R : K → K → Ordering} (o : IsTotalOrder R) (k : K) (v : X) where
  -- what holds of the entries and of the new one
  pub all_put : (P : K × X → Type 0) (es : List (K × X)) → is_some (lookup (is_at (R k)) es) ≡ false → AllByRecursion P es → P (k, v) → AllByRecursion P (insert_entry R es k v)
  all_put P [] none all here = (here, tt)
  all_put P (e ∷ es) none all here = by (R k e.0) none (λ n. all_put P es n all.1 here)
    where
      by : (r : Ordering) → is_some (cond (is_eq r) (Some e.1) (lookup (is_at (R k)) es)) ≡ false
          → (is_some (lookup (is_at (R k)) es) ≡ false → AllByRecursion P (insert_entry R es k v))
          → AllByRecursion P (match_ordering r ((k, v) ∷ e ∷ es) ((e.0, v) ∷ es) (e ∷ insert_entry R es k v))
      by Less n rest = (here, all)
      by Equal n rest = absurd (true≢false n)
      by Greater n rest = (all.0, rest n)

  -- keys that a key is below
  pub all_above : (x : K) (ks : List K) → R k x ≡ Less → AllByRecursion (λ y. R x y ≡ Less) ks → AllByRecursion (λ y. R k y ≡ Less) ks
  all_above x [] less all = tt
  all_above x (y ∷ ys) less all = (o.trans k x y less all.0, all_above x ys less all.1)

  -- what holds of the keys and of the new one
  pub keys_put : (P : K → Type 0) (es : List (K × X)) → AllByRecursion P (keys_of es) → P k → AllByRecursion P (keys_of (insert_entry R es k v))
  keys_put P [] all here = (here, tt)
  keys_put P (e ∷ es) all here = by (R k e.0) (keys_put P es all.1 here)
    where
      by : (r : Ordering) → AllByRecursion P (keys_of (insert_entry R es k v)) → AllByRecursion P (keys_of (match_ordering r ((k, v) ∷ e ∷ es) ((e.0, v) ∷ es) (e ∷ insert_entry R es k v)))
      by Less rest = (here, all)
      by Equal rest = all
      by Greater rest = (all.0, rest)

  -- ascending keys stay so
  pub sorted_put : (es : List (K × X)) → IsStrictlySortedBy R (keys_of es) → IsStrictlySortedBy R (keys_of (insert_entry R es k v))
  unfolding IsStrictlySortedBy
  sorted_put [] sorted = (tt, tt)
  sorted_put (e ∷ es) sorted = by (R k e.0) refl (sorted_put es sorted.1)
    where
      by : (r : Ordering) → R k e.0 ≡ r → IsStrictlySortedBy R (keys_of (insert_entry R es k v))
          → IsStrictlySortedBy R (keys_of (match_ordering r ((k, v) ∷ e ∷ es) ((e.0, v) ∷ es) (e ∷ insert_entry R es k v)))
      by Less is rest = ((is, all_above e.0 (keys_of es) is sorted.0), sorted)
      by Equal is rest = sorted
      by Greater is rest = (keys_put (λ y. R e.0 y ≡ Less) es sorted.0 (o.antisymm e.0 k ∙ ap ordering_reverse is), rest)

-- ---- an entry that is above the others

module _ {K X : Type 0} {R : K → K → Ordering} (o : IsTotalOrder R) where
  below_middle : (x : K) (done : List (K × X)) (e : K × X) (more : List (K × X)) → AllByRecursion (λ y. R x y ≡ Less) (keys_of (done ++ e ∷ more)) → R x e.0 ≡ Less
  below_middle x [] e more all = all.0
  below_middle x (d ∷ done) e more all = below_middle x done e more all.1

  -- those that stand before an entry are below it
  pub all_below : (done : List (K × X)) (e : K × X) (more : List (K × X)) → IsStrictlySortedBy R (keys_of (done ++ e ∷ more)) → AllByRecursion (λ d. R e.0 d.0 ≡ Greater) done
  unfolding IsStrictlySortedBy
  all_below [] e more sorted = tt
  all_below (d ∷ done) e more sorted =
      (o.antisymm e.0 d.0 ∙ ap ordering_reverse (below_middle d.0 done e more sorted.0), all_below done e more sorted.1)

  -- its key isn't among theirs
  pub none_there : (e : K × X) (done : List (K × X)) → AllByRecursion (λ d. R e.0 d.0 ≡ Greater) done → lookup (is_at (R e.0)) done ≡ None
  none_there e [] all = refl
  none_there e (d ∷ done) all = ap (λ r. cond (is_eq r) (Some d.1) (lookup (is_at (R e.0)) done)) all.0 ∙ none_there e done all.1

  pub none_removed : (e : K × X) (done : List (K × X)) → AllByRecursion (λ d. R e.0 d.0 ≡ Greater) done → remove_entry (is_at (R e.0)) done ≡ done
  none_removed e [] all = refl
  none_removed e (d ∷ done) all =
      ap (λ r. cond (is_eq r) done (d ∷ remove_entry (is_at (R e.0)) done)) all.0 ∙ ap (λ es. d ∷ es) (none_removed e done all.1)

  -- it goes last
  pub put_last : (e : K × X) (done : List (K × X)) → AllByRecursion (λ d. R e.0 d.0 ≡ Greater) done → insert_entry R done e.0 e.1 ≡ done ++ e ∷ []
  put_last e [] all = refl
  put_last e (d ∷ done) all =
      ap (λ r. match_ordering r ((e.0, e.1) ∷ d ∷ done) ((d.0, e.1) ∷ done) (d ∷ insert_entry R done e.0 e.1)) all.0 ∙ ap (λ es. d ∷ es) (put_last e done all.1)
