-- What a map from texts has at a text after each value was changed or left out.
use Rattle.std.proofs.Common.{◌≡◌, ℕ, true, false, cond, Bool, ◌&&◌, List, [], ◌∷◌, ◌++◌, Option, None, Some, refl, sym, ap, ◌∙◌, filter}
use Rattle.std.specs.Prelude.{T, flat_map, option_and_then}
use Rattle.std.specs.Ordering.{eq_by_cmp, is_eq, is_lt}
use Rattle.std.specs.declared.cmp.Ordering.{Ordering}
use Rattle.std.specs.declared.cmp.Ordering.TheVariants.{Less, Equal, Greater}
use Rattle.std.specs.Cmp.{Equal-is}
use Rattle.std.specs.Cmp.Lexicographic.{nat_list_cmp_total}
use Rattle.std.specs.FinMap as finite
use Rattle.std.specs.FinMap.{find, is_sorted, entries_sorted, get-entries, get-from_entries, IsAntisymmetric, nat_cmp-IsAntisymmetric, slice_cmp-IsAntisymmetric}
use Rattle.std.specs.FinMap.Entries.{below_all}
use Rattle.spec_base.specs.Options.{by_option}
use Rattle.spec_base.specs.Shown.{text_cmp}

pub exact : IsAntisymmetric text_cmp
exact = slice_cmp-IsAntisymmetric nat_cmp-IsAntisymmetric

-- texts that compare equal are one text
pub one_key : (q k : List ℕ) → eq_by_cmp text_cmp q k ≡ true → q ≡ k
one_key q k t = exact q k ((Equal-is (text_cmp q k)).0 t)

first : (a b : Bool) → T (a && b) → T a
first true b p = tt
first false b p = p

second : (a b : Bool) → T (a && b) → T b
second true b p = p
second false b p = absurd p

less_apart : (o : Ordering) → T (is_lt o) → is_eq o ≡ false
less_apart Less p = refl
less_apart Equal p = absurd p
less_apart Greater p = absurd p

-- a text below each key is none of them
pub none_below : {V : Type 0} (q : List ℕ) (es : List (List ℕ × V)) → T (below_all text_cmp q es) → find text_cmp q es ≡ None
none_below q [] h = refl
none_below q (e ∷ es) h =
    ap (λ b. cond b (Some e.1) (find text_cmp q es)) (less_apart (text_cmp q e.0) (first _ _ h)) ∙ none_below q es (second _ _ h)

pub sorted_first : {V : Type 0} (e : List ℕ × V) (es : List (List ℕ × V)) → T (is_sorted text_cmp (e ∷ es)) → find text_cmp e.0 es ≡ None
sorted_first e es h = none_below e.0 es (first _ _ h)

pub sorted_rest : {V : Type 0} (e : List ℕ × V) (es : List (List ℕ × V)) → T (is_sorted text_cmp (e ∷ es)) → T (is_sorted text_cmp es)
sorted_rest e es h = second _ _ h

module _ {V W : Type 0} (f : V → Option W) where
  -- an entry with what its value becomes, if anything
  abbrev pub left_of : List ℕ × V → List (List ℕ × W)
  left_of e = by_option (f e.1) [] (λ w. (e.0, w) ∷ [])

  abbrev pub all_left : List (List ℕ × V) → List (List ℕ × W)
  all_left es = flat_map left_of es

  pub find_left : (es : List (List ℕ × V)) → T (is_sorted text_cmp es) → (q : List ℕ) → find text_cmp q (all_left es) ≡ option_and_then f (find text_cmp q es)
  find_left [] h q = refl
  find_left (e ∷ es) h q = by (f e.1) refl (eq_by_cmp text_cmp q e.0) refl (find_left es (sorted_rest e es h) q)
    where
      by : (o : Option W) → f e.1 ≡ o → (b : Bool) → eq_by_cmp text_cmp q e.0 ≡ b
          → find text_cmp q (all_left es) ≡ option_and_then f (find text_cmp q es)
          → find text_cmp q (by_option o [] (λ w. (e.0, w) ∷ []) ++ all_left es) ≡ option_and_then f (cond b (Some e.1) (find text_cmp q es))
      by None is true t more =
          let none : find text_cmp q es ≡ None = ap (λ k. find text_cmp k es) (one_key q e.0 t) ∙ sorted_first e es h in
          more ∙ ap (option_and_then f) none ∙ sym is
      by None is false t more = more
      by (Some w) is true t more = ap (λ b. cond b (Some w) (find text_cmp q (all_left es))) t ∙ sym is
      by (Some w) is false t more = ap (λ b. cond b (Some w) (find text_cmp q (all_left es))) t ∙ more

  -- at a text stands what the value there becomes
  pub get_left : (m : finite.FinMap text_cmp V) (q : List ℕ) → finite.get (finite.from_entries {R = text_cmp} (all_left (finite.entries m))) q ≡ option_and_then f (finite.get m q)
  get_left m q =
      get-from_entries nat_list_cmp_total (all_left (finite.entries m)) q
      ∙ find_left (finite.entries m) (entries_sorted m) q
      ∙ ap (option_and_then f) (sym (get-entries m q))

-- a value that passes a test
abbrev pub if_passes : {V : Type 0} → (V → Bool) → V → Option V
if_passes p v = cond (p v) (Some v) None

pub filter_is_left : {V : Type 0} (p : V → Bool) (es : List (List ℕ × V)) → filter (λ e. p e.1) es ≡ all_left (if_passes p) es
filter_is_left p [] = refl
filter_is_left p (e ∷ es) = by (p e.1) (filter_is_left p es)
  where
    by : (b : Bool) → filter (λ x. p x.1) es ≡ all_left (if_passes p) es
        → cond b (e ∷ filter (λ x. p x.1) es) (filter (λ x. p x.1) es) ≡ by_option (cond b (Some e.1) None) [] (λ w. (e.0, w) ∷ []) ++ all_left (if_passes p) es
    by true more = ap (λ r. e ∷ r) more
    by false more = more

-- what is left of a map by a test of its values
pub get_passing : {V : Type 0} (p : V → Bool) (m : finite.FinMap text_cmp V) (q : List ℕ) → finite.get (finite.from_entries {R = text_cmp} (filter (λ e. p e.1) (finite.entries m))) q ≡ option_and_then (if_passes p) (finite.get m q)
get_passing p m q =
    ap (λ es. finite.get (finite.from_entries {R = text_cmp} es) q) (filter_is_left p (finite.entries m)) ∙ get_left (if_passes p) m q
