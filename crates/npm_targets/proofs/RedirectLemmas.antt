-- Entries that are filtered by their values, by the texts of their specifiers.
use Rattle.std.proofs.Common.{◌≡◌, Bool, true, false, cond, List, [], ◌∷◌, refl, sym, ap, ◌∙◌, filter, subst}
use Rattle.std.specs.Prelude.{T, ◌&&◌, option_and_then}
use Rattle.std.specs.declared.cmp.Ordering.TheVariants.{Less}
use Rattle.std.specs.Ordering.{is_lt}
use Rattle.std.specs.Cmp.Lexicographic.{nat_list_cmp_total}
use Rattle.std.specs.FinMap as finite
use Rattle.std.specs.FinMap.{is_sorted, get-from_entries, same_map}
use Rattle.std.specs.FinMap.Entries.{below_all}
use Rattle.std.specs.List.{AllByRecursion}
use Rattle.std.specs.List.Sorted.{IsStrictlySortedBy}
use Rattle.std.specs.Map.{keys_of}
use Rattle.url.specs.Parts.{Parts}
use Rattle.spec_base.specs.Shown.{text_cmp}
use Rattle.spec_base.specs.Specifier.{by_text, specifier_cmp, specifier_text}
use Rattle.graph_core.proofs.LeftLemmas.{exact, filter_is_left, find_left, get_passing, if_passes}

both : (a b : Bool) → T a → T b → T (a && b)
both true b p q = q
both false b p q = p

below_by_text : {V : Type 0} (k : Parts) (es : List (Parts × V)) → AllByRecursion (λ y. specifier_cmp k y ≡ Less) (keys_of es) → T (below_all text_cmp (specifier_text k) (by_text es))
unfolding specifier_text
below_by_text k [] h = tt
below_by_text k (e ∷ es) h = both _ _ (subst (λ o. T (is_lt o)) (sym h.0) tt) (below_by_text k es h.1)

-- entries in the order of their specifiers are in that of their texts
sorted_by_text : {V : Type 0} (es : List (Parts × V)) → IsStrictlySortedBy specifier_cmp (keys_of es) → T (is_sorted text_cmp (by_text es))
unfolding IsStrictlySortedBy
sorted_by_text [] h = tt
sorted_by_text (e ∷ es) h = both _ _ (below_by_text e.0 es h.0) (sorted_by_text es h.1)

module _ {V : Type 0} (p : V → Bool) where
  filter_by_text : (es : List (Parts × V)) → by_text (filter (λ e. p e.1) es) ≡ filter (λ e. p e.1) (by_text es)
  filter_by_text [] = refl
  filter_by_text (e ∷ es) = by (p e.1) (filter_by_text es)
    where
      by : (b : Bool) → by_text (filter (λ x. p x.1) es) ≡ filter (λ x. p x.1) (by_text es)
          → by_text (cond b (e ∷ filter (λ x. p x.1) es) (filter (λ x. p x.1) es)) ≡ cond b ((specifier_text e.0, e.1) ∷ filter (λ x. p x.1) (by_text es)) (filter (λ x. p x.1) (by_text es))
      by true more = ap (λ r. (specifier_text e.0, e.1) ∷ r) more
      by false more = more

  -- the map of the entries that are left is what is left of the map
  pub filtered_map : (es : List (Parts × V)) (m : finite.FinMap text_cmp V) → IsStrictlySortedBy specifier_cmp (keys_of es) → finite.from_entries {R = text_cmp} (by_text es) ≡ m
      → finite.from_entries {R = text_cmp} (by_text (filter (λ e. p e.1) es)) ≡ finite.from_entries {R = text_cmp} (filter (λ e. p e.1) (finite.entries m))
  filtered_map es m ordered is = same_map nat_list_cmp_total exact _ _ (λ q.
      get-from_entries nat_list_cmp_total (by_text (filter (λ e. p e.1) es)) q
      ∙ ap (finite.find text_cmp q) (filter_by_text es ∙ filter_is_left p (by_text es))
      ∙ find_left (if_passes p) (by_text es) (sorted_by_text es ordered) q
      ∙ ap (option_and_then (if_passes p)) (sym (get-from_entries nat_list_cmp_total (by_text es) q) ∙ ap (λ n. finite.get n q) is)
      ∙ sym (get_passing p m q))
