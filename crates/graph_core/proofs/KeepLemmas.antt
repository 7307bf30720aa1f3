-- What a map has at a text after its entries were filtered by specifier, and after its values were changed.
use Rattle.std.proofs.Common.{◌≡◌, ℕ, true, false, cond, List, [], ◌∷◌, map, Bool, ◌||◌, Option, None, Some, is_some, sym, ap, ◌∙◌, refl}
use Rattle.std.specs.Ordering.{eq_by_cmp}
use Rattle.std.specs.Cmp.{Equal-is}
use Rattle.std.specs.Cmp.Lexicographic.{nat_list_cmp_total}
use Rattle.std.specs.FinMap as finite
use Rattle.std.specs.BTreeSet.{BTreeSet}
use Rattle.std.specs.FinMap.{FinMap, find, get-from_entries, IsAntisymmetric, nat_cmp-IsAntisymmetric, slice_cmp-IsAntisymmetric}
use Rattle.std.specs.Prelude.{filter, option_map}
use Rattle.std.specs.List.{list_any}
use Rattle.url.specs.Parts.{Parts}
use Rattle.spec_base.specs.Shown.{text_cmp}
use Rattle.spec_base.specs.Specifier.{same_specifier, specifier_text, by_text}
use Rattle.specifier_index.specs.SpecifierTable.{IsCovered}
use Rattle.graph_core.specs.Pruned.{has_text_of}

exact : IsAntisymmetric text_cmp
exact = slice_cmp-IsAntisymmetric nat_cmp-IsAntisymmetric

-- texts that compare equal are one text
one_key : (q k : List ℕ) → eq_by_cmp text_cmp q k ≡ true → q ≡ k
one_key q k t = exact q k ((Equal-is (text_cmp q k)).0 t)

-- a specifier is among some exactly where its text is one of theirs
pub seen_text : (s : Parts) (kept : List Parts) → list_any (same_specifier s) kept ≡ has_text_of kept (specifier_text s)
unfolding specifier_text
seen_text s [] = refl
seen_text s (k ∷ ks) = ap (λ b. same_specifier s k || b) (seen_text s ks)

none_either : {V : Type 0} (b : Bool) → ◌≡◌ {A = Option V} None (cond b None None)
none_either true = refl
none_either false = refl

module _ {V : Type 0} where
  -- ---- entries at some specifiers

  -- the test of an entry goes by the text of its specifier
  module _ (p : Parts → Bool) (q : List ℕ → Bool) (by_its_text : (s : Parts) → p s ≡ q (specifier_text s)) where
    abbrev left : List (Parts × V) → List (Parts × V)
    left es = filter (λ e. p e.0) es

    find_left : (es : List (Parts × V)) (t : List ℕ) → find text_cmp t (by_text (left es)) ≡ cond (q t) (find text_cmp t (by_text es)) None
    find_left [] t = none_either (q t)
    find_left (e ∷ es) t = by (p e.0) refl (eq_by_cmp text_cmp t (specifier_text e.0)) refl (find_left es t)
      where
        by : (s : Bool) → p e.0 ≡ s → (b : Bool) → eq_by_cmp text_cmp t (specifier_text e.0) ≡ b
            → find text_cmp t (by_text (left es)) ≡ cond (q t) (find text_cmp t (by_text es)) None
            → find text_cmp t (by_text (cond s (e ∷ left es) (left es))) ≡ cond (q t) (cond b (Some e.1) (find text_cmp t (by_text es))) None
        by true s true b more =
            ap (λ x. cond x (Some e.1) (find text_cmp t (by_text (left es)))) b
            ∙ ap (λ x. cond x (Some e.1) None) (sym (ap q (one_key t (specifier_text e.0) b) ∙ sym (by_its_text e.0) ∙ s))
        by true s false b more = ap (λ x. cond x (Some e.1) (find text_cmp t (by_text (left es)))) b ∙ more
        by false s true b more =
            let no : q t ≡ false = ap q (one_key t (specifier_text e.0) b) ∙ sym (by_its_text e.0) ∙ s in
            more ∙ ap (λ x. cond x (find text_cmp t (by_text es)) None) no ∙ sym (ap (λ x. cond x (Some e.1) None) no)
        by false s false b more = more

    pub get_left : (es : List (Parts × V)) (t : List ℕ) → finite.get (finite.from_entries {R = text_cmp} (by_text (left es))) t ≡ cond (q t) (finite.get (finite.from_entries {R = text_cmp} (by_text es)) t) None
    get_left es t =
        get-from_entries nat_list_cmp_total (by_text (left es)) t ∙ find_left es t
        ∙ ap (λ (o : Option V). cond (q t) o None) (sym (get-from_entries nat_list_cmp_total (by_text es) t))

  -- ---- values that were changed

  module _ (f : V → V) where
    find_changed : (es : List (Parts × V)) (q : List ℕ) → find text_cmp q (by_text (map (λ e. (e.0, f e.1)) es)) ≡ option_map f (find text_cmp q (by_text es))
    find_changed [] q = refl
    find_changed (e ∷ es) q = by (eq_by_cmp text_cmp q (specifier_text e.0)) refl (find_changed es q)
      where
        by : (t : Bool) → eq_by_cmp text_cmp q (specifier_text e.0) ≡ t
            → find text_cmp q (by_text (map (λ e. (e.0, f e.1)) es)) ≡ option_map f (find text_cmp q (by_text es))
            → cond t (Some (f e.1)) (find text_cmp q (by_text (map (λ e. (e.0, f e.1)) es))) ≡ option_map f (cond t (Some e.1) (find text_cmp q (by_text es)))
        by true t more = refl
        by false t more = more

    pub get_changed : (es : List (Parts × V)) (q : List ℕ) → finite.get (finite.from_entries {R = text_cmp} (by_text (map (λ e. (e.0, f e.1)) es))) q ≡ option_map f (finite.get (finite.from_entries {R = text_cmp} (by_text es)) q)
    get_changed es q =
        get-from_entries nat_list_cmp_total (by_text (map (λ e. (e.0, f e.1)) es)) q ∙ find_changed es q
        ∙ ap (option_map f) (sym (get-from_entries nat_list_cmp_total (by_text es) q))

-- what is taken of nothing is nothing
pub changed_left : {V : Type 0} (f : V → V) (b : Bool) (o : Option V) → option_map f (cond b o None) ≡ cond b (option_map f o) None
changed_left f true o = refl
changed_left f false o = refl

-- what is at a text after entries were filtered, and those that are left were changed
pub get_kept : {V : Type 0} (p : Parts → Bool) (q : List ℕ → Bool) → ((s : Parts) → p s ≡ q (specifier_text s)) → (f : V → V) (es fs gs : List (Parts × V))
    → fs ≡ filter (λ e. p e.0) es → gs ≡ map (λ e. (e.0, f e.1)) fs
    → (t : List ℕ) → finite.get (finite.from_entries {R = text_cmp} (by_text gs)) t ≡ cond (q t) (option_map f (finite.get (finite.from_entries {R = text_cmp} (by_text es)) t)) None
get_kept p q by_its_text f es fs gs left changed t =
    ap (λ xs. finite.get (finite.from_entries {R = text_cmp} (by_text xs)) t) changed
    ∙ get_changed f fs t
    ∙ ap (λ xs. option_map f (finite.get (finite.from_entries {R = text_cmp} (by_text xs)) t)) left
    ∙ ap (option_map f) (get_left p q by_its_text es t)
    ∙ changed_left f (q t) (finite.get (finite.from_entries {R = text_cmp} (by_text es)) t)

-- the order covers what is left of values
pub covered_kept : {V : Type 0} (order : BTreeSet Parts) (values new : FinMap text_cmp V) (q : List ℕ → Bool) (f : V → V) → ((t : List ℕ) → finite.get new t ≡ cond (q t) (option_map f (finite.get values t)) None) → IsCovered order values → IsCovered order new
covered_kept {V = V} order values new q f is covers t has = covers t (by (q t) (finite.get values t) (sym (ap is_some (is t)) ∙ has))
  where
    by : (b : Bool) (o : Option V) → is_some (cond b (option_map f o) None) ≡ true → is_some o ≡ true
    by true None e = e
    by true (Some v) e = refl
    by false None e = e
    by false (Some v) e = refl
