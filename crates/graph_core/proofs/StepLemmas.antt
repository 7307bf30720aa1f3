-- A map from texts that is changed at some of its texts, one after another.
use Rattle.std.proofs.Common.{◌≡◌, ◌≢◌, ℕ, true, false, cond, Bool, ◌||◌, List, [], ◌∷◌, ◌++◌, Option, None, Some, refl, sym, ap, ◌∙◌, subst, filter, length, map, bytes_eq}
use Rattle.std.specs.Prelude.{T, flat_map, is_some}
use Rattle.std.specs.Ordering.{eq_by_cmp}
use Rattle.std.proofs.lemmas.Map.Text.{is_eq-slice_cmp}
use Rattle.std.proofs.lemmas.Slice.Eq.{bytes_eq-Decides}
use Rattle.std.specs.Cmp.Lexicographic.{nat_list_eq_equiv}
use Rattle.std.specs.FinMap as finite
use Rattle.std.specs.FinMap.{find, is_sorted, entries_sorted, get-entries}
use Rattle.spec_base.specs.Options.{by_option, has_text}
use Rattle.spec_base.specs.Shown.{text_cmp}
use Rattle.graph_core.proofs.LeftLemmas.{one_key, sorted_first, sorted_rest}

own_text : (q : List ℕ) → bytes_eq q q ≡ true
own_text q = nat_list_eq_equiv.refl q

same_text : (k q : List ℕ) → bytes_eq k q ≡ true → k ≡ q
same_text k q e = (bytes_eq-Decides k q).0 e

-- ---- what is done at each text

-- those that are left are as they were, and each other one is as it is to be
pub record IsWalked {V : Type 0} (P : Option V → Option V → Type 0) (left : List (List ℕ)) (m now : finite.FinMap text_cmp V) : Type 0 where
  pub kept : (q : List ℕ) → has_text left q ≡ true → finite.get now q ≡ finite.get m q
  pub done : (q : List ℕ) → has_text left q ≡ false → P (finite.get m q) (finite.get now q)

module _ {V : Type 0} (P : Option V → Option V → Type 0) (t : List ℕ) (left : List (List ℕ)) (m now next : finite.FinMap text_cmp V) where
  -- the first of those that are left
  pub kept_first : IsWalked P (t ∷ left) m now → finite.get now t ≡ finite.get m t
  kept_first h = h.kept t (ap (λ b. b || has_text left t) (own_text t))

  -- one more is done
  pub walked_next : has_text left t ≡ false → IsWalked P (t ∷ left) m now → ((q : List ℕ) → q ≢ t → finite.get next q ≡ finite.get now q) → P (finite.get now t) (finite.get next t) → IsWalked P left m next
  walked_next apart h others here = record { kept = kept; done = done }
    where
      kept : (q : List ℕ) → has_text left q ≡ true → finite.get next q ≡ finite.get m q
      kept q in_left = by (bytes_eq t q) refl
        where
          by : (b : Bool) → bytes_eq t q ≡ b → finite.get next q ≡ finite.get m q
          by true e = let at : has_text left t ≡ true = subst (λ x. has_text left x ≡ true) (sym (same_text t q e)) in_left in cc
          by false e =
              others q (λ is. let own = own_text q in let f : bytes_eq q q ≡ false = subst (λ x. bytes_eq x q ≡ false) (sym is) e in cc)
              ∙ h.kept q (ap (λ b. b || has_text left q) e ∙ in_left)

      done : (q : List ℕ) → has_text left q ≡ false → P (finite.get m q) (finite.get next q)
      done q out = by (bytes_eq t q) refl
        where
          by : (b : Bool) → bytes_eq t q ≡ b → P (finite.get m q) (finite.get next q)
          by true e =
              subst (λ x. P (finite.get m x) (finite.get next x)) (same_text t q e)
              (subst (λ o. P o (finite.get next t)) (kept_first h) here)
          by false e =
              subst (λ o. P (finite.get m q) o)
              (sym (others q (λ is. let own = own_text q in let f : bytes_eq q q ≡ false = subst (λ x. bytes_eq x q ≡ false) (sym is) e in cc)))
              (h.done q (ap (λ b. b || has_text left q) e ∙ out))

pub walked_all : {V : Type 0} (P : Option V → Option V → Type 0) (m now : finite.FinMap text_cmp V) → IsWalked P [] m now → (q : List ℕ) → P (finite.get m q) (finite.get now q)
walked_all P m now h q = h.done q refl

-- each text stands once
abbrev pub AreApart : List (List ℕ) → Type 0
AreApart [] = Unit {0}
AreApart (t ∷ ts) = (has_text ts t ≡ false) × AreApart ts

-- what the values at some texts tell
abbrev pub told_at : {V L : Type 0} → (V → List L) → finite.FinMap text_cmp V → List (List ℕ) → List L
told_at tell m ts = flat_map (λ t. by_option (finite.get m t) [] tell) ts

-- ---- the texts of values that pass a test

module _ {V : Type 0} (p : V → Bool) where
  abbrev pub passing : List (List ℕ × V) → List (List ℕ)
  passing es = map (λ e. e.0) (filter (λ e. p e.1) es)

  -- at no other text does a value pass
  pub not_passing : (es : List (List ℕ × V)) (q : List ℕ) → has_text (passing es) q ≡ false → (v : V) → find text_cmp q es ≡ Some v → p v ≡ false
  not_passing [] q out v e = cc
  not_passing (e ∷ es) q out v is = by (p e.1) refl (eq_by_cmp text_cmp q e.0) refl out is (not_passing es q)
    where
      by : (c : Bool) → p e.1 ≡ c → (b : Bool) → eq_by_cmp text_cmp q e.0 ≡ b
          → has_text (map (λ x. x.0) (cond c (e ∷ filter (λ x. p x.1) es) (filter (λ x. p x.1) es))) q ≡ false
          → cond b (Some e.1) (find text_cmp q es) ≡ Some v
          → (has_text (passing es) q ≡ false → (w : V) → find text_cmp q es ≡ Some w → p w ≡ false)
          → p v ≡ false
      by c pc true t out is more = by_test c pc out
        where
          value : e.1 ≡ v
          value = ap (λ o. by_option o e.1 (λ x. x)) is

          by_test : (d : Bool) → p e.1 ≡ d → has_text (map (λ x. x.0) (cond d (e ∷ filter (λ x. p x.1) es) (filter (λ x. p x.1) es))) q ≡ false → p v ≡ false
          by_test true pd out =
              let own : bytes_eq e.0 q ≡ true = ap (λ k. bytes_eq k q) (sym (one_key q e.0 t)) ∙ own_text q in
              let here : (bytes_eq e.0 q || has_text (passing es) q) ≡ true = ap (λ b. b || has_text (passing es) q) own in cc
          by_test false pd out = ap p (sym value) ∙ pd
      by true pc false t out is more = more (rest (bytes_eq e.0 q) out) v is
        where
          rest : (b : Bool) → (b || has_text (passing es) q) ≡ false → has_text (passing es) q ≡ false
          rest true e = cc
          rest false e = e
      by false pc false t out is more = more out v is

  passing_apart : (es : List (List ℕ × V)) (q : List ℕ) → find text_cmp q es ≡ None → has_text (passing es) q ≡ false
  passing_apart [] q none = refl
  passing_apart (e ∷ es) q none = by (p e.1) (eq_by_cmp text_cmp q e.0) refl none (passing_apart es q)
    where
      by : (c b : Bool) → eq_by_cmp text_cmp q e.0 ≡ b → cond b (Some e.1) (find text_cmp q es) ≡ None
          → (find text_cmp q es ≡ None → has_text (passing es) q ≡ false)
          → has_text (map (λ x. x.0) (cond c (e ∷ filter (λ x. p x.1) es) (filter (λ x. p x.1) es))) q ≡ false
      by c true t none more = cc
      by false false t none more = more none
      by true false t none more = ap (λ b. b || has_text (passing es) q) (other (bytes_eq e.0 q) refl) ∙ more none
        where
          other : (d : Bool) → bytes_eq e.0 q ≡ d → d ≡ false
          other true is =
              let same : bytes_eq q e.0 ≡ true = ap (λ k. bytes_eq k e.0) (sym (same_text e.0 q is)) ∙ own_text e.0 in
              let tie : eq_by_cmp text_cmp q e.0 ≡ true = is_eq-slice_cmp q e.0 ∙ same in cc
          other false is = refl

  pub apart_passing : (es : List (List ℕ × V)) → T (is_sorted text_cmp es) → AreApart (passing es)
  apart_passing [] h = tt
  apart_passing (e ∷ es) h = by (p e.1) (apart_passing es (sorted_rest e es h))
    where
      by : (c : Bool) → AreApart (passing es) → AreApart (map (λ x. x.0) (cond c (e ∷ filter (λ x. p x.1) es) (filter (λ x. p x.1) es)))
      by true more = (passing_apart es e.0 (sorted_first e es h), more)
      by false more = more

  -- ---- what the values tell

  module _ {L : Type 0} (tell : V → List L) where
    told_where : (got : List ℕ → Option V) → ((v : V) → p v ≡ false → tell v ≡ []) → (es : List (List ℕ × V)) → T (is_sorted text_cmp es)
        → ((q : List ℕ) → is_some (find text_cmp q es) ≡ true → got q ≡ find text_cmp q es)
        → flat_map (λ t. by_option (got t) [] tell) (passing es) ≡ flat_map (λ e. tell e.1) es
    told_where got silent [] h known = refl
    told_where got silent (e ∷ es) h known = by (p e.1) refl (told_where got silent es (sorted_rest e es h) later)
      where
        here : got e.0 ≡ Some e.1
        here = by_tie (eq_by_cmp text_cmp e.0 e.0) refl
          where
            tie : eq_by_cmp text_cmp e.0 e.0 ≡ true
            tie = is_eq-slice_cmp e.0 e.0 ∙ own_text e.0

            by_tie : (b : Bool) → eq_by_cmp text_cmp e.0 e.0 ≡ b → got e.0 ≡ Some e.1
            by_tie b is =
                let found : find text_cmp e.0 (e ∷ es) ≡ Some e.1 = ap (λ c. cond c (Some e.1) (find text_cmp e.0 es)) tie in
                known e.0 (ap is_some found) ∙ found

        later : (q : List ℕ) → is_some (find text_cmp q es) ≡ true → got q ≡ find text_cmp q es
        later q some = by_tie (eq_by_cmp text_cmp q e.0) refl
          where
            by_tie : (b : Bool) → eq_by_cmp text_cmp q e.0 ≡ b → got q ≡ find text_cmp q es
            by_tie true t =
                let none : find text_cmp q es ≡ None = ap (λ k. find text_cmp k es) (one_key q e.0 t) ∙ sorted_first e es h in
                let no : is_some (find text_cmp q es) ≡ false = ap is_some none in cc
            by_tie false t =
                let same : find text_cmp q (e ∷ es) ≡ find text_cmp q es = ap (λ c. cond c (Some e.1) (find text_cmp q es)) t in
                known q (ap is_some same ∙ some) ∙ same

        by : (c : Bool) → p e.1 ≡ c → flat_map (λ t. by_option (got t) [] tell) (passing es) ≡ flat_map (λ x. tell x.1) es
            → flat_map (λ t. by_option (got t) [] tell) (map (λ x. x.0) (cond c (e ∷ filter (λ x. p x.1) es) (filter (λ x. p x.1) es))) ≡ tell e.1 ++ flat_map (λ x. tell x.1) es
        by true pc more = λ i. by_option (here i) [] tell ++ more i
        by false pc more = more ∙ ap (λ l. l ++ flat_map (λ x. tell x.1) es) (sym (silent e.1 pc))

    -- those at which a value passes tell all, where no other value tells anything
    pub told_all : ((v : V) → p v ≡ false → tell v ≡ []) → (m : finite.FinMap text_cmp V) → told_at tell m (passing (finite.entries m)) ≡ flat_map (λ e. tell e.1) (finite.entries m)
    told_all silent m = told_where (finite.get m) silent (finite.entries m) (entries_sorted m) (λ q some. get-entries m q)

-- nothing is done yet where those are left at which a value passes, and each other value is as it is to be
pub walked_none : {V : Type 0} (P : Option V → Option V → Type 0) (p : V → Bool) → P None None → ((v : V) → p v ≡ false → P (Some v) (Some v))
    → (m : finite.FinMap text_cmp V) (left : List (List ℕ)) → left ≡ passing p (finite.entries m) → IsWalked P left m m
walked_none {V} P p none some m left is = record { kept = λ q e. refl; done = λ q out. by q (ap (λ ts. has_text ts q) (sym is) ∙ out) (finite.get m q) refl }
  where
    by : (q : List ℕ) → has_text (passing p (finite.entries m)) q ≡ false → (o : Option V) → finite.get m q ≡ o → P o o
    by q out None e = none
    by q out (Some v) e = some v (not_passing p (finite.entries m) q out v (sym (get-entries m q) ∙ e))

pub none_left : {A : Type 0} (xs : List A) → length xs ≡ 0 → xs ≡ []
none_left [] e = refl
none_left (x ∷ xs) e = cc
