-- Circles of redirects without a slot: none begins where a slot is put, nor where a redirect is put that doesn't lead back, and known redirects
-- end without a slot and with a redirect only on one.
use Rattle.std.proofs.Common.{◌≡◌, ◌≢◌, ℕ, zero, suc, ◌≤◌, ◌||◌, List, [], ◌∷◌, ◌++◌, bytes_eq, Bool, true, false, cond, Option, None, Some, is_some, refl, sym, ap, ◌∙◌, subst, inl, inr, ◌⊎◌, arith, ⊎_elim, ◌-◌}
use Rattle.std.specs.Cmp.Lexicographic.{nat_list_cmp_total}
use Rattle.std.specs.FinMap.{len-remove, empty_of_len, get-empty}
use Rattle.std.specs.List.{list_any}
use Rattle.url.specs.Parts.{Parts}
use Rattle.spec_base.specs.Shown.{text_cmp}
use Rattle.spec_base.specs.Specifier.{same_specifier, specifier_text}
use Rattle.graph_core.specs.declared.graph.ModuleGraph.{ModuleGraph}
use Rattle.module_slots.specs.declared.slot.ModuleSlot.{ModuleSlot}
use Rattle.graph_core.specs.Graph.{has_slot, redirect_at}
use Rattle.graph_core.proofs.At.{cases_text, cut_same, cut_other, text_of_same, same_of_text}
use Rattle.graph_turns.specs.Machine.Redirects.{follow, redirected_end, leads_back, onward_at, unknown_at}
use Rattle.graph_turns.proofs.Leading.Back.{asked_last, ends_back}
use Rattle.graph_turns.proofs.Leading.Ends.{Steps, stands, without_redirect}
use Rattle.graph_turns.proofs.Leading.Ends.Steps.{stay, go}
use Rattle.graph_turns.proofs.Leading.Follow.{follow_last, follow_met, follow_new, follow_zero, onward_free, onward_parts}
use Rattle.graph_turns.proofs.Leading.Ways.{put_at, slot_put, slot_put_other}
use Rattle.std.proofs.lemmas.Bool.{or_cases}
use Rattle.std.specs.FinMap as finite

-- one redirect or more lead from one text to another, and no slot stands at one that they lead on from
pub data Onto (g : ModuleGraph) : List ℕ → List ℕ → Type 0 where
  one : {x : List ℕ} {t : Parts} → stands g x ≡ false → finite.get g.redirects x ≡ Some t → Onto g x (specifier_text t)
  more : {x d : List ℕ} {t : Parts} → stands g x ≡ false → finite.get g.redirects x ≡ Some t → Onto g (specifier_text t) d → Onto g x d

-- the same, or none does and it is the same text
abbrev pub Upto : ModuleGraph → List ℕ → List ℕ → Type 0
Upto g x d = (x ≡ d) ⊎ Onto g x d

-- a text on a circle without a slot
abbrev pub Loop : ModuleGraph → List ℕ → Type 0
Loop g x = Onto g x x

-- ---- joined

pub onto_join : (g : ModuleGraph) {x y d : List ℕ} → Onto g x y → Onto g y d → Onto g x d
onto_join g (one free e) q = more free e q
onto_join g (more free e r) q = more free e (onto_join g r q)

pub upto_onto : (g : ModuleGraph) {x y d : List ℕ} → Upto g x y → Onto g y d → Onto g x d
upto_onto g {x} {y} {d} (inl same) q = subst (λ z. Onto g z d) (sym same) q
upto_onto g (inr r) q = onto_join g r q

pub upto_join : (g : ModuleGraph) {x y d : List ℕ} → Upto g x y → Upto g y d → Upto g x d
upto_join g {x} {y} {d} p (inl same) = subst (λ z. Upto g x z) same p
upto_join g p (inr q) = inr (upto_onto g p q)

-- a way that a graph has which has at least those slots and redirects
pub onto_in : (g u : ModuleGraph) → ((x : List ℕ) (t : Parts) → stands g x ≡ false → finite.get g.redirects x ≡ Some t → (stands u x ≡ false) × (finite.get u.redirects x ≡ Some t)) → {x d : List ℕ} → Onto g x d → Onto u x d
onto_in g u on (one {x = x} {t = t} free e) = let now = on x t free e in one now.0 now.1
onto_in g u on (more {x = x} {t = t} free e r) = let now = on x t free e in more now.0 now.1 (onto_in g u on r)

-- ---- a slot more

-- a slot more brings no circle
pub loop_put : (g : ModuleGraph) (k : List ℕ) (v : ModuleSlot) {x d : List ℕ} → Onto (put_at g k v) x d → Onto g x d
loop_put g k v = onto_in (put_at g k v) g as_it_was
  where
    as_it_was : (x : List ℕ) (t : Parts) → stands (put_at g k v) x ≡ false → finite.get (put_at g k v).redirects x ≡ Some t → (stands g x ≡ false) × (finite.get g.redirects x ≡ Some t)
    as_it_was x t free e = ⊎_elim
        (λ same. absurd (let here : stands (put_at g k v) x ≡ true = ap (stands (put_at g k v)) same ∙ slot_put g k v in cc))
        (λ ne. (sym (slot_put_other g k v x ne) ∙ free, e))
        (cases_text x k)

-- ---- a redirect more

-- steps to a text
record StepsTo (g : ModuleGraph) (s : Parts) (d : List ℕ) : Type 0 where
  count : ℕ
  at : Parts
  steps : Steps g count s at
  is : specifier_text at ≡ d

onward_text : (g : ModuleGraph) (s t : Parts) (x : List ℕ) → specifier_text s ≡ x → stands g x ≡ false → finite.get g.redirects x ≡ Some t → onward_at g s ≡ Some t
onward_text g s t x is free e =
    onward_free g s (ap (stands g) is ∙ free) ∙ (ap (λ z. finite.get g.redirects z) is ∙ e)

steps_onto : (g : ModuleGraph) {x d : List ℕ} → Onto g x d → (s : Parts) → specifier_text s ≡ x → StepsTo g s d
steps_onto g (one {x = x} {t = t} free e) s is = record { count = suc zero; at = t; steps = go (onward_text g s t x is free e) stay; is = refl }
steps_onto g (more {x = x} {t = t} free e r) s is =
    let rest = steps_onto g r t refl in
    record { count = suc rest.count; at = rest.at; steps = go (onward_text g s t x is free e) rest.steps; is = rest.is }

-- where nothing leads on from it, a specifier that redirects lead to is redirected_end back to
pub led_back : (g : ModuleGraph) (a n : Parts) → Upto (unknown_at g a) (specifier_text n) (specifier_text a) → leads_back g a n ≡ true
led_back g a n (inl same) =
    sym (ends_back g a zero n n stay (asked_last g a n (same_of_text n a same))) ∙ same_of_text n a same
led_back g a n (inr way) =
    let steps = steps_onto (unknown_at g a) way n refl in
    sym (ends_back g a steps.count n steps.at steps.steps (asked_last g a steps.at (same_of_text steps.at a steps.is))) ∙ same_of_text steps.at a steps.is

-- a graph whose redirects and slots are those of another one, but where a specifier is redirected
module _ (g u : ModuleGraph) (a n : Parts) (slots : (y : List ℕ) → y ≢ specifier_text a → stands u y ≡ stands g y) (others : (y : List ℕ) → y ≢ specifier_text a → finite.get u.redirects y ≡ finite.get g.redirects y) (here : (t : Parts) → stands u (specifier_text a) ≡ false → finite.get u.redirects (specifier_text a) ≡ Some t → t ≡ n) where
  abbrev without : ModuleGraph
  without = unknown_at g a

  -- elsewhere it is the one without it
  elsewhere : (y : List ℕ) (t : Parts) → y ≢ specifier_text a → stands u y ≡ false → finite.get u.redirects y ≡ Some t → (stands without y ≡ false) × (finite.get without.redirects y ≡ Some t)
  elsewhere y t ne free e =
      (ap is_some (cut_other g.slots (specifier_text a) y ne) ∙ (sym (slots y ne) ∙ free), cut_other g.redirects (specifier_text a) y ne ∙ (sym (others y ne) ∙ e))

  -- a way goes without it, or comes to it and goes on where it is redirected
  abbrev Parted : List ℕ → List ℕ → Type 0
  Parted x y = Onto without x y ⊎ (Upto without x (specifier_text a) × Upto without (specifier_text n) y)

  parted : {x y : List ℕ} → Onto u x y → Parted x y
  parted (one {x = x} {t = t} free e) = ⊎_elim
      (λ same. inr (inl same, inl (sym (ap specifier_text (here t (subst (λ z. stands u z ≡ false) same free) (subst (λ z. finite.get u.redirects z ≡ Some t) same e))))))
      (λ ne. let now = elsewhere x t ne free e in inl (one now.0 now.1))
      (cases_text x (specifier_text a))
  parted (more {x = x} {d = y} {t = t} free e r) = ⊎_elim
      (λ same.
      let is : t ≡ n = here t (subst (λ z. stands u z ≡ false) same free) (subst (λ z. finite.get u.redirects z ≡ Some t) same e) in
      inr (
        inl same,
        ⊎_elim
            (λ rest. inr (subst (λ (z : Parts). Onto without (specifier_text z) y) is rest))
            (λ both. both.1)
            (parted r),
      ))
      (λ ne.
      let now = elsewhere x t ne free e in
      ⊎_elim
      (λ rest. inl (more now.0 now.1 rest))
      (λ both. inr (⊎_elim (λ same. inr (subst (λ z. Onto without x z) same (one now.0 now.1))) (λ way. inr (more now.0 now.1 way)) both.0, both.1))
      (parted r))
      (cases_text x (specifier_text a))

  -- where it doesn't lead back, no circle begins
  pub loop_redirected : leads_back g a n ≡ false → {x : List ℕ} → Loop u x → Loop g x
  loop_redirected back {x} way = ⊎_elim
      (λ rest. onto_in without g as_in_it rest)
      (λ both. absurd (let leads = led_back g a n (upto_join without both.1 both.0) in cc))
      (parted way)
    where
      as_in_it : (y : List ℕ) (t : Parts) → stands without y ≡ false → finite.get without.redirects y ≡ Some t → (stands g y ≡ false) × (finite.get g.redirects y ≡ Some t)
      as_in_it y t free e = ⊎_elim
          (λ same. absurd (let none = ap (λ z. finite.get without.redirects z) same ∙ cut_same g.redirects (specifier_text a) in cc))
          (λ ne. (sym (ap is_some (cut_other g.slots (specifier_text a) y ne)) ∙ free, sym (cut_other g.redirects (specifier_text a) y ne) ∙ e))
          (cases_text y (specifier_text a))

  -- nor is the specifier on one
  pub no_loop_here : leads_back g a n ≡ false → Loop u (specifier_text a) → ⊥
  no_loop_here back way = ⊎_elim
      (λ rest. not_from rest refl)
      (λ both. let leads = led_back g a n (upto_join without both.1 (inl refl)) in cc)
      (parted way)
    where
      not_from : {x y : List ℕ} → Onto without x y → x ≡ specifier_text a → ⊥
      not_from (one free e) is = let none = ap (λ z. finite.get without.redirects z) is ∙ cut_same g.redirects (specifier_text a) in cc
      not_from (more free e r) is = let none = ap (λ z. finite.get without.redirects z) is ∙ cut_same g.redirects (specifier_text a) in cc

-- ---- where known redirects stop

-- the redirects of a graph, without those of specifiers that were met but for one
abbrev IsLeft : ModuleGraph → ModuleGraph → List Parts → Parts → Type 0
IsLeft g h met s = (y : Parts) → (list_any (same_specifier y) met ≡ false) ⊎ (specifier_text y ≡ specifier_text s) → finite.get h.redirects (specifier_text y) ≡ finite.get g.redirects (specifier_text y)

-- each specifier that was met leads to one
abbrev AllLead : ModuleGraph → List Parts → Parts → Type 0
AllLead g met s = (y : Parts) → list_any (same_specifier y) met ≡ true → Upto g (specifier_text y) (specifier_text s)

has_one : (h : ModuleGraph) (x : List ℕ) (t : Parts) → finite.get h.redirects x ≡ Some t → finite.len h.redirects ≡ 0 → ⊥
has_one h x t e none =
    let empty_map = empty_of_len h.redirects none in
    let at = get-empty {X = Parts} text_cmp x in
    let gone : finite.get h.redirects x ≡ None = ap (λ (m : finite.FinMap text_cmp Parts). finite.get m x) empty_map ∙ at in
    cc

one_less : (h : ModuleGraph) (x : List ℕ) (t : Parts) → finite.get h.redirects x ≡ Some t → finite.len (without_redirect h x).redirects ≡ finite.len h.redirects - 1
one_less h x t e = len-remove nat_list_cmp_total h.redirects x ∙ ap (λ o. cond (is_some o) (finite.len h.redirects - 1) (finite.len h.redirects)) e

any_push : (p : Parts → Bool) (xs : List Parts) (x : Parts) → list_any p (xs ++ x ∷ []) ≡ true → (list_any p xs ≡ true) ⊎ (p x ≡ true)
any_push p [] x e = ⊎_elim inr (λ f. absurd cc) (or_cases (p x) false e)
any_push p (y ∷ ys) x e = ⊎_elim
    (λ t. inl (ap (λ b. b || list_any p ys) t))
    (λ r. ⊎_elim (λ a. inl (or_right (p y) (list_any p ys) a)) inr (any_push p ys x r))
    (or_cases (p y) (list_any p (ys ++ x ∷ [])) e)
  where
    or_right : (a b : Bool) → b ≡ true → (a || b) ≡ true
    or_right true b e = refl
    or_right false b e = e

any_before : (p : Parts → Bool) (xs : List Parts) (x : Parts) → list_any p (xs ++ x ∷ []) ≡ false → list_any p xs ≡ false
any_before p [] x e = refl
any_before p (y ∷ ys) x e = by (any_before p ys x) (p y) e
  where
    by : (list_any p (ys ++ x ∷ []) ≡ false → list_any p ys ≡ false) → (b : Bool) → b || list_any p (ys ++ x ∷ []) ≡ false → b || list_any p ys ≡ false
    by rest true h = absurd cc
    by rest false h = rest h

module _ (g : ModuleGraph) where
  -- where a redirect leads on from where they stop, that is on a circle
  stopped_by : (n : ℕ) (met : List Parts) (s : Parts) (h : ModuleGraph) (u : Parts) → list_any (same_specifier s) met ≡ true → IsLeft g h met s → AllLead g met s → finite.len h.redirects ≤ n → onward_at g (follow g n met s) ≡ Some u → Loop g (specifier_text (follow g n met s))
  unfolding specifier_text
  stopped_by zero met s h u among left lead few e =
      let is = follow_zero g met s in
      let on = subst (λ z. onward_at g z ≡ Some u) is e in
      let parts = onward_parts g s u on in
      absurd (has_one h (specifier_text s) u (left s (inr refl) ∙ parts.1) (omega (arith, few)))
  stopped_by (suc n) met s h u among left lead few e = by_next (stopped_by n) (onward_at g s) refl
    where
      ends_at : follow g (suc n) met s ≡ s → (t : Parts) → onward_at g s ≡ Some t → Upto g (specifier_text t) (specifier_text s) → Loop g (specifier_text (follow g (suc n) met s))
      ends_at is t on back =
          let parts = onward_parts g s t on in
          subst (λ z. Loop g (specifier_text z)) (sym is) (⊎_elim (λ same. subst (λ z. Onto g (specifier_text s) z) same (one parts.0 parts.1)) (λ way. more parts.0 parts.1 way) back)

      by_met : ((met : List Parts) (s : Parts) (h : ModuleGraph) (u : Parts) → list_any (same_specifier s) met ≡ true → IsLeft g h met s → AllLead g met s → finite.len h.redirects ≤ n → onward_at g (follow g n met s) ≡ Some u → Loop g (specifier_text (follow g n met s))) → (t : Parts) → onward_at g s ≡ Some t → (b : Bool) → list_any (same_specifier t) met ≡ b → Loop g (specifier_text (follow g (suc n) met s))
      by_met rest t on true was = ends_at (follow_met g n met s t on was) t on (lead t was)
      by_met rest t on false new =
          let parts = onward_parts g s t on in
          let is = follow_new g n met s t on new in
          let step : Onto g (specifier_text s) (specifier_text t) = one parts.0 parts.1 in
          let other : specifier_text t ≢ specifier_text s = λ same. let was : list_any (same_specifier t) met ≡ true = same_any met among same in cc in
          subst (λ z. Loop g (specifier_text z)) (sym is)
          (rest (met ++ t ∷ []) t (without_redirect h (specifier_text s)) u (last_any met t)
          (λ y where_is. cut_other h.redirects (specifier_text s) (specifier_text y) (apart y t other where_is) ∙ left y (inl (not_met y t new where_is)))
          (λ y was. ⊎_elim (λ before. inr (upto_onto g (lead y before) step)) (λ same. inl (text_of_same y t same)) (any_push (same_specifier y) met t was))
          (let less = one_less h (specifier_text s) t (left s (inr refl) ∙ parts.1) in omega (arith, few, less))
          (subst (λ z. onward_at g z ≡ Some u) is e))
        where
          same_any : (xs : List Parts) → list_any (same_specifier s) xs ≡ true → specifier_text t ≡ specifier_text s → list_any (same_specifier t) xs ≡ true
          same_any xs a same = subst (λ z. list_any z xs ≡ true) (same_test same) a
            where
              same_test : specifier_text t ≡ specifier_text s → same_specifier s ≡ same_specifier t
              same_test is = ap (λ z. λ (p : Parts). bytes_eq z (specifier_text p)) (sym is)

          last_any : (xs : List Parts) (x : Parts) → list_any (same_specifier x) (xs ++ x ∷ []) ≡ true
          last_any [] x = ap (λ b. b || false) (same_of_text x x refl)
          last_any (y ∷ ys) x = by (same_specifier x y) (last_any ys x)
            where
              by : (b : Bool) → list_any (same_specifier x) (ys ++ x ∷ []) ≡ true → b || list_any (same_specifier x) (ys ++ x ∷ []) ≡ true
              by true r = refl
              by false r = r

          not_met : (y x : Parts) → list_any (same_specifier x) met ≡ false → (list_any (same_specifier y) (met ++ x ∷ []) ≡ false) ⊎ (specifier_text y ≡ specifier_text x) → list_any (same_specifier y) met ≡ false
          not_met y x fresh (inl none) = any_before (same_specifier y) met x none
          not_met y x fresh (inr same) = subst (λ z. list_any (λ (p : Parts). bytes_eq z (specifier_text p)) met ≡ false) (sym same) fresh

          apart : (y x : Parts) → specifier_text x ≢ specifier_text s → (list_any (same_specifier y) (met ++ x ∷ []) ≡ false) ⊎ (specifier_text y ≡ specifier_text x) → specifier_text y ≢ specifier_text s
          apart y x ne (inl none) = λ same. let was = subst (λ z. list_any (λ (p : Parts). bytes_eq z (specifier_text p)) met ≡ true) (sym same) among in let not_so = any_before (same_specifier y) met x none in cc
          apart y x ne (inr is) = λ same. ne (sym is ∙ same)

      by_next : ((met : List Parts) (s : Parts) (h : ModuleGraph) (u : Parts) → list_any (same_specifier s) met ≡ true → IsLeft g h met s → AllLead g met s → finite.len h.redirects ≤ n → onward_at g (follow g n met s) ≡ Some u → Loop g (specifier_text (follow g n met s))) → (o : Option Parts) → onward_at g s ≡ o → Loop g (specifier_text (follow g (suc n) met s))
      by_next rest None on = absurd (let is = follow_last g (suc n) met s on in let here = subst (λ z. onward_at g z ≡ Some u) is e in cc)
      by_next rest (Some t) on = by_met rest t on (list_any (same_specifier t) met) refl

  -- the end of known redirects has a slot, or no redirect, or is on a circle
  pub led_loop : (s u : Parts) → has_slot g (redirected_end g s) ≡ false → redirect_at g (redirected_end g s) ≡ Some u → Loop g (specifier_text (redirected_end g s))
  led_loop s u free e =
      stopped_by (finite.len g.redirects) (s ∷ []) s g u
      (ap (λ b. b || false) (same_of_text s s refl))
      (λ y where_is. refl)
      (λ y was. inl (text_of_same y s (⊎_elim (λ h. h) (λ none. absurd cc) (or_cases (same_specifier y s) false was))))
      (omega arith)
      (onward_free g (redirected_end g s) free ∙ e)
