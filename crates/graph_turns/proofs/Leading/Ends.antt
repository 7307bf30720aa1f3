-- Where known redirects end, by the texts of specifiers, and that a graph's number of redirects is enough steps to get there.
use Rattle.std.proofs.Common.{◌≡◌, ℕ, zero, suc, ◌-◌, ◌≤◌, ◌<◌, List, [], ◌∷◌, ◌++◌, Bool, true, false, ◌||◌, cond, None, Some, is_some, refl, sym, ap, ◌∙◌, subst, inl, inr, ◌⊎◌, ⊎_elim, arith}
use Rattle.std.proofs.lemmas.Bool.{cases_eq, or_cases}
use Rattle.std.specs.List.{list_any}
use Rattle.std.specs.Cmp.Lexicographic.{nat_list_cmp_total}
use Rattle.std.specs.FinMap as finite
use Rattle.std.specs.FinMap.{len-remove, empty_of_len, get-empty}
use Rattle.url.specs.Parts.{Parts}
use Rattle.spec_base.specs.Shown.{text_cmp}
use Rattle.spec_base.specs.Specifier.{same_specifier, specifier_text}
use Rattle.graph_core.specs.declared.graph.ModuleGraph.{ModuleGraph}
use Rattle.graph_core.specs.Graph.{has_slot}
use Rattle.graph_turns.specs.Machine.Redirects.{follow, redirected_end, onward_at}
use Rattle.graph_core.proofs.At.{cases_text, cut_same, cut_other, text_of_same}
use Rattle.graph_turns.proofs.Leading.Follow.{onward_slot, onward_free, onward_parts, follow_keeps, follow_last, follow_new}

-- whether a slot stands at a text
abbrev pub stands : ModuleGraph → List ℕ → Bool
stands g x = finite.contains_key g.slots x

-- from x, m known redirects lead to d, where a slot stands or no redirect goes on
pub data Ends (g : ModuleGraph) : ℕ → List ℕ → List ℕ → Type 0 where
  at_slot : {x : List ℕ} → stands g x ≡ true → Ends g zero x x
  at_last : {x : List ℕ} → stands g x ≡ false → finite.get g.redirects x ≡ None → Ends g zero x x
  on : {m : ℕ} {x d : List ℕ} {t : Parts} → stands g x ≡ false → finite.get g.redirects x ≡ Some t → Ends g m (specifier_text t) d → Ends g (suc m) x d

abbrev pub without_redirect : ModuleGraph → List ℕ → ModuleGraph
without_redirect g x = record g { redirects = finite.remove g.redirects x }

module _ (g : ModuleGraph) where
  pub same_steps : {m k : ℕ} {x d c : List ℕ} → Ends g m x d → Ends g k x c → m ≡ k
  same_steps (at_slot h) (at_slot k) = refl
  same_steps (at_slot h) (at_last k e) = refl
  same_steps (at_slot h) (on k e r) = cc
  same_steps (at_last h e) (at_slot k) = refl
  same_steps (at_last h e) (at_last k f) = refl
  same_steps (at_last h e) (on k f r) = cc
  same_steps (on h e r) (at_slot k) = cc
  same_steps (on h e r) (at_last k f) = cc
  same_steps (on {m = m} {x = x} {d = d} {t = t} h e r) (on {m = k} {d = c} {t = u} j f q) =
      let next : t ≡ u = let both = sym e ∙ f in cc in
      ap suc (same_steps {m = m} {k = k} {x = specifier_text u} {d = d} {c = c} (subst (λ (y : Parts). Ends g m (specifier_text y) d) next r) q)

  -- a way that doesn't come back to x needs no redirect of x
  pub ends_without : {m : ℕ} {y d : List ℕ} (k : ℕ) (x c : List ℕ) → Ends g k x c → m < k → Ends g m y d → Ends (without_redirect g x) m y d
  ends_without k x c from below (at_slot h) = at_slot h
  ends_without k x c from below (at_last {x = y} h e) = ⊎_elim
      (λ same. at_last h (subst (λ z. finite.get (finite.remove g.redirects x) z ≡ None) (sym same) (cut_same g.redirects x)))
      (λ ne. at_last h (cut_other g.redirects x y ne ∙ e))
      (cases_text y x)
  ends_without k x c from below (on {m = m} {x = y} {d = d} {t = t} h e r) = ⊎_elim
      (λ same. absurd (let steps = same_steps (subst (λ z. Ends g (suc m) z d) same (on h e r)) from in omega arith))
      (λ ne. on h (cut_other g.redirects x y ne ∙ e) (ends_without k x c from (omega arith) r))
      (cases_text y x)

-- no way is longer than the number of redirects
pub steps_within : (m : ℕ) (g : ModuleGraph) (x d : List ℕ) → Ends g m x d → m ≤ finite.len g.redirects
steps_within zero g x d e = omega arith
steps_within (suc m) g x d (on {t = t} h e r) =
    let fewer = steps_within m (without_redirect g x) (specifier_text t) d (ends_without g (suc m) x d (on h e r) (omega arith) r) in
    let one_less : finite.len (finite.remove g.redirects x) ≡ finite.len g.redirects - 1 =
    len-remove nat_list_cmp_total g.redirects x ∙ ap (λ o. cond (is_some o) (finite.len g.redirects - 1) (finite.len g.redirects)) e in
    let some : 1 ≤ finite.len g.redirects = has_one g x t e in
    omega arith
  where
    has_one : (g : ModuleGraph) (x : List ℕ) (t : Parts) → finite.get g.redirects x ≡ Some t → 1 ≤ finite.len g.redirects
    has_one g x t e = ⊎_elim (λ none. absurd (let empty_map = empty_of_len g.redirects none in let at = get-empty {X = Parts} text_cmp x in let gone : finite.get g.redirects x ≡ None = ap (λ (m : finite.FinMap text_cmp Parts). finite.get m x) empty_map ∙ at in cc)) (λ some. omega arith) (cases_eq (finite.len g.redirects) 0)

-- ---- a way that ends has no repeat

-- each specifier that was met leads on at least as far
abbrev IsBehind : ModuleGraph → ℕ → List Parts → Type 0
IsBehind g n met = (y : Parts) → list_any (same_specifier y) met ≡ true → (k : ℕ) × (n ≤ k) × ((c : List ℕ) × Ends g k (specifier_text y) c)

any_last : (p : Parts → Bool) (xs : List Parts) (x : Parts) → list_any p (xs ++ x ∷ []) ≡ true → (list_any p xs ≡ true) ⊎ (p x ≡ true)
any_last p [] x e = ⊎_elim inr (λ f. absurd cc) (or_cases (p x) false e)
any_last p (y ∷ ys) x e = ⊎_elim
    (λ t. inl (ap (λ b. b || list_any p ys) t))
    (λ r. ⊎_elim (λ a. inl (or_true (p y) (list_any p ys) a)) inr (any_last p ys x r))
    (or_cases (p y) (list_any p (ys ++ x ∷ [])) e)
  where
    or_true : (a b : Bool) → b ≡ true → (a || b) ≡ true
    or_true true b e = refl
    or_true false b e = e

behind_more : (g : ModuleGraph) (m : ℕ) (met : List Parts) (x : Parts) (d : List ℕ) → Ends g m (specifier_text x) d → IsBehind g (suc m) met → IsBehind g m (met ++ x ∷ [])
behind_more g m met x d e before y is = ⊎_elim
    (λ was. let r = before y was in (r.0, omega (arith, r.1), r.2))
    (λ same. (m, omega arith, (d, subst (λ z. Ends g m z d) (sym (text_of_same y x same)) e)))
    (any_last (same_specifier y) met x is)

only_start : (g : ModuleGraph) (m : ℕ) (x : Parts) (d : List ℕ) → Ends g m (specifier_text x) d → IsBehind g m (x ∷ [])
only_start g m x d e y is = ⊎_elim
    (λ same. (m, omega arith, (d, subst (λ z. Ends g m z d) (sym (text_of_same y x same)) e)))
    (λ f. absurd cc)
    (or_cases (same_specifier y x) false is)

-- from s, m known redirects lead to d
pub data Steps (g : ModuleGraph) : ℕ → Parts → Parts → Type 0 where
  stay : {s : Parts} → Steps g zero s s
  go : {m : ℕ} {s t d : Parts} → onward_at g s ≡ Some t → Steps g m t d → Steps g (suc m) s d

pub steps_push : (g : ModuleGraph) {m : ℕ} {s d t : Parts} → Steps g m s d → onward_at g d ≡ Some t → Steps g (suc m) s t
steps_push g stay e = go e stay
steps_push g (go f r) e = go f (steps_push g r e)

-- where no redirect leads on, they end
pub steps_end : (g : ModuleGraph) {m : ℕ} {s d : Parts} → Steps g m s d → onward_at g d ≡ None → Ends g m (specifier_text s) (specifier_text d)
steps_end g (stay {s = s}) e = by_slot (has_slot g s) refl
  where
    by_slot : (b : Bool) → has_slot g s ≡ b → Ends g zero (specifier_text s) (specifier_text s)
    by_slot true h = at_slot h
    by_slot false h = at_last h (sym (onward_free g s h) ∙ e)
steps_end g (go {s = s} {t = t} f r) e = let parts = onward_parts g s t f in on parts.0 parts.1 (steps_end g r e)

-- a way that ends goes on as far as it leads
pub steps_before : (g : ModuleGraph) {m k : ℕ} {s a d t : Parts} → Steps g m s a → onward_at g a ≡ Some t → Steps g k s d → onward_at g d ≡ None → m < k
steps_before g stay e stay none = absurd (let both = sym e ∙ none in cc)
steps_before g stay e (go f q) none = omega arith
steps_before g (go f r) e stay none = absurd (let both = sym f ∙ none in cc)
steps_before g (go {m = m} {t = t} {d = a} f r) e (go {m = k} {t = u} {d = d} h q) none =
    let same : t ≡ u = let both = sym f ∙ h in cc in
    let less = steps_before g r e (subst (λ (x : Parts). Steps g k x d) (sym same) q) none in
    omega (arith, less)

steps_follow : (g : ModuleGraph) {m : ℕ} {s d : Parts} → Steps g m s d → onward_at g d ≡ None → (n : ℕ) (met : List Parts) → m ≤ n → IsBehind g m met → follow g n met s ≡ d
steps_follow g (stay {s = s}) e n met le before = follow_last g n met s e
steps_follow g (go f r) e zero met le before = absurd (omega arith)
steps_follow g (go {m = m} {s = s} {t = t} {d = d} f r) e (suc n) met le before =
    by_met (λ b. steps_follow g r e n (met ++ t ∷ []) (omega (arith, le)) b) (list_any (same_specifier t) met) refl
  where
    rest : Ends g m (specifier_text t) (specifier_text d)
    rest = steps_end g r e

    by_met : (IsBehind g m (met ++ t ∷ []) → follow g n (met ++ t ∷ []) t ≡ d) → (b : Bool) → list_any (same_specifier t) met ≡ b → follow g (suc n) met s ≡ d
    by_met next true was = absurd (let far = before t was in let steps = same_steps g rest far.2.1 in omega (arith, far.1, steps))
    by_met next false new = follow_new g n met s t f new ∙ next (behind_more g m met t (specifier_text d) rest before)

-- where known redirects end is where they lead
pub steps_led : (g : ModuleGraph) {m : ℕ} {s d : Parts} → Steps g m s d → onward_at g d ≡ None → redirected_end g s ≡ d
steps_led g {m} {s} {d} steps e =
    let ends = steps_end g steps e in
    steps_follow g steps e (finite.len g.redirects) (s ∷ []) (steps_within m g (specifier_text s) (specifier_text d) ends) (only_start g m s (specifier_text d) ends)

-- the steps of a way that ends
record Led (g : ModuleGraph) (m : ℕ) (s : Parts) (d : List ℕ) : Type 0 where
  at : Parts
  steps : Steps g m s at
  last : onward_at g at ≡ None
  is : specifier_text at ≡ d

ends_steps : (g : ModuleGraph) {m : ℕ} {x d : List ℕ} → Ends g m x d → (s : Parts) → x ≡ specifier_text s → Led g m s d
ends_steps g (at_slot {x} h) s is = record { at = s; steps = stay; last = onward_slot g s (subst (λ z. stands g z ≡ true) is h); is = sym is }
ends_steps g (at_last {x} h e) s is = record { at = s; steps = stay; last = onward_free g s (subst (λ z. stands g z ≡ false) is h) ∙ subst (λ z. finite.get g.redirects z ≡ None) is e; is = sym is }
ends_steps g (on {m} {x} {d} {t} h e r) s is =
    let rest = ends_steps g r t refl in
    record {
      at = rest.at;
      steps = go (onward_free g s (subst (λ z. stands g z ≡ false) is h) ∙ subst (λ z. finite.get g.redirects z ≡ Some t) is e) rest.steps;
      last = rest.last;
      is = rest.is;
    }

-- the end of known redirects is where they lead
pub ends_led : (g : ModuleGraph) (m : ℕ) (s : Parts) (x d : List ℕ) → x ≡ specifier_text s → Ends g m x d → specifier_text (redirected_end g s) ≡ d
ends_led g m s x d is e = let way = ends_steps g e s is in ap specifier_text (steps_led g way.steps way.last) ∙ way.is

-- known redirects lead step by step
pub led_steps : (g : ModuleGraph) (s : Parts) → (m : ℕ) × Steps g m s (redirected_end g s)
led_steps g s = follow_keeps g (λ x. (m : ℕ) × Steps g m s x) (λ x t so_far e. (suc so_far.0, steps_push g so_far.1 e)) (finite.len g.redirects) (s ∷ []) s (zero, stay)
