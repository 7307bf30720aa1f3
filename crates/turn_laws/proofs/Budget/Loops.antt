-- Specifiers that are on no circle of redirects without a slot: where known redirects stop at one that leads on, they go round.
use Rattle.std.proofs.Common.{◌≡◌, ◌≢◌, ℕ, zero, suc, ◌-◌, ◌≤◌, List, [], ◌∷◌, ◌++◌, Bool, true, false, ◌||◌, cond, if◌then◌else◌, Option, None, Some, is_some, refl, sym, ap, ◌∙◌, subst, inl, inr, ⊎_elim, ◌⊎◌, arith}
use Rattle.std.proofs.lemmas.Bool.{cases_eq, true≢false}
use Rattle.std.specs.Cmp.Lexicographic.{nat_list_cmp_total}
use Rattle.std.specs.FinMap as finite
use Rattle.std.specs.FinMap.{empty_of_len, get-empty, len-remove}
use Rattle.std.specs.List.{list_any}
use Rattle.url.specs.Parts.{Parts}
use Rattle.spec_base.specs.Shown.{text_cmp}
use Rattle.spec_base.specs.Specifier.{same_specifier, specifier_text}
use Rattle.graph_core.specs.declared.graph.ModuleGraph.{ModuleGraph}
use Rattle.module_slots.specs.declared.slot.ModuleSlot.{ModuleSlot}
use Rattle.graph_core.specs.Graph.{has_slot, redirect_at, slot_at}
use Rattle.graph_turns.specs.Machine.Redirects.{follow, redirected_end, leads_back, moved, onward_at, renamed, unknown_at}
use Rattle.graph_core.proofs.At.{cases_text, cut_other, cut_same, other_text, same_of_text, text_of_same}
use Rattle.turn_laws.proofs.Entering.Placed.{Placed, settled_stands}
use Rattle.turn_laws.proofs.Entering.Placed.Placed.{there as put_there, stood as stood_there}
use Rattle.graph_turns.proofs.Leading.Ends.{Ends, ends_led, stands}
use Rattle.graph_turns.proofs.Leading.Ends.Ends.{at_last, on}
use Rattle.graph_turns.proofs.Leading.Follow.{follow_last, follow_met, follow_new, follow_zero, onward_free, onward_parts}
use Rattle.turn_laws.proofs.Leading.Paths.{Path, path_join}
use Rattle.turn_laws.proofs.Leading.Paths.Path.{stay, go}
use Rattle.graph_turns.proofs.Leading.Ways.{put_at, slot_put, slot_put_other}
use Rattle.turn_laws.proofs.Promise.Moving.{IsMoved, is_moved}

-- no known redirects lead from k back to k, where no slot stands on the way
abbrev pub NoLoop : ModuleGraph → List ℕ → Type 0
NoLoop g k = (n : Parts) → stands g k ≡ false → finite.get g.redirects k ≡ Some n → Path g (specifier_text n) k → ⊥

-- there is none where a slot stands
pub stood_loop : (g : ModuleGraph) (k : List ℕ) → stands g k ≡ true → NoLoop g k
stood_loop g k t n f e p = true≢false (sym t ∙ f)

-- ---- graphs that change

-- the same slots and redirects
module _ (g u : ModuleGraph) (slots : u.slots ≡ g.slots) (redirects : u.redirects ≡ g.redirects) where
  same_stands : (x : List ℕ) → stands g x ≡ stands u x
  same_stands x = ap (λ (m : finite.FinMap text_cmp ModuleSlot). finite.contains_key m x) (sym slots)

  same_redirect : (x : List ℕ) → finite.get g.redirects x ≡ finite.get u.redirects x
  same_redirect x = ap (λ (m : finite.FinMap text_cmp Parts). finite.get m x) (sym redirects)

  same_path : {x d : List ℕ} → Path u x d → Path g x d
  same_path stay = stay
  same_path (go {x = x} f e r) = go (same_stands x ∙ f) (same_redirect x ∙ e) (same_path r)

  pub loop_as : (k : List ℕ) → NoLoop g k → NoLoop u k
  loop_as k none n f e p = none n (same_stands k ∙ f) (same_redirect k ∙ e) (same_path p)

-- a slot more
module _ (g : ModuleGraph) (d : List ℕ) (v : ModuleSlot) where
  apart_put : (x : List ℕ) → stands (put_at g d v) x ≡ false → x ≢ d
  apart_put x f same = true≢false (sym (slot_put g d v) ∙ subst (λ z. stands (put_at g d v) z ≡ false) same f)

  path_put : {x y : List ℕ} → Path (put_at g d v) x y → Path g x y
  path_put stay = stay
  path_put (go {x = x} f e r) = go (sym (slot_put_other g d v x (apart_put x f)) ∙ f) e (path_put r)

  pub loop_put : (k : List ℕ) → NoLoop g k → NoLoop (put_at g d v) k
  loop_put k none n f e p = none n (sym (slot_put_other g d v k (apart_put k f)) ∙ f) e (path_put p)

-- ---- a redirect that doesn't lead back

-- a path to what ends
path_ends : (g : ModuleGraph) {x d e : List ℕ} {m : ℕ} → Path g x d → Ends g m d e → (k : ℕ) × Ends g k x e
path_ends g {m = m} stay way = (m, way)
path_ends g (go f r p) way = let rest = path_ends g p way in (suc rest.0, on f r rest.1)

-- the first step of a path to another text
path_first : (g : ModuleGraph) {x d : List ℕ} → Path g x d → x ≢ d → (t : Parts) × (stands g x ≡ false) × (finite.get g.redirects x ≡ Some t) × Path g (specifier_text t) d
path_first g stay ne = absurd (ne refl)
path_first g (go {t = t} f e r) ne = (t, f, e, r)

-- a path that doesn't come to a text was one before, and one that does has two parts
module _ (g u : ModuleGraph) (a : List ℕ) (slots : (x : List ℕ) → x ≢ a → stands u x ≡ false → stands g x ≡ false) (redirects : (x : List ℕ) → x ≢ a → finite.get u.redirects x ≡ finite.get g.redirects x) where
  path_via : {x d : List ℕ} → Path u x d → Path g x d ⊎ (Path u x a × Path u a d)
  path_via stay = inl stay
  path_via (go {x = x} {d = d} {t = t} f e r) = ⊎_elim
      (λ same. inr (subst (Path u x) same stay, subst (λ z. Path u z d) same (go f e r)))
      (λ ne. ⊎_elim (λ p. inl (go (slots x ne f) (sym (redirects x ne) ∙ e) p)) (λ p. inr (go f e p.0, p.1)) (path_via r))
      (cases_text x a)

  -- where nothing leads back to that text, nor on from where it leads
  loop_via : ((t : Parts) (k : List ℕ) → stands u a ≡ false → finite.get u.redirects a ≡ Some t → stands u k ≡ false → Path u (specifier_text t) k → Path u k a → ⊥) → (k : List ℕ) → NoLoop g k → NoLoop u k
  loop_via on_from k none m f e p = ⊎_elim
      (λ same. on_from m k (subst (λ z. stands u z ≡ false) same f) (subst (λ z. finite.get u.redirects z ≡ Some m) same e) f p (subst (Path u k) same stay))
      (λ ne. ⊎_elim
      (λ q. none m (slots k ne f) (sym (redirects k ne) ∙ e) q)
      (λ q. let first = path_first u q.1 (λ same. ne (sym same)) in on_from first.0 k first.1 first.2 f first.3 (go f e q.0))
      (path_via p))
      (cases_text k a)

module _ (g u : ModuleGraph) (a n : Parts) (is : IsMoved g u a n) where
  -- where its redirect leads
  from_here : (t : Parts) → stands u (specifier_text a) ≡ false → finite.get u.redirects (specifier_text a) ≡ Some t → t ≡ n
  from_here t f e = ⊎_elim (λ s. absurd (true≢false (sym s ∙ f))) (λ r. let both = sym e ∙ r.1 in cc) is.from

  module _ (back : leads_back g a n ≡ false) where
    -- a path to the asked specifier is one without its own slot and redirect
    path_to : {x d : List ℕ} → Path u x d → d ≡ specifier_text a → Path (unknown_at g a) x d
    path_to stay same = stay
    path_to (go {x = x} {d = d} f e r) same = ⊎_elim
        (λ here. subst (λ z. Path (unknown_at g a) z d) (sym (here ∙ sym same)) stay)
        (λ ne. go (ap is_some (cut_other g.slots (specifier_text a) x ne ∙ sym (is.slots x ne)) ∙ f) (cut_other g.redirects (specifier_text a) x ne ∙ sym (is.redirects x ne) ∙ e) (path_to r same))
        (cases_text x (specifier_text a))

    none_back : Path u (specifier_text n) (specifier_text a) → ⊥
    none_back p =
        let way = path_ends (unknown_at g a) (path_to p refl) (at_last (ap is_some (cut_same g.slots (specifier_text a))) (cut_same g.redirects (specifier_text a))) in
        other_text (redirected_end (unknown_at g a) n) a back (ends_led (unknown_at g a) way.0 n (specifier_text n) (specifier_text a) refl way.1)

    loop_over : (k : List ℕ) → NoLoop g k → NoLoop u k
    loop_over = loop_via g u (specifier_text a) (λ x ne f. sym (ap is_some (is.slots x ne)) ∙ f) is.redirects
        (λ t k f e here p q. none_back (path_join u (subst (λ (z : Parts). Path u (specifier_text z) k) (from_here t f e) p) q))

  -- where a slot stands at its name
  module _ (h : ModuleGraph) (slots : (x : List ℕ) → x ≢ specifier_text n → stands h x ≡ stands u x) (redirects : (x : List ℕ) → finite.get h.redirects x ≡ finite.get u.redirects x) (there : stands h (specifier_text n) ≡ true) where
    apart_name : (x : List ℕ) → stands h x ≡ false → x ≢ specifier_text n
    apart_name x f same = true≢false (sym there ∙ subst (λ z. stands h z ≡ false) same f)

    loop_named : (k : List ℕ) → NoLoop g k → NoLoop h k
    loop_named = loop_via g h (specifier_text a)
        (λ x ne f. sym (ap is_some (is.slots x ne)) ∙ sym (slots x (apart_name x f)) ∙ f)
        (λ x ne. redirects x ∙ is.redirects x ne)
        (λ t k f e here p q.
        let at = from_here t (sym (slots (specifier_text a) (apart_name (specifier_text a) f)) ∙ f) (sym (redirects (specifier_text a)) ∙ e) in
        let first = path_first h (subst (λ (z : Parts). Path h (specifier_text z) k) at p) (λ same. apart_name k here (sym same)) in
        true≢false (sym there ∙ first.1))

-- a redirect that doesn't lead back
pub loop_moved : (g : ModuleGraph) (a n : Parts) → leads_back g a n ≡ false → (k : List ℕ) → NoLoop g k → NoLoop (moved g a n) k
loop_moved g a n back = loop_over g (moved g a n) a n (is_moved g a n) back

-- a slot at the name of an answer
loop_here : (g : ModuleGraph) (n : Parts) (v : ModuleSlot) (u : ModuleGraph) → Placed g n v u → (k : List ℕ) → NoLoop g k → NoLoop u k
loop_here g n v u (put_there free) k none = loop_put g (specifier_text n) v k none
loop_here g n v u (stood_there o t) k none = none

loop_away : (g : ModuleGraph) (a n : Parts) (v : ModuleSlot) (u : ModuleGraph) → Placed (moved g a n) n v u → (k : List ℕ) → NoLoop g k → NoLoop u k
loop_away g a n v u (put_there free) =
    loop_named g (moved g a n) a n (is_moved g a n) (put_at (moved g a n) (specifier_text n) v) (λ x ne. slot_put_other (moved g a n) (specifier_text n) v x ne) (λ x. refl) (slot_put (moved g a n) (specifier_text n) v)
loop_away g a n v u (stood_there o t) = loop_named g (moved g a n) a n (is_moved g a n) (moved g a n) (λ x ne. refl) (λ x. refl) (settled_stands (slot_at (moved g a n) n) t)

pub loop_placed : (g : ModuleGraph) (a n : Parts) (v : ModuleSlot) (u : ModuleGraph) → Placed (renamed g a n) n v u → (k : List ℕ) → NoLoop g k → NoLoop u k
loop_placed g a n v = by (same_specifier a n)
  where
    by : (b : Bool) → (u : ModuleGraph) → Placed (if b then g else moved g a n) n v u → (k : List ℕ) → NoLoop g k → NoLoop u k
    by true u how = loop_here g n v u how
    by false u how = loop_away g a n v u how

-- ---- where known redirects stop

has_one : (m : finite.FinMap text_cmp Parts) (x : List ℕ) (t : Parts) → finite.get m x ≡ Some t → 1 ≤ finite.len m
has_one m x t e = ⊎_elim
    (λ none. absurd (let at = get-empty {X = Parts} text_cmp x in let gone : finite.get m x ≡ None = ap (λ (z : finite.FinMap text_cmp Parts). finite.get z x) (empty_of_len m none) ∙ at in cc))
    (λ some. omega arith)
    (cases_eq (finite.len m) 0)

one_less : (m : finite.FinMap text_cmp Parts) (x : List ℕ) (t : Parts) → finite.get m x ≡ Some t → finite.len (finite.remove m x) ≡ finite.len m - 1
one_less m x t e = len-remove nat_list_cmp_total m x ∙ ap (λ o. cond (is_some o) (finite.len m - 1) (finite.len m)) e

any_at_end : (y : Parts) (met : List Parts) (t : Parts) → list_any (same_specifier y) (met ++ t ∷ []) ≡ true → (list_any (same_specifier y) met ≡ true) ⊎ (same_specifier y t ≡ true)
any_at_end y [] t h = inr (by (same_specifier y t) h)
  where
    by : (b : Bool) → b || false ≡ true → b ≡ true
    by true h = refl
    by false h = h
any_at_end y (x ∷ met) t h = by (any_at_end y met t) (same_specifier y x) h
  where
    by : (list_any (same_specifier y) (met ++ t ∷ []) ≡ true → (list_any (same_specifier y) met ≡ true) ⊎ (same_specifier y t ≡ true)) → (b : Bool) → b || list_any (same_specifier y) (met ++ t ∷ []) ≡ true → (b || list_any (same_specifier y) met ≡ true) ⊎ (same_specifier y t ≡ true)
    by rest true h = inl refl
    by rest false h = rest h

any_before : (y : Parts) (met : List Parts) (t : Parts) → list_any (same_specifier y) met ≡ true → list_any (same_specifier y) (met ++ t ∷ []) ≡ true
any_before y [] t h = absurd (true≢false (sym h))
any_before y (x ∷ met) t h = by (any_before y met t) (same_specifier y x) h
  where
    by : (list_any (same_specifier y) met ≡ true → list_any (same_specifier y) (met ++ t ∷ []) ≡ true) → (b : Bool) → b || list_any (same_specifier y) met ≡ true → b || list_any (same_specifier y) (met ++ t ∷ []) ≡ true
    by rest true h = refl
    by rest false h = rest h

any_itself : (met : List Parts) (t : Parts) → list_any (same_specifier t) (met ++ t ∷ []) ≡ true
any_itself [] t = ap (λ b. b || false) (same_of_text t t refl)
any_itself (x ∷ met) t = by (same_specifier t x) (any_itself met t)
  where
    by : (b : Bool) → list_any (same_specifier t) (met ++ t ∷ []) ≡ true → b || list_any (same_specifier t) (met ++ t ∷ []) ≡ true
    by true rest = refl
    by false rest = rest

-- of specifiers of one text both are met
any_same : (s t : Parts) (met : List Parts) → specifier_text t ≡ specifier_text s → list_any (same_specifier s) met ≡ true → list_any (same_specifier t) met ≡ true
any_same s t [] same h = h
any_same s t (x ∷ met) same h = by (any_same s t met same) (same_specifier s x) refl h
  where
    by : (list_any (same_specifier s) met ≡ true → list_any (same_specifier t) met ≡ true) → (b : Bool) → same_specifier s x ≡ b → b || list_any (same_specifier s) met ≡ true → same_specifier t x || list_any (same_specifier t) met ≡ true
    by rest true e h = ap (λ b. b || list_any (same_specifier t) met) (same_of_text t x (same ∙ text_of_same s x e))
    by rest false e h = or_right (same_specifier t x) (list_any (same_specifier t) met) (rest h)
      where
        or_right : (a b : Bool) → b ≡ true → a || b ≡ true
        or_right true b e = refl
        or_right false b e = e

module _ (g : ModuleGraph) where
  -- redirects are followed: what was met leads here, and as many more as may be followed are left of what wasn't
  record Following (fuel : ℕ) (met : List Parts) (s : Parts) : Type 0 where
    left : finite.FinMap text_cmp Parts
    few : finite.len left ≤ fuel
    self : list_any (same_specifier s) met ≡ true
    behind : (y : Parts) → list_any (same_specifier y) met ≡ true → Path g (specifier_text y) (specifier_text s)
    here : finite.get left (specifier_text s) ≡ redirect_at g s
    ahead : (y : Parts) → list_any (same_specifier y) met ≡ false → finite.get left (specifier_text y) ≡ redirect_at g y

  following_start : (s : Parts) → Following (finite.len g.redirects) (s ∷ []) s
  following_start s = record {
    left = g.redirects;
    few = omega arith;
    self = any_itself [] s;
    behind = λ y h. ⊎_elim (λ n. absurd (true≢false (sym n))) (λ t. subst (Path g (specifier_text y)) (text_of_same y s t) stay) (any_at_end y [] s h);
    here = refl;
    ahead = λ y h. refl;
  }

  following_on : (fuel : ℕ) (met : List Parts) (s t : Parts) → Following (suc fuel) met s → onward_at g s ≡ Some t → list_any (same_specifier t) met ≡ false → Following fuel (met ++ t ∷ []) t
  following_on fuel met s t f e new = record {
    left = finite.remove f.left (specifier_text s);
    few = omega (arith, f.few, has_one f.left (specifier_text s) t there, one_less f.left (specifier_text s) t there);
    self = any_itself met t;
    behind = λ y h. ⊎_elim
        (λ was. path_join g (f.behind y was) (go parts.0 parts.1 stay))
        (λ same. subst (Path g (specifier_text y)) (text_of_same y t same) stay)
        (any_at_end y met t h);
    here = cut_other f.left (specifier_text s) (specifier_text t) (other t new) ∙ f.ahead t new;
    ahead = λ y h. let f_met = unmet y h in cut_other f.left (specifier_text s) (specifier_text y) (other y f_met) ∙ f.ahead y f_met;
  }
    where
      parts : (has_slot g s ≡ false) × (redirect_at g s ≡ Some t)
      parts = onward_parts g s t e

      there : finite.get f.left (specifier_text s) ≡ Some t
      there = f.here ∙ parts.1

      other : (y : Parts) → list_any (same_specifier y) met ≡ false → specifier_text y ≢ specifier_text s
      other y f_met same = true≢false (sym (any_same s y met same f.self) ∙ f_met)

      unmet : (y : Parts) → list_any (same_specifier y) (met ++ t ∷ []) ≡ false → list_any (same_specifier y) met ≡ false
      unmet y f_met = by (list_any (same_specifier y) met) refl
        where
          by : (b : Bool) → list_any (same_specifier y) met ≡ b → list_any (same_specifier y) met ≡ false
          by true was = absurd (true≢false (sym (any_before y met t was) ∙ f_met))
          by false not_met = not_met

  -- from here a redirect goes round
  abbrev Rounds : Parts → Type 0
  Rounds z = (n : Parts) → has_slot g z ≡ false → redirect_at g z ≡ Some n → Path g (specifier_text n) (specifier_text z)

  rounds : (fuel : ℕ) (met : List Parts) (s : Parts) → Following fuel met s → Rounds (follow g fuel met s)
  rounds zero met s f = subst Rounds (sym (follow_zero g met s)) (λ n free e. absurd (omega (arith, has_one f.left (specifier_text s) n (f.here ∙ e), f.few)))
  rounds (suc fuel) met s f = by_next (λ t f. rounds fuel (met ++ t ∷ []) t f) (onward_at g s) refl
    where
      by_met : (t : Parts) → onward_at g s ≡ Some t → (Following fuel (met ++ t ∷ []) t → Rounds (follow g fuel (met ++ t ∷ []) t)) → (b : Bool) → list_any (same_specifier t) met ≡ b → Rounds (follow g (suc fuel) met s)
      by_met t e next true m = subst Rounds (sym (follow_met g fuel met s t e m)) (λ n free r. let same : t ≡ n = let both = sym (onward_parts g s t e).1 ∙ r in cc in subst (λ (z : Parts). Path g (specifier_text z) (specifier_text s)) same (f.behind t m))
      by_met t e next false m = subst Rounds (sym (follow_new g fuel met s t e m)) (next (following_on fuel met s t f e m))

      by_next : ((t : Parts) → Following fuel (met ++ t ∷ []) t → Rounds (follow g fuel (met ++ t ∷ []) t)) → (o : Option Parts) → onward_at g s ≡ o → Rounds (follow g (suc fuel) met s)
      by_next next None e = subst Rounds (sym (follow_last g (suc fuel) met s e)) (λ n free r. absurd (let both = sym e ∙ onward_free g s free ∙ r in cc))
      by_next next (Some t) e = by_met t e (next t) (list_any (same_specifier t) met) refl

  -- known redirects stop at a slot, where none leads on, or where they go round
  pub led_rounds : (s n : Parts) → has_slot g (redirected_end g s) ≡ false → redirect_at g (redirected_end g s) ≡ Some n → Path g (specifier_text n) (specifier_text (redirected_end g s))
  led_rounds s n free e = rounds (finite.len g.redirects) (s ∷ []) s (following_start s) n free e

-- so they don't stop without a slot at one that is on no circle, and that they lead on from
pub loop_led : (g : ModuleGraph) (s : Parts) → NoLoop g (specifier_text (redirected_end g s)) → stands g (specifier_text (redirected_end g s)) ≡ false → finite.get g.redirects (specifier_text (redirected_end g s)) ≡ None
loop_led g s none free = by (redirect_at g (redirected_end g s)) refl
  where
    by : (o : Option Parts) → redirect_at g (redirected_end g s) ≡ o → redirect_at g (redirected_end g s) ≡ None
    by None e = e
    by (Some n) e = absurd (none n free e (led_rounds g s n free e))
