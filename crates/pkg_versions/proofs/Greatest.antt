-- The greatest version of a list, found one version after another.
use Rattle.std.proofs.Common.{◌≡◌, Bool, true, false, not, ◌&&◌, ◌||◌, List, [], ◌∷◌, ◌++◌, Option, Some, None, refl, sym, ap, ◌∙◌}
use Rattle.std.specs.List.{find, list_all, list_any}
use Rattle.std.specs.Cmp.{tied_itself, upto}
use Rattle.std.specs.Ordering.{is_eq, is_gt, is_lt, eq_by_cmp, ordering_reverse}
use Rattle.std.specs.declared.cmp.Ordering.{Ordering}
use Rattle.std.specs.declared.cmp.Ordering.TheVariants.{Less, Equal, Greater}
use Rattle.semver_npm.specs.OrderLaws.{same_ver, ver-anti, ver_total}
use Rattle.semver_npm.specs.Versions.{Ver, ver_cmp}
use Rattle.pkg_versions.specs.Choice.{greatest}
use Rattle.pkg_versions.specs.Greater.{greater, greatest_after}

-- a version isn't above another one
abbrev under : Ver → Ver → Bool
under v w = not (is_gt (ver_cmp v w))

abbrev same : Ver → Ver → Bool
same = eq_by_cmp ver_cmp

not_gt : (r : Ordering) → not (is_gt r) ≡ true → is_gt r ≡ false
not_gt Less e = refl
not_gt Equal e = refl
not_gt Greater e = cc e

gt_not : (b : Bool) → b ≡ false → not b ≡ true
gt_not b e = ap not e

under_refl : (v : Ver) → under v v ≡ true
under_refl v = ap (λ r. not (is_gt r)) (tied_itself ver_total v)

under_trans : (u v w : Ver) → under u v ≡ true → under v w ≡ true → under u w ≡ true
under_trans u v w h k = gt_not _ (upto ver_total u v w (not_gt _ h) (not_gt _ k))

both_under : (r : Ordering) → not (is_gt r) ≡ true → not (is_gt (ordering_reverse r)) ≡ true → r ≡ Equal
both_under Less h k = cc k
both_under Equal h k = refl
both_under Greater h k = cc h

-- versions that are under one another are one
under_anti : (v w : Ver) → under v w ≡ true → under w v ≡ true → v ≡ w
under_anti v w h k = ver-anti v w (both_under (ver_cmp v w) h (ap (λ r. not (is_gt r)) (sym (ver_total.antisymm w v)) ∙ k))

lt_under : (r : Ordering) → is_lt r ≡ true → not (is_gt r) ≡ true
lt_under Less h = refl
lt_under Equal h = cc h
lt_under Greater h = cc h

not_lt_under : (r : Ordering) → is_lt r ≡ false → not (is_gt (ordering_reverse r)) ≡ true
not_lt_under Less h = cc h
not_lt_under Equal h = refl
not_lt_under Greater h = refl

same_refl : (v : Ver) → same v v ≡ true
same_refl v = ap is_eq (tied_itself ver_total v)

first_true : (a b : Bool) → (a && b) ≡ true → a ≡ true
first_true true b h = refl
first_true false b h = cc h

second_true : (a b : Bool) → (a && b) ≡ true → b ≡ true
second_true true b h = h
second_true false b h = cc h

and_true : (a b : Bool) → a ≡ true → b ≡ true → (a && b) ≡ true
and_true a b h k = ap (λ x. x && b) h ∙ k

or_first : (a b : Bool) → a ≡ true → (a || b) ≡ true
or_first a b h = ap (λ x. x || b) h

or_second : (a b : Bool) → b ≡ true → (a || b) ≡ true
or_second true b h = refl
or_second false b h = h

each_step : (p : Ver → Bool) (t v : Ver) (vs : List Ver) (b : Bool) → same t v ≡ b → list_all p (v ∷ vs) ≡ true → (b || list_any (same t) vs) ≡ true
    → (list_all p vs ≡ true → list_any (same t) vs ≡ true → p t ≡ true) → p t ≡ true
each_step p t v vs true e h k later = ap p (same_ver t v e) ∙ first_true (p v) (list_all p vs) h
each_step p t v vs false e h k later = later (second_true (p v) (list_all p vs) h) k

-- what holds of each version holds of a version among them
each : (p : Ver → Bool) (t : Ver) (vs : List Ver) → list_all p vs ≡ true → list_any (same t) vs ≡ true → p t ≡ true
each p t [] h k = cc k
each p t (v ∷ vs) h k = each_step p t v vs (same t v) refl h k (each p t vs)

-- a version of the list that none of it is above
record IsTop (t : Ver) (vs : List Ver) : Type 0 where
  above : list_all (λ w. under w t) vs ≡ true
  among : list_any (same t) vs ≡ true

not_first : (p : Ver → Bool) (t u : Ver) (us : List Ver) (b : Bool) → same t u ≡ b → p u ≡ false → p t ≡ true → (b || list_any (same t) us) ≡ true → list_any (same t) us ≡ true
not_first p t u us true s e h k = cc (sym e ∙ ap p (sym (same_ver t u s)) ∙ h)
not_first p t u us false s e h k = k

-- t is the only one of some versions that passes a test
abbrev Only : (Ver → Bool) → Ver → List Ver → Type 0
Only p t us = (u : Ver) → list_any (same u) us ≡ true → p u ≡ true → u ≡ t

found_step : (p : Ver → Bool) (t u : Ver) (us : List Ver) (b : Bool) → p u ≡ b → p t ≡ true → list_any (same t) (u ∷ us) ≡ true
    → Only p t (u ∷ us) → (list_any (same t) us ≡ true → Only p t us → find p us ≡ Some t) → find p (u ∷ us) ≡ Some t
found_step p t u us true e h k only later = rw e (ap Some (only u (or_first (same u u) (list_any (same u) us) (same_refl u)) e))
found_step p t u us false e h k only later =
    rw e (later (not_first p t u us (same t u) refl e h k) (λ w m. only w (or_second (same w u) (list_any (same w) us) m)))

-- the version that passes a test, where it is the only one that does
found : (p : Ver → Bool) (t : Ver) (us : List Ver) → p t ≡ true → list_any (same t) us ≡ true → Only p t us → find p us ≡ Some t
found p t [] h k only = cc k
found p t (u ∷ us) h k only = found_step p t u us (p u) refl h k only (found p t us h)

-- it is the greatest
top_found : (t : Ver) (vs : List Ver) → IsTop t vs → greatest vs ≡ Some t
top_found t vs top =
    found (λ v. list_all (λ w. under w v) vs) t vs top.above top.among
    (λ u m passes. under_anti u t (each (λ w. under w t) u vs top.above m) (each (λ w. under w u) t vs passes top.among))

kept : (a b c : Bool) → (a || c) ≡ true → (a || (b || c)) ≡ true
kept true b c h = refl
kept false b c h = or_second b c h

-- the version that is found after another one
record Found (best : Ver) (vs : List Ver) : Type 0 where
  top : Ver
  is : greatest_after (Some best) vs ≡ Some top
  is_top : IsTop top (best ∷ vs)

after_step : (best v : Ver) (vs : List Ver) (b : Bool) → is_lt (ver_cmp v best) ≡ b → Found best vs → Found v vs → Found best (v ∷ vs)
unfolding greatest_after
after_step best v vs true e r q =
    let best_under : under best r.top ≡ true = first_true _ _ r.is_top.above in
    let rest : list_all (λ w. under w r.top) vs ≡ true = second_true _ _ r.is_top.above in
    let v_under : under v r.top ≡ true = under_trans v best r.top (lt_under _ e) best_under in
    record {
      top = r.top;
      is = rw e r.is;
      is_top = record { above = and_true _ _ best_under (and_true _ _ v_under rest); among = kept (same r.top best) (same r.top v) _ r.is_top.among };
    }
after_step best v vs false e r q =
    let v_under : under v q.top ≡ true = first_true _ _ q.is_top.above in
    let under_v : under best v ≡ true = ap (λ o. not (is_gt o)) (ver_total.antisymm best v) ∙ not_lt_under (ver_cmp v best) e in
    record {
      top = q.top;
      is = rw e q.is;
      is_top = record { above = and_true _ _ (under_trans best v q.top under_v v_under) q.is_top.above; among = or_second _ _ q.is_top.among };
    }

after : (best : Ver) (vs : List Ver) → Found best vs
unfolding greatest_after
after best [] = record { top = best; is = refl; is_top = record { above = and_true _ _ (under_refl best) refl; among = or_first _ _ (same_refl best) } }
after best (v ∷ vs) = after_step best v vs (is_lt (ver_cmp v best)) refl (after best vs) (after v vs)

-- the versions one after another lead to the greatest
pub greatest_after_all : (vs : List Ver) → greatest_after None vs ≡ greatest vs
unfolding greatest_after
greatest_after_all [] = refl
greatest_after_all (v ∷ vs) = let r = after v vs in r.is ∙ sym (top_found r.top (v ∷ vs) r.is_top)

-- one more version
pub greatest_after_more : (best : Option Ver) (vs : List Ver) (v : Ver) → greatest_after best (vs ++ v ∷ []) ≡ greater (greatest_after best vs) v
unfolding greatest_after
greatest_after_more best [] v = refl
greatest_after_more best (w ∷ vs) v = greatest_after_more (greater best w) vs v
