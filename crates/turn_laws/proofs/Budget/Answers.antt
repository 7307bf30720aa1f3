-- Answers that are kept: the one that comes, those that stood, and others.
use Rattle.std.proofs.Common.{◌≡◌, Bool, true, false, cond, if◌then◌else◌, Some, is_some, refl, sym, ap, ◌∙◌}
use Rattle.std.specs.Cmp.{Equal-is, IsTotalOrder, eq_by_cmp_equiv}
use Rattle.std.specs.FinMap as finite
use Rattle.std.specs.FinMap.{IsAntisymmetric, get-insert}
use Rattle.std.specs.Ordering.{eq_by_cmp}
use Rattle.std.specs.declared.cmp.Ordering.{Ordering}
use Rattle.metadata_store.specs.Store.{with_answer}

module _ {K V : Type 0} {R : K → K → Ordering} (total : IsTotalOrder R) (answers : finite.FinMap R V) (k : K) (v : V) where
  -- an answer stands once it is kept
  pub answer_here : finite.contains_key (with_answer answers k v) k ≡ true
  answer_here = by (finite.contains_key answers k) refl
    where
      by : (b : Bool) → finite.contains_key answers k ≡ b → finite.contains_key (if b then answers else finite.insert answers k v) k ≡ true
      by true t = t
      by false f = ap is_some (get-insert total answers k v k) ∙ ap (λ b. is_some (cond b (Some v) (finite.get answers k))) ((eq_by_cmp_equiv total).refl k)

  -- where one stood, one stands
  pub answer_still : (q : K) → finite.contains_key answers q ≡ true → finite.contains_key (with_answer answers k v) q ≡ true
  answer_still q h = by (finite.contains_key answers k)
    where
      by_key : (b : Bool) → is_some (cond b (Some v) (finite.get answers q)) ≡ true
      by_key true = refl
      by_key false = h

      by : (b : Bool) → finite.contains_key (if b then answers else finite.insert answers k v) q ≡ true
      by true = h
      by false = ap is_some (get-insert total answers k v q) ∙ by_key (eq_by_cmp R q k)

  -- one at another key stood before
  pub answer_other : IsAntisymmetric R → (q : K) → (q ≡ k → ⊥) → finite.contains_key (with_answer answers k v) q ≡ true → finite.contains_key answers q ≡ true
  answer_other exact q apart h = by (finite.contains_key answers k) h
    where
      by_key : (b : Bool) → eq_by_cmp R q k ≡ b → is_some (cond b (Some v) (finite.get answers q)) ≡ true → finite.contains_key answers q ≡ true
      by_key true t x = absurd (apart (exact q k ((Equal-is (R q k)).0 t)))
      by_key false f x = x

      by : (b : Bool) → finite.contains_key (if b then answers else finite.insert answers k v) q ≡ true → finite.contains_key answers q ≡ true
      by true x = x
      by false x = by_key (eq_by_cmp R q k) refl (sym (ap is_some (get-insert total answers k v q)) ∙ x)
