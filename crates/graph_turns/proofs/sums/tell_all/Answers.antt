use Rattle.std.proofs.Common.{◌≡◌, ℕ, Bool, true, false, cond, List, ◌∷◌, Option, None, Some, is_some, refl, sym, ap, ◌∙◌, subst}
use Rattle.std.specs.Option.{option_or}
use Rattle.std.specs.Ordering.{eq_by_cmp}
use Rattle.std.specs.Cmp.Lexicographic.{nat_list_cmp_total}
use Rattle.std.specs.FinMap as finite
use Rattle.std.specs.FinMap.{find, get-entries, get-insert}
use Rattle.std.proofs.lemmas.Bool.{true≢false}
use Rattle.std.proofs.lemmas.Map.Text.{is_eq-slice_cmp}
use Rattle.std.proofs.lemmas.Slice.Eq.{bytes_eq-Decides}
use Rattle.spec_base.specs.Shown.{text_cmp}
use Rattle.spec_base.specs.Specifier.{by_text, specifier_text}
use Rattle.source_sums.specs.Sums.{KnownSums}
use Rattle.graph_turns.proofs.sums.tell_all.Goals as goal

-- ---- one text, where a sum is told at it or at another

told : (b : Bool) (v : List ℕ) (at left : Option (List ℕ)) → (b ≡ true → at ≡ None) → option_or (cond b (Some v) at) left ≡ option_or at (cond b (Some v) left)
told true v at left none = sym (ap (λ o. option_or o (Some v)) (none refl))
told false v at left none = refl

-- it was known there
passed : (b : Bool) (v : List ℕ) (at left : Option (List ℕ)) → (b ≡ true → is_some at ≡ true) → option_or at left ≡ option_or at (cond b (Some v) left)
passed true v None left known = absurd (true≢false (sym (known refl)))
passed true v (Some x) left known = refl
passed false v at left known = refl

stays : (b : Bool) (v : List ℕ) (at : Option (List ℕ)) (sum : List ℕ) → (b ≡ true → at ≡ None) → at ≡ Some sum → cond b (Some v) at ≡ Some sum
stays true v at sum none e = absurd (let wrong : None ≡ Some sum = sym (none refl) ∙ e in cc)
stays false v at sum none e = e

none_of : (o : Option (List ℕ)) → is_some o ≡ false → o ≡ None
none_of None e = refl
none_of (Some x) e = absurd (true≢false e)

same_text : (k t : List ℕ) → eq_by_cmp text_cmp k t ≡ true → t ≡ k
same_text k t e = sym ((bytes_eq-Decides k t).0 (sym (is_eq-slice_cmp k t) ∙ e))

-- ---- the first of what is left

module _ (knows : KnownSums) (t v : List ℕ) where
  none_there : finite.contains_key knows t ≡ false → (k : List ℕ) → eq_by_cmp text_cmp k t ≡ true → finite.get knows k ≡ None
  none_there none k e = subst (λ z. finite.get knows z ≡ None) (same_text k t e) (none_of (finite.get knows t) none)

  one_told : (left : List (List ℕ × List ℕ)) (k : List ℕ) → finite.contains_key knows t ≡ false → option_or (finite.get (finite.insert knows t v) k) (find text_cmp k left) ≡ option_or (finite.get knows k) (find text_cmp k ((t, v) ∷ left))
  one_told left k none =
      ap (λ o. option_or o (find text_cmp k left)) (get-insert nat_list_cmp_total knows t v k)
      ∙ told (eq_by_cmp text_cmp k t) v (finite.get knows k) (find text_cmp k left) (none_there none k)

  one_passed : (left : List (List ℕ × List ℕ)) (k : List ℕ) → finite.contains_key knows t ≡ true → option_or (finite.get knows k) (find text_cmp k left) ≡ option_or (finite.get knows k) (find text_cmp k ((t, v) ∷ left))
  one_passed left k known =
      passed (eq_by_cmp text_cmp k t) v (finite.get knows k) (find text_cmp k left) (λ e. subst (λ z. finite.contains_key knows z ≡ true) (same_text k t e) known)

  still : (k sum : List ℕ) → finite.contains_key knows t ≡ false → finite.get knows k ≡ Some sum → finite.get (finite.insert knows t v) k ≡ Some sum
  still k sum none e =
      get-insert nat_list_cmp_total knows t v k ∙ stays (eq_by_cmp text_cmp k t) v (finite.get knows k) sum (none_there none k) e

pub loop-specifier-init : goal.loop-specifier-init
loop-specifier-init g c = record {
  kept = λ k sum e. e;
  taught = λ k. ap (option_or (finite.get (g.L.Locker.remote c.args.locker.now) k))
      (ap (λ es. find text_cmp k (by_text es)) (c.into_iter-specifier-iterator.ensures.into_iter_gives ∙ c.iter-specifier-items.ensures.rest) ∙ ap (find text_cmp k) c.as_map.ensures ∙ sym (get-entries c.args.sums.now k));
  others = refl;
}

pub loop-specifier-preserved-in-Continue-branch-2 :
    goal.loop-specifier-preserved-in-Continue-branch-2
loop-specifier-preserved-in-Continue-branch-2 g c =
    let inv = c.loop-specifier.invariant in
    let knows = g.L.Locker.remote c.loop-specifier.locker in
    let t = specifier_text c.in-Some.specifier.now in
    let v = c.in-Some.sum.now in
    let none : finite.contains_key knows t ≡ false = sym c.has_remote_checksum.ensures ∙ c.if-not-has_remote_checksum.true in
    let new : g.L.Locker.remote c.set_remote_checksum.new.self ≡ finite.insert knows t v = c.in_ok-set_remote_checksum.ensures.ok ∙ ap (finite.insert knows t) c.in_ok-sum.ensures in
    record {
      kept = λ k sum e. ap (λ (m : KnownSums). finite.get m k) new ∙ still knows t v k sum none (inv.kept k sum e);
      taught = λ k. ap (λ (m : KnownSums). option_or (finite.get m k) (find text_cmp k (by_text c.next.new.self))) new
          ∙ one_told knows t v (by_text c.next.new.self) k none
          ∙ sym (ap (λ es. option_or (finite.get knows k) (find text_cmp k (by_text es))) c.in-Some.ensures.steps)
          ∙ inv.taught k;
      others = c.set_remote_checksum.ensures.others ∙ inv.others;
    }

pub loop-specifier-preserved : goal.loop-specifier-preserved
loop-specifier-preserved g c =
    let inv = c.loop-specifier.invariant in
    let knows = g.L.Locker.remote c.loop-specifier.locker in
    let t = specifier_text c.in-Some.specifier.now in
    let known : finite.contains_key knows t ≡ true = sym c.has_remote_checksum.ensures ∙ c.if-not-has_remote_checksum.false in
    record {
      kept = inv.kept;
      taught = λ k. one_passed knows t c.in-Some.sum.now (by_text c.next.new.self) k known
          ∙ sym (ap (λ es. option_or (finite.get knows k) (find text_cmp k (by_text es))) c.in-Some.ensures.steps)
          ∙ inv.taught k;
      others = inv.others;
    }
