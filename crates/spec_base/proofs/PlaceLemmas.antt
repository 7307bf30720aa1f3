-- An index from specifiers to places, as elements are added at the end.
use Rattle.std.proofs.Common.{◌≡◌, ℕ, ◌+◌, Bool, true, false, cond, List, [], ◌∷◌, ◌++◌, length, Option, None, Some, refl, sym, ap, ◌∙◌, subst, ⊎_elim, arith, append_assoc, length-append, ◌<◌, take, get_or}
use Rattle.std.proofs.lemmas.List.{take_more, length-take-le}
use Rattle.std.proofs.lemmas.Bool.{cases_Bool}
use Rattle.std.proofs.lemmas.Map.Text.{is_eq-slice_cmp}
use Rattle.std.specs.Prelude.{bytes_eq}
use Rattle.std.specs.Option.{option_or}
use Rattle.std.specs.List.{position_from, slice_get, find}
use Rattle.std.proofs.lemmas.Option.{slice_get-get_or}
use Rattle.std.proofs.Math.Seq.{get_or-append_seam}
use Rattle.spec_base.specs.Options.{then_by}
use Rattle.std.specs.Cmp.Lexicographic.{nat_list_cmp_total, nat_list_eq_equiv}
use Rattle.std.proofs.lemmas.Slice.Eq.{bytes_eq-Decides}
use Rattle.std.specs.FinMap as finite
use Rattle.std.specs.FinMap.{FinMap, get-insert, get-empty}
use Rattle.url.specs.Parts.{Parts}
use Rattle.spec_base.specs.Shown.{text_cmp}
use Rattle.spec_base.specs.Specifier.{same_specifier, specifier_text}
use Rattle.spec_base.specs.Places.{with_first, first_place, IsIndex}

or_none : {A : Type 0} (o : Option A) → option_or o None ≡ o
or_none None = refl
or_none (Some x) = refl

put_at : {V : Type 0} (m : FinMap text_cmp V) (k : List ℕ) (v : V) (q : List ℕ) → finite.get (finite.insert m k v) q ≡ cond (bytes_eq q k) (Some v) (finite.get m q)
put_at m k v q =
    get-insert nat_list_cmp_total m k v q ∙ ap (λ b. cond b (Some v) (finite.get m q)) (is_eq-slice_cmp q k)

same_text : (k q : List ℕ) → bytes_eq k q ≡ true → k ≡ q
same_text k q e = (bytes_eq-Decides k q).0 e

own_text : (q : List ℕ) → bytes_eq q q ≡ true
own_text q = nat_list_eq_equiv.refl q

other_text : (k q : List ℕ) → bytes_eq k q ≡ false → bytes_eq q k ≡ false
other_text k q e = ⊎_elim (λ t. let back = own_text k in let at : bytes_eq k q ≡ true = subst (λ z. bytes_eq k z ≡ true) (sym (same_text q k t)) back in cc) (λ f. f) (cases_Bool (bytes_eq q k))

-- where a value stands at the key
kept_at : {V : Type 0} (m : FinMap text_cmp V) (k : List ℕ) (v x : V) (q : List ℕ) → finite.get m k ≡ Some x → finite.get m q ≡ option_or (finite.get m q) (cond (bytes_eq k q) (Some v) None)
kept_at m k v x q e = ⊎_elim
    (λ t. let at : finite.get m q ≡ Some x = subst (λ z. finite.get m z ≡ Some x) (same_text k q t) e in rw at refl)
    (λ f. sym (ap (λ b. option_or (finite.get m q) (cond b (Some v) None)) f ∙ or_none (finite.get m q)))
    (cases_Bool (bytes_eq k q))

-- where none stands there
added_at : {V : Type 0} (m : FinMap text_cmp V) (k : List ℕ) (v : V) (q : List ℕ) → finite.get m k ≡ None → finite.get (finite.insert m k v) q ≡ option_or (finite.get m q) (cond (bytes_eq k q) (Some v) None)
added_at m k v q e = put_at m k v q ∙ ⊎_elim
    (λ t. let back : bytes_eq q k ≡ true = subst (λ z. bytes_eq z k ≡ true) (same_text k q t) (own_text k) in let at : finite.get m q ≡ None = subst (λ z. finite.get m z ≡ None) (same_text k q t) e in rw (back, at, t) refl)
    (λ f. ap (λ b. cond b (Some v) (finite.get m q)) (other_text k q f) ∙ sym (ap (λ b. option_or (finite.get m q) (cond b (Some v) None)) f ∙ or_none (finite.get m q)))
    (cases_Bool (bytes_eq k q))

by_first : {V : Type 0} (o : Option V) (m : FinMap text_cmp V) (k : List ℕ) (v : V) (q : List ℕ) → finite.get m k ≡ o → finite.get (with_first m k v) q ≡ option_or (finite.get m q) (cond (bytes_eq k q) (Some v) None)
by_first None m k v q e = rw e (added_at m k v q e)
by_first (Some x) m k v q e = rw e (kept_at m k v x q e)

-- the first value stays
pub get-with_first : {V : Type 0} (m : FinMap text_cmp V) (k : List ℕ) (v : V) (q : List ℕ) → finite.get (with_first m k v) q ≡ option_or (finite.get m q) (cond (bytes_eq k q) (Some v) None)
get-with_first m k v q = by_first (finite.get m k) m k v q refl

past_first : (b : Bool) (i : ℕ) (rest last : Option ℕ) → cond b (Some i) (option_or rest last) ≡ option_or (cond b (Some i) rest) last
past_first true i rest last = refl
past_first false i rest last = refl

-- the place in a list with one more element
place_last : {T : Type 0} (t : T → Bool) (i : ℕ) (xs : List T) (x : T) → position_from t i (xs ++ x ∷ []) ≡ option_or (position_from t i xs) (cond (t x) (Some (i + length xs)) None)
place_last t i [] x = ap (λ n. cond (t x) (Some n) None) (omega arith)
place_last t i (y ∷ xs) x =
    let n : i + 1 + length xs ≡ i + length (y ∷ xs) = omega arith in
    ap (cond (t y) (Some i)) (place_last t (i + 1) xs x ∙ ap (λ k. option_or (position_from t (i + 1) xs) (cond (t x) (Some k) None)) n)
    ∙ past_first (t y) i _ _

-- the index of no element
pub index_none : {T : Type 0} (is_for : T → Parts → Bool) → IsIndex is_for [] finite.empty
index_none is_for = record { leads = λ s. get-empty _ _ }

-- one more element that is listed for no specifier
pub index_passed : {T : Type 0} (is_for : T → Parts → Bool) (items : List T) (x : T) (places : FinMap text_cmp ℕ) → IsIndex is_for items places → ((s : Parts) → is_for x s ≡ false) → IsIndex is_for (items ++ x ∷ []) places
index_passed is_for items x places old none = record { leads = λ s. old.leads s ∙ sym (place_last (λ item. is_for item s) 0 items x ∙ rw (none s) (or_none _)) }

-- one more element that is listed for a specifier
pub index_noted : {T : Type 0} (is_for : T → Parts → Bool) (items : List T) (x : T) (k : Parts) (places : FinMap text_cmp ℕ) → IsIndex is_for items places → ((s : Parts) → is_for x s ≡ same_specifier k s) → IsIndex is_for (items ++ x ∷ []) (with_first places (specifier_text k) (length items))
unfolding specifier_text
index_noted is_for items x k places old at = record { leads = λ s. get-with_first places (specifier_text k) (length items) (specifier_text s) ∙ rw (old.leads s, ← at s) (let n : 0 + length items ≡ length items = omega arith in ap (λ m. option_or (first_place is_for items s) (cond (is_for x s) (Some m) None)) (sym n) ∙ sym (place_last (λ item. is_for item s) 0 items x)) }

-- the element at a place is listed for no specifier
pub index_passed_at : {T : Type 0} (is_for : T → Parts → Bool) (items : List T) (i : ℕ) (d : T) (places : FinMap text_cmp ℕ) → i < length items → ((s : Parts) → is_for (get_or items i d) s ≡ false) → IsIndex is_for (take i items) places → IsIndex is_for (take (i + 1) items) places
index_passed_at is_for items i d places within none old =
    subst (λ l. IsIndex is_for l places) (sym (take_more items i d within)) (index_passed is_for (take i items) (get_or items i d) places old none)

-- the element at a place is listed for a specifier
pub index_noted_at : {T : Type 0} (is_for : T → Parts → Bool) (items : List T) (i : ℕ) (d : T) (k : Parts) (places : FinMap text_cmp ℕ) → i < length items → ((s : Parts) → is_for (get_or items i d) s ≡ same_specifier k s) → IsIndex is_for (take i items) places → IsIndex is_for (take (i + 1) items) (with_first places (specifier_text k) i)
index_noted_at is_for items i d k places within at old =
    let n : length (take i items) ≡ i = length-take-le i items (omega arith) in
    subst (λ l. IsIndex is_for l (with_first places (specifier_text k) i)) (sym (take_more items i d within))
    (subst (λ j. IsIndex is_for (take i items ++ get_or items i d ∷ []) (with_first places (specifier_text k) j)) n (index_noted is_for (take i items) (get_or items i d) k places old at))

-- the element at the place where a list goes on
seam : {T : Type 0} (front : List T) (x : T) (xs : List T) → slice_get (front ++ x ∷ xs) (length front) ≡ Some x
seam front x xs = slice_get-get_or (front ++ x ∷ xs) (length front) x (omega (arith, length-append front (x ∷ xs))) ∙ ap Some (get_or-append_seam front x xs x)

found_from : {T : Type 0} (t : T → Bool) (front xs : List T) → then_by (position_from t (length front) xs) (slice_get (front ++ xs)) ≡ find t xs
found_from t front [] = refl
found_from {T = T} t front (x ∷ xs) =
    let n : length (front ++ x ∷ []) ≡ length front + 1 = length-append front (x ∷ []) in
    let later : then_by (position_from t (length front + 1) xs) (slice_get (front ++ x ∷ xs)) ≡ find t xs =
    subst (λ (l : List T). then_by (position_from t (length front + 1) xs) (slice_get l) ≡ find t xs) (append_assoc front (x ∷ []) xs)
    (subst (λ k. then_by (position_from t k xs) (slice_get ((front ++ x ∷ []) ++ xs)) ≡ find t xs) n (found_from t (front ++ x ∷ []) xs)) in
    ⊎_elim
    (λ b. ap (λ c. then_by (cond c (Some (length front)) (position_from t (length front + 1) xs)) (slice_get (front ++ x ∷ xs))) b ∙ seam front x xs ∙ sym (ap (λ c. cond c (Some x) (find t xs)) b))
    (λ b. ap (λ c. then_by (cond c (Some (length front)) (position_from t (length front + 1) xs)) (slice_get (front ++ x ∷ xs))) b ∙ later ∙ sym (ap (λ c. cond c (Some x) (find t xs)) b))
    (cases_Bool (t x))

-- the element at the first place is the first that is found
pub found_first : {T : Type 0} (t : T → Bool) (xs : List T) → then_by (position_from t 0 xs) (slice_get xs) ≡ find t xs
found_first t xs = found_from t [] xs
