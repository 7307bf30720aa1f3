-- The order of answers: it is total, and among answers that rise a search by halves finds what is listed.
use Rattle.std.proofs.Common.{◌≡◌, ℕ, zero, suc, ◌+◌, ◌<◌, List, [], ◌∷◌, length, get_or, Bool, true, false, cond, Some, None, Err, Ordering, Less, Equal, Greater, refl, sym, ap, ◌∙◌, arith, ⊎_elim}
use Rattle.std.proofs.lemmas.Bool.{cases_lt}
use Rattle.std.proofs.lemmas.Bool.Decides.{nat_tests}
use Rattle.std.proofs.lemmas.Cmp.{alike_right}
use Rattle.std.proofs.lemmas.List.Sorted.{searchable_from_sorted}
use Rattle.std.proofs.lemmas.Map.Keys.{Less-from_sorted}
use Rattle.std.proofs.lemmas.Map.Text.{is_eq-slice_cmp}
use Rattle.std.specs.Cmp.{IsTotalOrder, then_total, on_total, nat_cmp_total}
use Rattle.std.specs.Cmp.Lexicographic.{nat_list_cmp_total, slice_cmp}
use Rattle.std.specs.List.{AllByRecursion}
use Rattle.std.specs.List.Sorted.{IsStrictlySortedBy, IsSortedBy, IsNonDecreasingBy, IsBinarySearchResult}
use Rattle.std.specs.Ordering.{is_eq, is_lt, nat_cmp, ordering_index, ordering_reverse, ordering_then}
use Rattle.std.specs.Prelude.{◌&&◌, ◌==◌, nat_lt}
use Rattle.url.specs.Parts.{Parts, serialize}
use Rattle.spec_base.specs.Specifier.{same_specifier}
use Rattle.source_io.specs.Answers.{listed_answer, lists_for, purpose_place}
use Rattle.source_io.specs.AnswerOrder.{place_cmp, answer_cmp, AreRising}
use Rattle.source_io.specs.declared.types.Answer.{Answer}
use Rattle.source_io.specs.declared.types.Purpose.{Purpose}

abbrev Entry : Type 0
Entry = Parts × Purpose × Answer

-- where an answer stands
abbrev pub spot_of : Entry → Parts × ℕ
spot_of e = (e.0, purpose_place e.1)

-- the order of places is total
pub place_total : IsTotalOrder place_cmp
place_total = then_total (on_total (λ (p : Parts × ℕ). p.0) (on_total serialize nat_list_cmp_total)) (on_total (λ (p : Parts × ℕ). p.1) nat_cmp_total)

-- and that of answers
pub answer_total : IsTotalOrder answer_cmp
answer_total = on_total spot_of place_total

-- ---- places that are equal

pub then_eq : (a b : Ordering) → is_eq (ordering_then a b) ≡ is_eq a && is_eq b
then_eq Less b = refl
then_eq Equal b = refl
then_eq Greater b = refl

number_eq : (b c : Bool) → is_eq (cond b Less (cond c Equal Greater)) ≡ cond b false c
number_eq true c = refl
number_eq false true = refl
number_eq false false = refl

not_below : (m n : ℕ) → (m == n) ≡ true → nat_lt m n ≡ false
not_below m n e = grind (arith, nat_tests)

pub same_number : (m n : ℕ) → is_eq (nat_cmp m n) ≡ (m == n)
same_number m n = number_eq (nat_lt m n) (m == n) ∙ beside (nat_lt m n) (m == n) (not_below m n)
  where
    beside : (b c : Bool) → (c ≡ true → b ≡ false) → cond b false c ≡ c
    beside true true h = sym (h refl)
    beside true false h = refl
    beside false c h = refl

-- an answer is listed exactly where its place is equal
lists_is : (s : Parts) (p : Purpose) (e : Entry) → lists_for p e s ≡ is_eq (place_cmp (spot_of e) (s, purpose_place p))
lists_is s p e =
    sym (then_eq (slice_cmp nat_cmp (serialize e.0) (serialize s)) (nat_cmp (purpose_place e.1) (purpose_place p))
    ∙ ap (λ b. b && is_eq (nat_cmp (purpose_place e.1) (purpose_place p))) (is_eq-slice_cmp (serialize e.0) (serialize s))
    ∙ ap (λ b. same_specifier e.0 s && b) (same_number (purpose_place e.1) (purpose_place p)))

-- ---- searches

adjacent : (es : List Entry) → AreRising es → IsSortedBy (λ a b. is_lt (place_cmp (spot_of a) (spot_of b))) es
adjacent es up = λ k d low high.
    let below : answer_cmp (get_or es k d) (get_or es (k + 1) d) ≡ Less = Less-from_sorted answer_cmp es k (k + 1) d up (omega arith) high in
    ap is_lt (answer_total.antisymm (get_or es (k + 1) d) (get_or es k d) ∙ ap ordering_reverse below)

searchable : (es : List Entry) (q : Parts × ℕ) → AreRising es → IsNonDecreasingBy (λ e. ordering_index (place_cmp (spot_of e) q)) es
searchable es q up = searchable_from_sorted place_total spot_of es q (adjacent es up)

-- how an answer stands to one of a specifier and a purpose
abbrev pub stands_to : Parts → Purpose → Entry → Ordering
stands_to s p e = place_cmp (spot_of e) (s, purpose_place p)

at_place : (P : Entry → Type 0) (es : List Entry) (i : ℕ) (d : Entry) → AllByRecursion P es → i < length es → P (get_or es i d)
at_place P [] i d all within = absurd (omega arith)
at_place P (e ∷ es) zero d all within = all.0
at_place P (e ∷ es) (suc i) d all within = at_place P es i d all.1 (omega arith)

-- the answer at an equal place is the first listed one
pub found_in_order : (es : List Entry) (s : Parts) (p : Purpose) (i : ℕ) (d : Entry) → AreRising es → i < length es → stands_to s p (get_or es i d) ≡ Equal → listed_answer es s p ≡ Some (get_or es i d).2
unfolding listed_answer IsStrictlySortedBy
found_in_order [] s p i d up within equal = absurd (omega arith)
found_in_order (e ∷ es) s p zero d up within equal = ap (λ b. cond b (Some e.2) (listed_answer es s p)) (lists_is s p e ∙ ap is_eq equal)
found_in_order (e ∷ es) s p (suc i) d up within equal =
    let less : place_cmp (spot_of e) (spot_of (get_or es i d)) ≡ Less = at_place (λ y. answer_cmp e y ≡ Less) es i d up.0 (omega arith) in
    let below : stands_to s p e ≡ Less = sym (alike_right place_total (spot_of (get_or es i d)) (s, purpose_place p) (spot_of e) equal) ∙ less in
    ap (λ b. cond b (Some e.2) (listed_answer es s p)) (lists_is s p e ∙ ap is_eq below) ∙ found_in_order es s p i d up.1 (omega arith) equal

none_listed : (es : List Entry) (s : Parts) (p : Purpose) → ((k : ℕ) (d : Entry) → k < length es → lists_for p (get_or es k d) s ≡ false) → listed_answer es s p ≡ None
unfolding listed_answer
none_listed [] s p none = refl
none_listed (e ∷ es) s p none =
    ap (λ b. cond b (Some e.2) (listed_answer es s p)) (none 0 e (omega arith)) ∙ none_listed es s p (λ k d within. none (suc k) d (omega arith))

-- where no place is equal, none is listed
pub none_in_order : (es : List Entry) (s : Parts) (p : Purpose) (i : ℕ) → AreRising es → IsBinarySearchResult (stands_to s p) es (Err i) → listed_answer es s p ≡ None
none_in_order es s p i up found =
    let parts = found (searchable es (s, purpose_place p) up) in
    none_listed es s p (λ k d within. ⊎_elim
    (λ below. lists_is s p (get_or es k d) ∙ ap is_eq (parts.0 k d (omega arith) below))
    (λ above. lists_is s p (get_or es k d) ∙ ap is_eq (parts.1 k d above within))
    (cases_lt k i))
