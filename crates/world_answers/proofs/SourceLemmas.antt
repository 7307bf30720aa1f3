-- The answers of sources where those under Use and under Reload stand together: in order they are those of all sources.
use Rattle.std.proofs.Common.{◌≡◌, ℕ, ◌<◌, List, [], ◌∷◌, ◌++◌, Bool, true, false, true≢false, cond, Option, Some, None, Ordering, Less, Equal, Greater, refl, sym, ap, ◌∙◌, arith}
use Rattle.std.proofs.lemmas.Bool.Decides.{nat_tests}
use Rattle.std.proofs.lemmas.List.Folds.{find-append}
use Rattle.std.specs.Cmp.Lexicographic.{slice_cmp}
use Rattle.std.specs.List.{find}
use Rattle.std.specs.Option.{option_or}
use Rattle.std.specs.Ordering.{nat_cmp, ordering_then, is_eq}
use Rattle.std.specs.Prelude.{is_some}
use Rattle.url.specs.Parts.{Parts, serialize}
use Rattle.source_io.specs.Answers.{ensured, purpose_place}
use Rattle.source_io.specs.declared.types.Answer.{Answer}
use Rattle.source_io.specs.declared.types.CacheSetting.TheVariants.{Use, Reload}
use Rattle.source_io.specs.declared.types.Purpose.{Purpose}
use Rattle.source_io.specs.declared.types.Purpose.TheVariants.{LoadUse, EnsureUse, LoadReload, EnsureReload}
use Rattle.world_answers.specs.AnswerOrder.{ordered}
use Rattle.world_answers.specs.WorldSources.{answer_of_source, answers_under, answers_under_both, answers_cached, answers_of}
use Rattle.world_answers.specs.declared.world_sources.Source.{Source}
use Rattle.world_answers.proofs.OrderLemmas.{is_there, same_ordered}

-- ---- at which places answers are

fails_then : (a r : Ordering) → is_eq r ≡ false → is_eq (ordering_then a r) ≡ false
fails_then Less r e = refl
fails_then Equal r e = e
fails_then Greater r e = refl

holds_then : (a r : Ordering) → is_eq (ordering_then a r) ≡ true → is_eq r ≡ true
holds_then Less r e = absurd (true≢false (sym e))
holds_then Equal r e = e
holds_then Greater r e = absurd (true≢false (sym e))

other_number : (m n k : ℕ) → k < n → is_eq (nat_cmp m n) ≡ true → is_eq (nat_cmp m k) ≡ false
other_number m n k less e = grind (arith, nat_tests)

there_place : (q : Parts × ℕ) (e : Parts × Purpose × Answer) → is_there q e ≡ true → is_eq (nat_cmp q.1 (purpose_place e.1)) ≡ true
unfolding is_there
there_place q e is = holds_then (slice_cmp nat_cmp (serialize q.0) (serialize e.0)) (nat_cmp q.1 (purpose_place e.1)) is

not_there : (q : Parts × ℕ) (e : Parts × Purpose × Answer) → is_eq (nat_cmp q.1 (purpose_place e.1)) ≡ false → is_there q e ≡ false
unfolding is_there
not_there q e is = fails_then (slice_cmp nat_cmp (serialize q.0) (serialize e.0)) (nat_cmp q.1 (purpose_place e.1)) is

-- the answers of a source
abbrev answer_at : Purpose → Parts × Source → Parts × Purpose × Answer
answer_at purpose e = (e.0, purpose, answer_of_source e.0 e.1)

abbrev at_hand : Purpose → Parts × Source → Parts × Purpose × Answer
at_hand purpose e = (e.0, purpose, ensured (answer_of_source e.0 e.1))

not_first : {X : Type 0} (p : X → Bool) (x : X) (xs : List X) → p x ≡ false → find p xs ≡ None → find p (x ∷ xs) ≡ None
not_first p x xs e none = ap (λ b. cond b (Some x) (find p xs)) e ∙ none

-- at the place of a purpose under Reload is none under Use
none_used : (q : Parts × ℕ) (n : ℕ) (sources : List (Parts × Source)) → 1 < n → is_eq (nat_cmp q.1 n) ≡ true → find (is_there q) (answers_under Use sources) ≡ None
none_used q n [] more is = refl
none_used q n (e ∷ sources) more is =
    not_first (is_there q) (answer_at LoadUse e) (at_hand EnsureUse e ∷ answers_under Use sources) (not_there q (answer_at LoadUse e) (other_number q.1 n 0 (omega arith) is))
    (not_first (is_there q) (at_hand EnsureUse e) (answers_under Use sources) (not_there q (at_hand EnsureUse e) (other_number q.1 n 1 more is)) (none_used q n sources more is))

none_at_load : (q : Parts × ℕ) (e : Parts × Source) (sources : List (Parts × Source)) → is_there q (answer_at LoadReload e) ≡ true → find (is_there q) (answers_under Use sources) ≡ None
none_at_load q e sources is = none_used q 2 sources (omega arith) (there_place q (answer_at LoadReload e) is)

none_at_hand : (q : Parts × ℕ) (e : Parts × Source) (sources : List (Parts × Source)) → is_there q (at_hand EnsureReload e) ≡ true → find (is_there q) (answers_under Use sources) ≡ None
none_at_hand q e sources is = none_used q 3 sources (omega arith) (there_place q (at_hand EnsureReload e) is)

-- ---- those that stand together

together : {X : Type 0} (a b c d : Bool) (x y z w : X) (used reloaded both : Option X) → (c ≡ true → used ≡ None) → (d ≡ true → used ≡ None) → both ≡ option_or used reloaded
    → cond a (Some x) (cond b (Some y) (cond c (Some z) (cond d (Some w) both))) ≡ option_or (cond a (Some x) (cond b (Some y) used)) (cond c (Some z) (cond d (Some w) reloaded))
together true b c d x y z w used reloaded both at_c at_d is = refl
together false true c d x y z w used reloaded both at_c at_d is = refl
together false false true d x y z w used reloaded both at_c at_d is = sym (ap (λ o. option_or o (Some z)) (at_c refl))
together false false false true x y z w used reloaded both at_c at_d is = sym (ap (λ o. option_or o (Some w)) (at_d refl))
together false false false false x y z w used reloaded both at_c at_d is = is

both_found : (q : Parts × ℕ) (sources : List (Parts × Source)) → find (is_there q) (answers_under_both sources) ≡ option_or (find (is_there q) (answers_under Use sources)) (find (is_there q) (answers_under Reload sources))
both_found q [] = refl
both_found q (e ∷ sources) =
    together (is_there q (answer_at LoadUse e)) (is_there q (at_hand EnsureUse e)) (is_there q (answer_at LoadReload e)) (is_there q (at_hand EnsureReload e))
    (answer_at LoadUse e) (at_hand EnsureUse e) (answer_at LoadReload e) (at_hand EnsureReload e)
    (find (is_there q) (answers_under Use sources)) (find (is_there q) (answers_under Reload sources)) (find (is_there q) (answers_under_both sources))
    (none_at_load q e sources) (none_at_hand q e sources) (both_found q sources)

-- ---- those to a reload before those under Use

none_before : (q : Parts × ℕ) (reload sources : List (Parts × Source)) → is_some (find (is_there q) (answers_under Reload reload)) ≡ true → find (is_there q) (answers_under Use sources) ≡ None
none_before q [] sources some = absurd (true≢false (sym some))
none_before q (e ∷ reload) sources some =
    by (is_there q (answer_at LoadReload e)) refl (is_there q (at_hand EnsureReload e)) refl some (none_before q reload sources)
  where
    by : (a : Bool) → is_there q (answer_at LoadReload e) ≡ a → (b : Bool) → is_there q (at_hand EnsureReload e) ≡ b
        → is_some (cond a (Some (answer_at LoadReload e)) (cond b (Some (at_hand EnsureReload e)) (find (is_there q) (answers_under Reload reload)))) ≡ true
        → (is_some (find (is_there q) (answers_under Reload reload)) ≡ true → find (is_there q) (answers_under Use sources) ≡ None)
        → find (is_there q) (answers_under Use sources) ≡ None
    by true is b other found rest = none_at_load q e sources is
    by false not true is found rest = none_at_hand q e sources is
    by false not false other found rest = rest found

moved : {X : Type 0} (first used last : Option X) → (is_some first ≡ true → used ≡ None) → option_or first (option_or used last) ≡ option_or (option_or used first) last
moved None None last h = refl
moved None (Some x) last h = refl
moved (Some x) used last h = sym (ap (λ o. option_or (option_or o (Some x)) last) (h refl))

-- the answers of all sources, in order
pub together_ordered : (sources reload cached : List (Parts × Source)) → ordered ((answers_under Reload reload ++ answers_under_both sources) ++ answers_cached cached) ≡ ordered (answers_of sources reload cached)
together_ordered sources reload cached =
    same_ordered ((r ++ answers_under_both sources) ++ answers_cached cached) (answers_of sources reload cached) (λ q.
    find-append (is_there q) (r ++ answers_under_both sources) (answers_cached cached)
    ∙ ap (λ o. option_or o (find (is_there q) (answers_cached cached))) (front q)
    ∙ sym (find-append (is_there q) ((u ++ r) ++ v) (answers_cached cached)))
  where
    r : List (Parts × Purpose × Answer)
    r = answers_under Reload reload

    u : List (Parts × Purpose × Answer)
    u = answers_under Use sources

    v : List (Parts × Purpose × Answer)
    v = answers_under Reload sources

    front : (q : Parts × ℕ) → find (is_there q) (r ++ answers_under_both sources) ≡ find (is_there q) ((u ++ r) ++ v)
    front q =
        find-append (is_there q) r (answers_under_both sources)
        ∙ ap (option_or (find (is_there q) r)) (both_found q sources)
        ∙ moved (find (is_there q) r) (find (is_there q) u) (find (is_there q) v) (none_before q reload sources)
        ∙ sym (ap (λ o. option_or o (find (is_there q) v)) (find-append (is_there q) u r))
        ∙ sym (find-append (is_there q) (u ++ r) v)
