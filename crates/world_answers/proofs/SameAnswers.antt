-- Answers in order are the same answers: for each specifier and purpose, the first one that is listed is the one that was listed first.
use Rattle.std.proofs.Common.{◌≡◌, ℕ, ◌==◌, List, [], ◌∷◌, fold, Bool, true, false, true≢false, ◌&&◌, cond, Option, Some, None, Ordering, Less, Equal, Greater, option_map, refl, sym, ap, ap₂, ◌∙◌, arith}
use Rattle.std.proofs.lemmas.Bool.Decides.{nat_tests}
use Rattle.std.proofs.lemmas.Map.Text.{is_eq-slice_cmp}
use Rattle.std.specs.BTreeMap.{insert_entry, is_at}
use Rattle.std.specs.Cmp.{IsTotalOrder, Equal-is}
use Rattle.std.specs.Cmp.Lexicographic.{slice_cmp, nat_list_eq_equiv}
use Rattle.std.specs.List.{AllByRecursion}
use Rattle.std.specs.Map.{lookup}
use Rattle.std.specs.Option.{option_or}
use Rattle.std.specs.Ordering.{match_ordering, nat_cmp, ordering_then, is_eq}
use Rattle.std.specs.Prelude.{is_some, if◌then◌else◌}
use Rattle.url.specs.Parts.{Parts, serialize}
use Rattle.source_io.specs.Answers.{purpose_place, lists_for, listed_answer}
use Rattle.source_io.specs.declared.types.Answer.{Answer}
use Rattle.source_io.specs.declared.types.Purpose.{Purpose}
use Rattle.spec_base.specs.Specifier.{same_specifier}
use Rattle.source_io.specs.AnswerOrder.{place_cmp}
use Rattle.source_io.proofs.AnswerOrderLemmas.{place_total}
use Rattle.world_answers.specs.AnswerOrder.{with_first, placed, listed, ordered}
use Rattle.world_answers.proofs.OrderLemmas.{Spot, IsPlaced, all_placed}

or_none : {A : Type 0} (o : Option A) → option_or o None ≡ o
or_none None = refl
or_none (Some x) = refl

-- ---- a look-up after an entry was put in

module _ {K X : Type 0} {R : K → K → Ordering} (o : IsTotalOrder R) (q k : K) (v : X) where
  alike : (es : List (K × X)) → R q k ≡ Equal → lookup (is_at (R q)) es ≡ lookup (is_at (R k)) es
  alike [] e = refl
  alike (f ∷ es) e = ap₂ (λ r found. cond (is_eq r) (Some f.1) found) (o.congr q k f.0 e) (alike es e)

  put_found : (es : List (K × X)) → is_some (lookup (is_at (R k)) es) ≡ false
      → lookup (is_at (R q)) (insert_entry R es k v) ≡ option_or (lookup (is_at (R q)) es) (cond (is_at (R q) k) (Some v) None)
  put_found [] none = refl
  put_found (f ∷ es) none = by (R k f.0) none (λ n. put_found es n)
    where
      first : (b : Bool) → is_at (R q) k ≡ b → cond b (Some v) (lookup (is_at (R q)) (f ∷ es)) ≡ option_or (lookup (is_at (R q)) (f ∷ es)) (cond b (Some v) None)
      first true e = sym (ap (λ found. option_or found (Some v)) (alike (f ∷ es) ((Equal-is (R q k)).0 e) ∙ missing (lookup (is_at (R k)) (f ∷ es)) none))
        where
          missing : (found : Option X) → is_some found ≡ false → found ≡ None
          missing None n = refl
          missing (Some x) n = absurd (true≢false n)
      first false e = sym (or_none (lookup (is_at (R q)) (f ∷ es)))

      later : (b : Bool) → lookup (is_at (R q)) (insert_entry R es k v) ≡ option_or (lookup (is_at (R q)) es) (cond (is_at (R q) k) (Some v) None)
          → cond b (Some f.1) (lookup (is_at (R q)) (insert_entry R es k v)) ≡ option_or (cond b (Some f.1) (lookup (is_at (R q)) es)) (cond (is_at (R q) k) (Some v) None)
      later true ih = refl
      later false ih = ih

      by : (r : Ordering) → is_some (cond (is_eq r) (Some f.1) (lookup (is_at (R k)) es)) ≡ false
          → (is_some (lookup (is_at (R k)) es) ≡ false → lookup (is_at (R q)) (insert_entry R es k v) ≡ option_or (lookup (is_at (R q)) es) (cond (is_at (R q) k) (Some v) None))
          → lookup (is_at (R q)) (match_ordering r ((k, v) ∷ f ∷ es) ((f.0, v) ∷ es) (f ∷ insert_entry R es k v)) ≡ option_or (lookup (is_at (R q)) (f ∷ es)) (cond (is_at (R q) k) (Some v) None)
      by Less n ih = first (is_at (R q) k) refl
      by Equal n ih = absurd (true≢false n)
      by Greater n ih = later (is_at (R q) f.0) (ih n)

-- ---- answers at their places

abbrev Answered : Type 0
Answered = Purpose × Answer

first_found : (q : Parts × ℕ) (found : List Spot) (e : Parts × Purpose × Answer)
    → lookup (is_at (place_cmp q)) (with_first found e) ≡ option_or (lookup (is_at (place_cmp q)) found) (cond (is_at (place_cmp q) (e.0, purpose_place e.1)) (Some (e.1, e.2)) None)
first_found q found e = by (is_some (lookup (is_at (place_cmp k)) found)) refl
  where
    k : Parts × ℕ
    k = (e.0, purpose_place e.1)

    kept : (there : Option Answered) (b : Bool) → is_some there ≡ true → (b ≡ true → lookup (is_at (place_cmp q)) found ≡ there)
        → lookup (is_at (place_cmp q)) found ≡ option_or (lookup (is_at (place_cmp q)) found) (cond b (Some (e.1, e.2)) None)
    kept None b is same = absurd (true≢false (sym is))
    kept (Some x) true is same = same refl ∙ sym (ap (λ f. option_or f (Some (e.1, e.2))) (same refl))
    kept (Some x) false is same = sym (or_none (lookup (is_at (place_cmp q)) found))

    by : (b : Bool) → is_some (lookup (is_at (place_cmp k)) found) ≡ b
        → lookup (is_at (place_cmp q)) (if b then found else insert_entry place_cmp found k (e.1, e.2))
        ≡ option_or (lookup (is_at (place_cmp q)) found) (cond (is_at (place_cmp q) k) (Some (e.1, e.2)) None)
    by true is = kept (lookup (is_at (place_cmp k)) found) (is_at (place_cmp q) k) is (λ same. alike place_total q k (e.1, e.2) found ((Equal-is (place_cmp q k)).0 same))
    by false is = put_found place_total q k (e.1, e.2) found is

-- the first answer that belongs to a place
abbrev first_at : Parts × ℕ → List (Parts × Purpose × Answer) → Option Answered
first_at q [] = None
first_at q (e ∷ es) = cond (is_at (place_cmp q) (e.0, purpose_place e.1)) (Some (e.1, e.2)) (first_at q es)

or_later : {A : Type 0} (found : Option A) (b : Bool) (x : A) (later : Option A) → option_or (option_or found (cond b (Some x) None)) later ≡ option_or found (cond b (Some x) later)
or_later (Some y) b x later = refl
or_later None true x later = refl
or_later None false x later = refl

folded_found : (q : Parts × ℕ) (found : List Spot) (es : List (Parts × Purpose × Answer)) → lookup (is_at (place_cmp q)) (fold with_first found es) ≡ option_or (lookup (is_at (place_cmp q)) found) (first_at q es)
folded_found q found [] = sym (or_none (lookup (is_at (place_cmp q)) found))
folded_found q found (e ∷ es) =
    folded_found q (with_first found e) es ∙ ap (λ f. option_or f (first_at q es)) (first_found q found e)
    ∙ or_later (lookup (is_at (place_cmp q)) found) (is_at (place_cmp q) (e.0, purpose_place e.1)) (e.1, e.2) (first_at q es)

-- ---- by specifier and purpose

eq_then : (a b : Ordering) → is_eq (ordering_then a b) ≡ (is_eq a && is_eq b)
eq_then Less b = refl
eq_then Equal b = refl
eq_then Greater b = refl

eq_number : (m n : ℕ) → is_eq (nat_cmp m n) ≡ (n == m)
eq_number m n = grind (arith, nat_tests)

same_place : (s f : Parts) (m n : ℕ) → is_at (place_cmp (s, m)) (f, n) ≡ (same_specifier f s && n == m)
same_place s f m n =
    eq_then (slice_cmp nat_cmp (serialize s) (serialize f)) (nat_cmp m n)
    ∙ ap₂ (λ a b. a && b) (is_eq-slice_cmp (serialize s) (serialize f) ∙ nat_list_eq_equiv.symm (serialize s) (serialize f)) (eq_number m n)

first_listed : (s : Parts) (p : Purpose) (es : List (Parts × Purpose × Answer)) → option_map (λ a. a.1) (first_at (s, purpose_place p) es) ≡ listed_answer es s p
unfolding listed_answer
first_listed s p [] = refl
first_listed s p (e ∷ es) =
    ap (λ b. option_map (λ a. a.1) (cond b (Some (e.1, e.2)) (first_at (s, purpose_place p) es))) (same_place s e.0 (purpose_place p) (purpose_place e.1))
    ∙ by (lists_for p e s) (first_listed s p es)
  where
    by : (b : Bool) → option_map (λ a. a.1) (first_at (s, purpose_place p) es) ≡ listed_answer es s p
        → option_map (λ a. a.1) (cond b (Some (e.1, e.2)) (first_at (s, purpose_place p) es)) ≡ (if b then Some e.2 else listed_answer es s p)
    by true rest = refl
    by false rest = rest

listed_found : (s : Parts) (p : Purpose) (found : List Spot) → AllByRecursion IsPlaced found → listed_answer (listed found) s p ≡ option_map (λ a. a.1) (lookup (is_at (place_cmp (s, purpose_place p))) found)
unfolding listed_answer
listed_found s p [] all = refl
listed_found s p (f ∷ found) all =
    by (lists_for p (f.0.0, f.1.0, f.1.1) s) (listed_found s p found all.1)
    ∙ ap (λ b. option_map (λ a. a.1) (cond b (Some f.1) (lookup (is_at (place_cmp (s, purpose_place p))) found)))
    (sym (same_place s f.0.0 (purpose_place p) (purpose_place f.1.0)) ∙ ap (λ n. is_at (place_cmp (s, purpose_place p)) (f.0.0, n)) (sym all.0))
  where
    by : (b : Bool) → listed_answer (listed found) s p ≡ option_map (λ a. a.1) (lookup (is_at (place_cmp (s, purpose_place p))) found)
        → (if b then Some f.1.1 else listed_answer (listed found) s p) ≡ option_map (λ a. a.1) (cond b (Some f.1) (lookup (is_at (place_cmp (s, purpose_place p))) found))
    by true rest = refl
    by false rest = rest

-- the answer of each specifier and purpose is the same
pub same_listed : (s : Parts) (p : Purpose) (es : List (Parts × Purpose × Answer)) → listed_answer (ordered es) s p ≡ listed_answer es s p
unfolding ordered
same_listed s p es =
    listed_found s p (placed es) (all_placed es) ∙ ap (option_map (λ a. a.1)) (folded_found (s, purpose_place p) [] es) ∙ first_listed s p es
