-- What entries list that a world told by which answers go by text.
use Rattle.std.proofs.Common.{◌≡◌, ℕ, Bool, true, false, List, [], ◌∷◌, ◌++◌, Option, Some, None, Ok, refl, sym, ap, ◌∙◌, subst, cond, bytes_eq, arith}
use Rattle.std.specs.Prelude.{◌==◌, ◌&&◌, ◌||◌, if◌then◌else◌, not}
use Rattle.std.specs.List.{AllByRecursion, list_any}
use Rattle.std.proofs.lemmas.Slice.Eq.{bytes_eq-Decides}
use Rattle.std.proofs.lemmas.Bool.{eqb-true}
use Rattle.std.proofs.lemmas.Bool.Decides.{nat_tests}
use Rattle.std.proofs.lemmas.Option.{none-some, same_Some}
use Rattle.url.specs.Parts.{Parts, serialize}
use Rattle.spec_base.specs.Specifier.{same_specifier}
use Rattle.source_io.specs.Answers.{answer_for, answer_of, answer_to, judged, listed_answer, listed_or_read, lists_for, purpose_of, purpose_place, same_purpose}
use Rattle.source_io.specs.declared.types.Answer.{Answer}
use Rattle.source_io.specs.declared.types.Answer.TheVariants.{Load, Ensure}
use Rattle.source_io.specs.declared.types.Purpose.{Purpose}
use Rattle.source_io.specs.declared.types.Purpose.TheVariants.{LoadUse, EnsureUse, LoadReload, EnsureReload, LoadOnly}
use Rattle.source_io.specs.declared.types.Question.{Question}
use Rattle.source_io.specs.declared.types.World.{World}
use Rattle.graph_store.specs.declared.entry.StoreEntry.{StoreEntry}
use Rattle.graph_store.specs.Order.{HasForm, PutsIn, has_form}
use Rattle.graph_store.specs.Reading.{purpose_in}
use Rattle.graph_store.specs.Recorded.{RecordsAs, Records, entry_for}
use Rattle.graph_store.specs.Stores.{IsPutIn, PutsAs, has_key, stands_under}
use Rattle.graph_store.specs.Worlds.{AreFrom, listings, store_world}
use Rattle.store_turns.specs.Answering.{Fits, IsStorable}

-- ---- purposes

purpose_back : (p : Purpose) → purpose_in (purpose_place p) ≡ Some p
purpose_back LoadUse = refl
purpose_back EnsureUse = refl
purpose_back LoadReload = refl
purpose_back EnsureReload = refl
purpose_back LoadOnly = refl

same_purposes : (p q : Purpose) → same_purpose p q ≡ true → p ≡ q
same_purposes p q e = same_Some p q (sym (purpose_back p) ∙ ap purpose_in (eqb-true (purpose_place p) (purpose_place q) e) ∙ purpose_back q)

number_self : (n : ℕ) → (n == n) ≡ true
number_self n = grind (arith, nat_tests)

both : (a b : Bool) → a && b ≡ true → (a ≡ true) × (b ≡ true)
both true b e = (refl, e)
both false b e = absurd cc

-- ---- a world that reads no `data:` URLs answers by text

unlisted_text : (b : Bool) (s t : Parts) (p : Purpose) (listed : Option Answer) → b ≡ false → listed_or_read b s p listed ≡ listed_or_read b t p listed
unlisted_text true s t p listed e = absurd cc
unlisted_text false s t p listed e = refl

listed_text : (es : List (Parts × Purpose × Answer)) (s t : Parts) (p : Purpose) → serialize s ≡ serialize t → listed_answer es s p ≡ listed_answer es t p
unfolding listed_answer
listed_text [] s t p same = refl
listed_text (e ∷ es) s t p same =
    let here : lists_for p e s ≡ lists_for p e t = ap (λ (x : List ℕ). bytes_eq (serialize e.0) x && same_purpose e.1 p) same in
    ap (λ (b : Bool). if b then Some e.2 else listed_answer es s p) here
    ∙ ap (λ (o : Option Answer). if lists_for p e t then Some e.2 else o) (listed_text es s t p same)

answer_text : (w : World) (s t : Parts) (p : Purpose) → w.reads_data ≡ false → serialize s ≡ serialize t → answer_to w s p ≡ answer_to w t p
unfolding answer_to
answer_text w s t p no_data same =
    ap (listed_or_read w.reads_data s p) (listed_text w.answers s t p same) ∙ unlisted_text w.reads_data s t p (listed_answer w.answers t p) no_data

-- ---- its answers have the forms of their purposes

as_asked : (p q : Purpose) (a : Answer) → same_purpose p q ≡ true → HasForm p a → HasForm q a
as_asked p q a same formed = subst (λ (r : Purpose). HasForm r a) (same_purposes p q same) formed

formed_by : (p : Purpose) (b : Bool) (x a : Answer) (more : Option Answer) → ◌≡◌ {A = Option Answer} (if b then Some x else more) (Some a) → (b ≡ true → HasForm p x) → (more ≡ Some a → HasForm p a) → HasForm p a
formed_by p true x a more is here rest = subst (HasForm p) (same_Some x a is) (here refl)
formed_by p false x a more is here rest = rest is

listed_formed : (es : List (Parts × Purpose × Answer)) (s : Parts) (p : Purpose) (a : Answer) → AllByRecursion (λ e. HasForm e.1 e.2) es → listed_answer es s p ≡ Some a → HasForm p a
unfolding listed_answer
listed_formed [] s p a formed is = absurd (none-some a is)
listed_formed (e ∷ es) s p a formed is =
    formed_by p (lists_for p e s) e.2 a (listed_answer es s p) is (λ here. as_asked e.1 p e.2 (both (same_specifier e.0 s) (same_purpose e.1 p) here).1 formed.0) (listed_formed es s p a formed.1)

unlisted_formed : (b : Bool) (s : Parts) (p : Purpose) → b ≡ false → HasForm p (listed_or_read b s p None)
unlisted_formed true s p e = absurd cc
unlisted_formed false s LoadUse e = refl
unlisted_formed false s EnsureUse e = refl
unlisted_formed false s LoadReload e = refl
unlisted_formed false s EnsureReload e = refl
unlisted_formed false s LoadOnly e = refl

pub answer_formed : (w : World) (s : Parts) (p : Purpose) → IsStorable w → HasForm p (answer_to w s p)
unfolding answer_to
answer_formed w s p storable = by (listed_answer w.answers s p) refl
  where
    by : (o : Option Answer) → listed_answer w.answers s p ≡ o → HasForm p (listed_or_read w.reads_data s p o)
    by None is = unlisted_formed w.reads_data s p storable.no_data
    by (Some a) is = listed_formed w.answers s p a storable.formed is

-- ---- what entries list

-- an entry stands under its own key
stands_self : (e : StoreEntry) → stands_under e e.specifier e.purpose ≡ true
stands_self e =
    let text : bytes_eq (serialize e.specifier) (serialize e.specifier) ≡ true = (bytes_eq-Decides (serialize e.specifier) (serialize e.specifier)).1 refl in
    ap (λ (b : Bool). b && same_purpose e.purpose e.purpose) text ∙ number_self (purpose_place e.purpose)

or_true : (a b : Bool) → b ≡ true → a || b ≡ true
or_true true b e = refl
or_true false b e = e

or_either : (a b c : Bool) → a || b ≡ true → (b ≡ true → c ≡ true) → a || c ≡ true
or_either true b c e so = refl
or_either false b c e so = so e

any_middle : (test : StoreEntry → Bool) (front back : List StoreEntry) (e : StoreEntry) → test e ≡ true → list_any test (front ++ e ∷ back) ≡ true
any_middle test [] back e is = ap (λ (b : Bool). b || list_any test back) is
any_middle test (x ∷ front) back e is = or_true (test x) (list_any test (front ++ e ∷ back)) (any_middle test front back e is)

any_more : (test : StoreEntry → Bool) (front back : List StoreEntry) (e : StoreEntry) → list_any test (front ++ back) ≡ true → list_any test (front ++ e ∷ back) ≡ true
any_more test [] back e is = or_true (test e) (list_any test back) is
any_more test (x ∷ front) back e is = or_either (test x) (list_any test (front ++ back)) (list_any test (front ++ e ∷ back)) is (any_more test front back e)

key_by : (b has : Bool) (x a : Answer) (more : Option Answer) → ◌≡◌ {A = Option Answer} (if b then Some x else more) (Some a) → (more ≡ Some a → has ≡ true) → b || has ≡ true
key_by true has x a more is rest = refl
key_by false has x a more is rest = rest is

-- what is listed has a key
key_listed : (es : List StoreEntry) (s : Parts) (p : Purpose) (a : Answer) → listed_answer (listings es) s p ≡ Some a → has_key es s p ≡ true
unfolding listed_answer
key_listed [] s p a is = absurd (none-some a is)
key_listed (e ∷ es) s p a is = key_by (stands_under e s p) (has_key es s p) e.answer a (listed_answer (listings es) s p) is (key_listed es s p a)

told_here : (w : World) (e : StoreEntry) (s : Parts) (p : Purpose) → w.reads_data ≡ false → e.answer ≡ answer_to w e.specifier e.purpose → stands_under e s p ≡ true → e.answer ≡ answer_to w s p
told_here w e s p no_data told under =
    let parts = both (bytes_eq (serialize e.specifier) (serialize s)) (same_purpose e.purpose p) under in
    told ∙ answer_text w e.specifier s e.purpose no_data ((bytes_eq-Decides (serialize e.specifier) (serialize s)).0 parts.0) ∙ ap (answer_to w s) (same_purposes e.purpose p parts.1)

listed_by : (b has : Bool) (x a : Answer) (more : Option Answer) → b || has ≡ true → (b ≡ true → x ≡ a) → (has ≡ true → more ≡ Some a) → ◌≡◌ {A = Option Answer} (if b then Some x else more) (Some a)
listed_by true has x a more is here rest = ap Some (here refl)
listed_by false has x a more is here rest = rest is

-- where a key stands, the answer is listed that the world gives
listed_from : (w : World) (es : List StoreEntry) (s : Parts) (p : Purpose) → w.reads_data ≡ false → AreFrom w es → has_key es s p ≡ true → listed_answer (listings es) s p ≡ Some (answer_to w s p)
unfolding listed_answer
listed_from w [] s p no_data all has = absurd cc
listed_from w (e ∷ es) s p no_data all has =
    listed_by (stands_under e s p) (has_key es s p) e.answer (answer_to w s p) (listed_answer (listings es) s p) has (told_here w e s p no_data all.0) (listed_from w es s p no_data all.1)

-- ---- what is put

pub all_more : (P : StoreEntry → Type 0) (front back : List StoreEntry) (e : StoreEntry) → AllByRecursion P (front ++ back) → P e → AllByRecursion P (front ++ e ∷ back)
all_more P [] back e all here = (here, all)
all_more P (x ∷ front) back e all here = (all.0, all_more P front back e all.1 here)

-- an entry that the world told is put: all are told, its key stands, and each key that stood
pub record PutsTold (w : World) (e : StoreEntry) (old new : List StoreEntry) : Type 0 where
  pub all : AreFrom w new
  pub stands : has_key new e.specifier e.purpose ≡ true
  pub stood : (s : Parts) (p : Purpose) → has_key old s p ≡ true → has_key new s p ≡ true

puts_told : (w : World) (e : StoreEntry) (old new : List StoreEntry) (added : Bool) → IsPutIn e old new added → e.answer ≡ answer_to w e.specifier e.purpose → AreFrom w old → PutsTold w e old new
puts_told w e old new true put here all =
    let at : PutsIn e old new = put.put in
    record {
      all = subst (AreFrom w) (sym at.is) (all_more (λ x. x.answer ≡ answer_to w x.specifier x.purpose) at.front at.back e (subst (AreFrom w) at.was all) here);
      stands = ap (λ es. has_key es e.specifier e.purpose) at.is ∙ any_middle (λ x. stands_under x e.specifier e.purpose) at.front at.back e (stands_self e);
      stood = λ s p has. ap (λ es. has_key es s p) at.is ∙ any_more (λ x. stands_under x s p) at.front at.back e (sym (ap (λ es. has_key es s p) at.was) ∙ has);
    }
puts_told w e old new false put here all =
    let same : new ≡ old = put.put in
    let has : has_key old e.specifier e.purpose ≡ true = not_not (has_key old e.specifier e.purpose) put.answer in
    record {
      all = subst (AreFrom w) (sym same) all;
      stands = ap (λ es. has_key es e.specifier e.purpose) same ∙ has;
      stood = λ s p stood. ap (λ es. has_key es s p) same ∙ stood;
    }
  where
    not_not : (b : Bool) → false ≡ not b → b ≡ true
    not_not true e = refl
    not_not false e = absurd cc

-- ---- answers

unjudged : (b : Bool) (sum : Option (List ℕ)) (a : Answer) → b ≡ false → judged b sum a ≡ a
unjudged true sum a e = absurd cc
unjudged false sum a e = refl

pub answer_plain : (v : World) (q : Question) → v.verifies ≡ false → answer_of v q ≡ answer_to v q.specifier (purpose_of q)
answer_plain v q plain = unjudged v.verifies q.options.maybe_checksum (answer_to v q.specifier (purpose_of q)) plain

-- the world's answer to a question is recorded
pub recorded_told : (w : World) (q : Question) (a : Answer) (old new : List StoreEntry) → IsStorable w → a ≡ answer_of w q → Records q a old new → AreFrom w old → PutsTold w (entry_for q a) old new
recorded_told w q a old new storable is records all =
    let here : a ≡ answer_to w q.specifier (purpose_of q) = is ∙ answer_plain w q storable.plain in
    let formed : has_form (purpose_of q) a ≡ true = subst (HasForm (purpose_of q)) (sym here) (answer_formed w q.specifier (purpose_of q) storable) in
    let put : RecordsAs q a old new true = subst (RecordsAs q a old new) formed records in
    puts_told w (entry_for q a) old new put.0 put.1 here all

-- a world that fits what is kept fits what was kept before, and answers so
pub fits_before : (w v : World) (e : StoreEntry) (old new : List StoreEntry) → IsStorable w → AreFrom w old → PutsTold w e old new → Fits new v → Fits old v
fits_before w v e old new storable all put fits = record {
  plain = fits.plain;
  as_told = λ s p a is.
      let stood = key_listed old s p a is in
      let was : answer_to w s p ≡ a = same_Some (answer_to w s p) a (sym (listed_from w old s p storable.no_data all stood) ∙ is) in
      fits.as_told s p (answer_to w s p) (listed_from w new s p storable.no_data put.all (put.stood s p stood)) ∙ was;
}

pub fits_answer : (w v : World) (q : Question) (a : Answer) (old new : List StoreEntry) → IsStorable w → a ≡ answer_of w q → PutsTold w (entry_for q a) old new → Fits new v → a ≡ answer_of v q
fits_answer w v q a old new storable is put fits =
    let there = fits.as_told q.specifier (purpose_of q) (answer_to w q.specifier (purpose_of q)) (listed_from w new q.specifier (purpose_of q) storable.no_data put.all put.stands) in
    is ∙ answer_plain w q storable.plain ∙ sym there ∙ sym (answer_plain v q fits.plain)

-- the world of entries fits them
pub fits_itself : (es : List StoreEntry) (n : ℕ) → Fits es (store_world es n)
unfolding answer_to
fits_itself es n = record { plain = refl; as_told = λ s p a is. ap (listed_or_read false s p) is }
