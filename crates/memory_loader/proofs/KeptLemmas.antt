-- Kept answers, those that a world lists, and the last ones that were given.
use Rattle.std.proofs.Common.{◌≡◌, Bool, true, false, cond, List, [], ◌∷◌, Option, Some, None, Result, Ok, Err, refl, sym, ap, ◌∙◌, ℕ}
use Rattle.std.proofs.lemmas.Slice.Eq.{bytes_eq-Decides}
use Rattle.std.specs.Cmp.Lexicographic.{nat_list_eq_equiv}
use Rattle.std.specs.Prelude.{bytes_eq, string_bytes, ◌&&◌, OnOk, option_map}
use Rattle.std.specs.Map.{lookup}
use Rattle.std.specs.Option.{option_or}
use Rattle.url.specs.Parts.{Parts, serialize}
use Rattle.spec_base.specs.Specifier.{same_specifier}
use Rattle.spec_base.specs.declared.refusal.Refusal.{Refusal}
use Rattle.source_io.specs.Answers.{answer_for, same_purpose, listed_answer, listed_or_read, answer_to, answer_of, purpose_of}
use Rattle.source_io.specs.declared.types.Answer.{Answer}
use Rattle.source_io.specs.declared.types.Purpose.{Purpose}
use Rattle.source_io.specs.declared.types.Purpose.TheVariants.{LoadUse, EnsureUse, LoadReload, EnsureReload, LoadOnly}
use Rattle.source_io.specs.declared.types.Question.{Question}
use Rattle.memory_loader.specs.declared.invalid_specifier.InvalidSpecifier.{InvalidSpecifier}
use Rattle.spec_base.specs.Refusal.{AnswersBy}
use Rattle.memory_loader.specs.Results.{and_then}
use Rattle.memory_loader.specs.Specifiers.{specifier_of}
use Rattle.memory_loader.specs.Sources.{GivenSource, KeyedSource, source_answer, with_answer, with_source, with_sources}
use Rattle.memory_loader.specs.Worlds.{listings, answers_world, kept_or_read}
use Rattle.memory_loader.specs.Latest.{answer_at_key, given_at, last_at}

abbrev Kept : Type 0
Kept = List (Parts × Answer)

same_turned : (a b : Parts) → same_specifier a b ≡ same_specifier b a
same_turned a b = nat_list_eq_equiv.symm (serialize a) (serialize b)

-- a specifier of the same text is compared alike
same_left : (a b c : Parts) → same_specifier a b ≡ true → same_specifier c a ≡ same_specifier c b
same_left a b c e = ap (bytes_eq (serialize c)) ((bytes_eq-Decides (serialize a) (serialize b)).0 e)

-- what is listed for a purpose of one entry, and where its key is another one, what is listed behind it
abbrev listed_by : Bool → Purpose → Purpose → Answer → Option Answer → Option Answer
listed_by b p q a o = cond (b && same_purpose q p) (Some (answer_for q a)) o

for_purpose : (b : Bool) (p : Purpose) (a : Answer) (o : Option Answer)
    → listed_by b p LoadUse a (listed_by b p EnsureUse a (listed_by b p LoadReload a (listed_by b p EnsureReload a (listed_by b p LoadOnly a o)))) ≡ cond b (Some (answer_for p a)) o
for_purpose true LoadUse a o = refl
for_purpose true EnsureUse a o = refl
for_purpose true LoadReload a o = refl
for_purpose true EnsureReload a o = refl
for_purpose true LoadOnly a o = refl
for_purpose false p a o = refl

map_by : (f : Answer → Answer) (b : Bool) (a : Answer) (o : Option Answer) → cond b (Some (f a)) (option_map f o) ≡ option_map f (cond b (Some a) o)
map_by f true a o = refl
map_by f false a o = refl

map_or : (f : Answer → Answer) (a b : Option Answer) → option_map f (option_or a b) ≡ option_or (option_map f a) (option_map f b)
map_or f None b = refl
map_or f (Some x) b = refl

-- for every purpose a world lists the answers that are kept
pub listed_kept : (p : Purpose) (s : Parts) (kept : Kept) → listed_answer (listings kept) s p ≡ option_map (answer_for p) (lookup (same_specifier s) kept)
unfolding listed_answer
listed_kept p s [] = refl
listed_kept p s (e ∷ kept) =
    for_purpose (same_specifier e.0 s) p e.1 (listed_answer (listings kept) s p)
    ∙ ap (λ b. cond b (Some (answer_for p e.1)) (listed_answer (listings kept) s p)) (same_turned e.0 s)
    ∙ ap (cond (same_specifier s e.0) (Some (answer_for p e.1))) (listed_kept p s kept)
    ∙ map_by (answer_for p) (same_specifier s e.0) e.1 (lookup (same_specifier s) kept)

over_by : (b : Bool) (x y : Answer) (o : Option Answer) → cond b (Some x) o ≡ option_or (cond b (Some x) None) (cond b (Some y) o)
over_by true x y o = refl
over_by false x y o = refl

past_by : (b c : Bool) (x y : Answer) (o : Option Answer) → (b ≡ true → c ≡ false) → cond b (Some x) (option_or (cond c (Some y) None) o) ≡ option_or (cond c (Some y) None) (cond b (Some x) o)
past_by true true x y o other = let e = other refl in absurd cc
past_by true false x y o other = refl
past_by false true x y o other = refl
past_by false false x y o other = refl

unlike : (k e s : Parts) → same_specifier k e ≡ false → same_specifier s e ≡ true → same_specifier s k ≡ false
unlike k e s other same = same_turned s k ∙ same_left s e k same ∙ other

put_by : (b : Bool) (s k : Parts) (a : Answer) (e : Parts × Answer) (kept : Kept) → same_specifier k e.0 ≡ b
    → lookup (same_specifier s) (with_answer kept k a) ≡ option_or (cond (same_specifier s k) (Some a) None) (lookup (same_specifier s) kept)
    → lookup (same_specifier s) (cond b ((e.0, a) ∷ kept) (e ∷ with_answer kept k a)) ≡ option_or (cond (same_specifier s k) (Some a) None) (lookup (same_specifier s) (e ∷ kept))
put_by true s k a e kept same more =
    ap (λ b. cond b (Some a) (lookup (same_specifier s) kept)) (sym (same_left k e.0 s same))
    ∙ over_by (same_specifier s k) a e.1 (lookup (same_specifier s) kept)
    ∙ ap (λ b. option_or (cond (same_specifier s k) (Some a) None) (cond b (Some e.1) (lookup (same_specifier s) kept))) (same_left k e.0 s same)
put_by false s k a e kept other more =
    ap (cond (same_specifier s e.0) (Some e.1)) more
    ∙ past_by (same_specifier s e.0) (same_specifier s k) e.1 a (lookup (same_specifier s) kept) (unlike k e.0 s other)

or_none : (o : Option Answer) → option_or o None ≡ o
or_none None = refl
or_none (Some x) = refl

-- the answer that is put at a key is found there, and the others where they were
put_kept : (s k : Parts) (a : Answer) (kept : Kept) → lookup (same_specifier s) (with_answer kept k a) ≡ option_or (cond (same_specifier s k) (Some a) None) (lookup (same_specifier s) kept)
put_kept s k a [] = sym (or_none _)
put_kept s k a (e ∷ kept) =
    ap (λ b. lookup (same_specifier s) (cond b ((e.0, a) ∷ kept) (e ∷ with_answer kept k a))) refl
    ∙ put_by (same_specifier k e.0) s k a e kept refl (put_kept s k a kept)

abbrev held : Kept → Result Kept InvalidSpecifier
held kept = Ok kept

same_held : (x y : Kept) → held x ≡ held y → x ≡ y
same_held x y e = cc

put_given : (s : Parts) (key : Result Parts InvalidSpecifier) (answer : Result Answer InvalidSpecifier) (kept now : Kept)
    → and_then key (λ k. and_then answer (λ a. Ok (with_answer kept k a))) ≡ Ok now
    → lookup (same_specifier s) now ≡ option_or (answer_at_key s key answer) (lookup (same_specifier s) kept)
put_given s (Ok k) (Ok a) kept now e =
    ap (lookup (same_specifier s)) (sym (same_held _ _ e)) ∙ put_kept s k a kept
put_given s (Ok k) (Err x) kept now e = absurd cc
put_given s (Err x) answer kept now e = absurd cc

-- one more source is found at its key, and the others where they were
pub source_kept : (s : Parts) (key : List ℕ) (source : GivenSource) (kept now : Kept) → with_source kept key source ≡ Ok now
    → lookup (same_specifier s) now ≡ option_or (given_at s key source) (lookup (same_specifier s) kept)
source_kept s key source kept now e = put_given s (specifier_of key) (source_answer source) kept now e

or_assoc : (a b c : Option Answer) → option_or a (option_or b c) ≡ option_or (option_or a b) c
or_assoc None b c = refl
or_assoc (Some x) b c = refl

step : (s : Parts) (given : KeyedSource) (more : List KeyedSource) (kept last : Kept) (r : Result Kept InvalidSpecifier) → with_source kept (string_bytes given.0) given.1 ≡ r
    → and_then r (λ now. with_sources now more) ≡ Ok last
    → ((now : Kept) → with_sources now more ≡ Ok last → lookup (same_specifier s) last ≡ option_or (last_at s more) (lookup (same_specifier s) now))
    → lookup (same_specifier s) last ≡ option_or (last_at s (given ∷ more)) (lookup (same_specifier s) kept)
step s given more kept last (Ok now) put rest later =
    later now rest
    ∙ ap (option_or (last_at s more)) (source_kept s (string_bytes given.0) given.1 kept now put)
    ∙ or_assoc (last_at s more) (given_at s (string_bytes given.0) given.1) (lookup (same_specifier s) kept)
step s given more kept last (Err x) put rest later = absurd cc

-- the last source of a specifier is found there
pub sources_kept : (s : Parts) (given : List KeyedSource) (kept last : Kept) → with_sources kept given ≡ Ok last
    → lookup (same_specifier s) last ≡ option_or (last_at s given) (lookup (same_specifier s) kept)
sources_kept s [] kept last e = ap (lookup (same_specifier s)) (sym (same_held _ _ e))
sources_kept s (given ∷ more) kept last e =
    step s given more kept last (with_source kept (string_bytes given.0) given.1) refl e (λ now. sources_kept s more now last)

-- the same of what a world lists
pub last_listed : (p : Purpose) (s : Parts) (given : List KeyedSource) (none last : Kept) → none ≡ [] → with_sources none given ≡ Ok last
    → listed_answer (listings last) s p ≡ option_map (answer_for p) (last_at s given)
last_listed p s given none last empty e =
    listed_kept p s last
    ∙ ap (option_map (answer_for p)) (sources_kept s given none last e
    ∙ ap (λ kept. option_or (last_at s given) (lookup (same_specifier s) kept)) empty ∙ or_none (last_at s given))

source_listed : (p : Purpose) (s : Parts) (key : List ℕ) (source : GivenSource) (kept now : Kept) → with_source kept key source ≡ Ok now
    → listed_answer (listings now) s p ≡ option_or (option_map (answer_for p) (given_at s key source)) (listed_answer (listings kept) s p)
source_listed p s key source kept now e =
    listed_kept p s now
    ∙ ap (option_map (answer_for p)) (source_kept s key source kept now e)
    ∙ map_or (answer_for p) (given_at s key source) (lookup (same_specifier s) kept)
    ∙ ap (option_or (option_map (answer_for p) (given_at s key source))) (sym (listed_kept p s kept))

pub added_listed : (key : List ℕ) (source : GivenSource) (kept now : Kept) (r : Result (Unit {0}) (Refusal InvalidSpecifier)) → AnswersBy (λ _. now) r (with_source kept key source)
    → OnOk r ((p : Purpose) (s : Parts) → listed_answer (listings now) s p ≡ option_or (option_map (answer_for p) (given_at s key source)) (listed_answer (listings kept) s p))
added_listed key source kept now (Ok u) put = λ p s. source_listed p s key source kept now put
added_listed key source kept now (Err e) put = tt

-- the world's answer to a question, whatever its options, by what is kept
pub kept_answer : (kept : Kept) (q : Question) → kept_or_read q (lookup (same_specifier q.specifier) kept) ≡ answer_of (answers_world kept) q
unfolding answer_to
kept_answer kept q = ap (listed_or_read true q.specifier (purpose_of q)) (sym (listed_kept (purpose_of q) q.specifier kept))
