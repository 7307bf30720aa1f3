-- The places of a world's answers, where they are noted.
use Rattle.std.proofs.Common.{◌≡◌, ℕ, ◌+◌, ◌<◌, get_or, Bool, true, false, cond, List, [], ◌∷◌, length, take, Option, Some, refl, sym, ap, ◌∙◌, subst}
use Rattle.std.specs.Prelude.{◌&&◌, option_map}
use Rattle.std.specs.List.{find}
use Rattle.std.specs.FinMap as finite
use Rattle.std.specs.FinMap.{FinMap}
use Rattle.url.specs.Parts.{Parts}
use Rattle.spec_base.specs.Shown.{text_cmp}
use Rattle.spec_base.specs.Specifier.{same_specifier, specifier_text}
use Rattle.spec_base.specs.Places.{with_first, IsIndex}
use Rattle.spec_base.proofs.PlaceLemmas.{index_none, index_noted_at, index_passed_at, found_first}
use Rattle.source_io.specs.declared.types.Answer.{Answer}
use Rattle.source_io.specs.declared.types.Purpose.{Purpose}
use Rattle.source_io.specs.declared.types.Purpose.TheVariants.{LoadUse, EnsureUse, LoadReload, EnsureReload, LoadOnly}
use Rattle.source_io.specs.Answers.{same_purpose, lists_for, listed_answer, listed_or_read, judged, purpose_of, answer_to, answer_of}
use Rattle.source_io.specs.AnswerPlaces.{with_entry, answer_at, places_for, AreNoted}
use Rattle.source_io.specs.declared.noted_places.NotedPlaces.{NotedPlaces}
use Rattle.source_io.specs.declared.types.Question.{Question}
use Rattle.source_io.specs.declared.types.World.{World}

abbrev pub Entry : Type 0
Entry = Parts × Purpose × Answer

second_by : (b : Bool) (e : Entry) (rest : Option Entry) → option_map (λ x. x.2) (cond b (Some e) rest) ≡ cond b (Some e.2) (option_map (λ x. x.2) rest)
second_by true e rest = refl
second_by false e rest = refl

found_listed : (p : Purpose) (s : Parts) (es : List Entry) → option_map (λ e. e.2) (find (λ e. lists_for p e s) es) ≡ listed_answer es s p
unfolding listed_answer
found_listed p s [] = refl
found_listed p s (e ∷ es) = second_by (lists_for p e s) e _ ∙ ap (cond (lists_for p e s) (Some e.2)) (found_listed p s es)

-- the answer at the place to which an index leads is the first listed one
pub answer_at_index : (p : Purpose) (es : List Entry) (places : FinMap text_cmp ℕ) (s : Parts) → IsIndex (lists_for p) es places → answer_at es (finite.get places (specifier_text s)) ≡ listed_answer es s p
answer_at_index p es places s index =
    ap (answer_at es) (index.leads s) ∙ ap (option_map (λ e. e.2)) (found_first (λ e. lists_for p e s) es) ∙ found_listed p s es

and_true : (b : Bool) → b && true ≡ b
and_true true = refl
and_true false = refl

and_false : (b : Bool) → b && false ≡ false
and_false true = refl
and_false false = refl

noted_by : (b : Bool) (p : Purpose) (es : List Entry) (i : ℕ) (d : Entry) (places : FinMap text_cmp ℕ) → same_purpose (get_or es i d).1 p ≡ b → i < length es → IsIndex (lists_for p) (take i es) places → IsIndex (lists_for p) (take (i + 1) es) (cond b (with_first places (specifier_text (get_or es i d).0) i) places)
noted_by true p es i d places at within old =
    index_noted_at (lists_for p) es i d (get_or es i d).0 places within (λ s. ap (λ b. same_specifier (get_or es i d).0 s && b) at ∙ and_true _) old
noted_by false p es i d places at within old =
    index_passed_at (lists_for p) es i d places within (λ s. ap (λ b. same_specifier (get_or es i d).0 s && b) at ∙ and_false _) old

-- one more entry
pub noted_entry : (p : Purpose) (es : List Entry) (i : ℕ) (d : Entry) (places : FinMap text_cmp ℕ) → i < length es → IsIndex (lists_for p) (take i es) places → IsIndex (lists_for p) (take (i + 1) es) (with_entry p places (get_or es i d) i)
noted_entry p es i d places within old = noted_by (same_purpose (get_or es i d).1 p) p es i d places refl within old

-- the index of no answers
pub none_noted : (places : NotedPlaces) → places.load_use ≡ finite.empty → places.ensure_use ≡ finite.empty → places.load_reload ≡ finite.empty → places.ensure_reload ≡ finite.empty → places.load_only ≡ finite.empty → AreNoted [] places
none_noted places a b c d e = at_none
  where
    at_none : (p : Purpose) → IsIndex (lists_for p) [] (places_for p places)
    at_none LoadUse = subst (IsIndex (lists_for LoadUse) []) (sym a) (index_none (lists_for LoadUse))
    at_none EnsureUse = subst (IsIndex (lists_for EnsureUse) []) (sym b) (index_none (lists_for EnsureUse))
    at_none LoadReload = subst (IsIndex (lists_for LoadReload) []) (sym c) (index_none (lists_for LoadReload))
    at_none EnsureReload = subst (IsIndex (lists_for EnsureReload) []) (sym d) (index_none (lists_for EnsureReload))
    at_none LoadOnly = subst (IsIndex (lists_for LoadOnly) []) (sym e) (index_none (lists_for LoadOnly))

-- the world's answer to a question, by the one that is listed
pub world_answer : (w : World) (q : Question) → judged w.verifies q.options.maybe_checksum (listed_or_read w.reads_data q.specifier (purpose_of q) (listed_answer w.answers q.specifier (purpose_of q))) ≡ answer_of w q
unfolding answer_to
world_answer w q = refl
