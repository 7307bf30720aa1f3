-- That the content of a module is asked about once.
use Rattle.std.proofs.Common.{◌≡◌, ℕ, List, [], ◌∷◌, ◌++◌, true, false, Option, None, Some, is_some, refl, sym, ap, ◌∙◌, subst, inl, inr, ⊎_elim, ◌⊎◌}
use Rattle.std.proofs.lemmas.Bool.{true≢false}
use Rattle.url.specs.Parts.{Parts}
use Rattle.spec_base.specs.Specifier.{specifier_text}
use Rattle.source_io.specs.declared.types.Answer.{Answer}
use Rattle.module_slots.specs.declared.load.Load.{Load}
use Rattle.graph_turns.specs.declared.question_of.Asked.{Asked}
use Rattle.graph_turns.specs.declared.later_content.LaterContent.{LaterContent}
use Rattle.graph_turns.specs.declared.outcome.Outcome.{Outcome}
use Rattle.graph_turns.specs.declared.state.State.{State}
use Rattle.graph_turns.specs.Machine.Contents.{content_by, content_stored}
use Rattle.graph_turns.specs.Machine.Outcomes.{Suits}
use Rattle.graph_turns.specs.Machine.Outcomes.Suits.{settles, comes, goes_on}
use Rattle.turn_laws.proofs.Budget.Beside.{beside_stored, comes_with}
use Rattle.turn_laws.proofs.Budget.Known.{Counted}
use Rattle.turn_laws.proofs.Budget.Pairs.{HasPair}
use Rattle.graph_turns.specs.Machine.Entering.{stored, with_content}

-- a content of the text k
abbrev pub HasContent : List ℕ → List LaterContent → Type 0
HasContent k [] = ⊥
HasContent k (l ∷ ls) = (k ≡ specifier_text l.specifier) ⊎ HasContent k ls

-- no two contents of one text
abbrev pub OnceContent : List LaterContent → Type 0
OnceContent [] = Unit {0}
OnceContent (l ∷ ls) = (HasContent (specifier_text l.specifier) ls → ⊥) × OnceContent ls

pub content_last : (k : List ℕ) (ls : List LaterContent) (l : LaterContent) → HasContent k (ls ++ l ∷ []) → HasContent k ls ⊎ (k ≡ specifier_text l.specifier)
content_last k [] l h = ⊎_elim inr (λ n. absurd n) h
content_last k (x ∷ ls) l h = ⊎_elim (λ e. inl (inl e)) (λ r. ⊎_elim (λ a. inl (inr a)) inr (content_last k ls l r)) h

once_content : (ls : List LaterContent) (l : LaterContent) → OnceContent ls → (HasContent (specifier_text l.specifier) ls → ⊥) → OnceContent (ls ++ l ∷ [])
once_content [] l once new = (λ h. h, tt)
once_content (x ∷ ls) l once new =
    (λ h. ⊎_elim once.0 (λ same. new (inl (sym same))) (content_last (specifier_text x.specifier) ls l h), once_content ls l once.1 (λ h. new (inr h)))

-- each content that comes or came is that of a module that was asked for itself, and no two of them are of one text
pub record CountedContents (asked : List Load) (filled : List LaterContent) (s : State) : Type 0 where
  pub asked_for : (k : List ℕ) → HasContent k s.contents → HasPair k false asked
  pub once : OnceContent s.contents
  pub came : (k : List ℕ) → HasContent k filled → HasPair k false asked
  pub came_once : OnceContent filled
  pub apart : (k : List ℕ) → HasContent k s.contents → HasContent k filled → ⊥

-- before the first turn
pub contents_none : (s : State) → s.contents ≡ [] → CountedContents [] [] s
contents_none s none = record {
  asked_for = λ k h. absurd (subst (HasContent k) none h);
  once = subst OnceContent (sym none) tt;
  came = λ k h. absurd h;
  came_once = tt;
  apart = λ k h a. a;
}

-- it hangs on the contents alone
pub contents_as : (asked : List Load) (filled : List LaterContent) (s u : State) → u.contents ≡ s.contents → CountedContents asked filled s → CountedContents asked filled u
contents_as asked filled s u same now = record {
  asked_for = λ k h. now.asked_for k (subst (HasContent k) same h);
  once = subst OnceContent (sym same) now.once;
  came = now.came;
  came_once = now.came_once;
  apart = λ k h a. now.apart k (subst (HasContent k) same h) a;
}

-- one more load was asked about
contents_more : (asked : List Load) (filled : List LaterContent) (s : State) (load : Load) → CountedContents asked filled s → CountedContents (load ∷ asked) filled s
contents_more asked filled s load now = record {
  asked_for = λ k h. inr (now.asked_for k h);
  once = now.once;
  came = λ k h. inr (now.came k h);
  came_once = now.came_once;
  apart = now.apart;
}

-- and leaves a content of its specifier to come
contents_push : (asked : List Load) (filled : List LaterContent) (s : State) (load : Load) (l : LaterContent) → l.specifier ≡ load.specifier → load.context.asset ≡ false → (HasPair (specifier_text load.specifier) false asked → ⊥) → CountedContents asked filled s
    → CountedContents (load ∷ asked) filled (record s { contents = s.contents ++ l ∷ [] })
contents_push asked filled s load l own plain new now = record {
  asked_for = λ k h. ⊎_elim (λ old. inr (now.asked_for k old)) (λ here. inl (here ∙ text, plain)) (content_last k s.contents l h);
  once = once_content s.contents l now.once (λ h. fresh (specifier_text l.specifier) text (now.asked_for (specifier_text l.specifier) h));
  came = λ k h. inr (now.came k h);
  came_once = now.came_once;
  apart = λ k h a. ⊎_elim (λ old. now.apart k old a) (λ here. fresh k (here ∙ text) (now.came k a)) (content_last k s.contents l h);
}
  where
    text : specifier_text l.specifier ≡ specifier_text load.specifier
    text = ap specifier_text own

    fresh : (k : List ℕ) → k ≡ specifier_text load.specifier → HasPair k false asked → ⊥
    fresh k same h = new (subst (λ z. HasPair z false asked) same h)

-- ---- turns

-- a content that an outcome leaves to come is that of the load's own specifier
comes_own : (load : Load) (asked : Asked) (o : Outcome) (l : LaterContent) → Suits load asked o → comes_with o ≡ Some l → l.specifier ≡ load.specifier
comes_own load asked o l settles e = absurd (let wrong : None ≡ Some l = e in true≢false (sym (ap is_some wrong)))
comes_own load asked o l (comes plain) e = sym (ap specifier_in e)
  where
    specifier_in : Option LaterContent → Parts
    specifier_in None = load.specifier
    specifier_in (Some l) = l.specifier
comes_own load asked o l (goes_on none) e = absurd (let wrong : None ≡ Some l = e in true≢false (sym (ap is_some wrong)))

-- only a load that isn't of an asset leaves a content to come
comes_plain : (load : Load) (asked : Asked) (o : Outcome) → Suits load asked o → is_some (comes_with o) ≡ true → load.context.asset ≡ false
comes_plain load asked o settles e = absurd (true≢false (sym e))
comes_plain load asked o (comes plain) e = plain
comes_plain load asked o (goes_on none) e = absurd (true≢false (sym e))

-- an answered load
pub contents_answered : (asked : List Load) (filled : List LaterContent) (most : ℕ) (rest : State) (load : Load) (by : Asked) (o : Outcome) → Suits load by o → Counted asked (record rest { loads = load ∷ rest.loads })
    → CountedContents asked filled (record rest { loads = load ∷ rest.loads }) → CountedContents (load ∷ asked) filled (stored most rest load o)
contents_answered asked filled most rest load by o suits counted now = contents_as (load ∷ asked) filled (with_content rest (comes_with o)) (stored most rest load o) (beside_stored most rest load o).contents (by_content (comes_with o) refl)
  where
    at_rest : CountedContents asked filled rest
    at_rest = contents_as asked filled (record rest { loads = load ∷ rest.loads }) rest refl now

    by_content : (c : Option LaterContent) → comes_with o ≡ c → CountedContents (load ∷ asked) filled (with_content rest c)
    by_content None e = contents_more asked filled rest load at_rest
    by_content (Some l) e =
        let module_load = comes_plain load by o suits (ap is_some e) in
        contents_push asked filled rest load l (comes_own load by o l suits e) module_load (λ h. counted.modules (specifier_text load.specifier) (inl (refl, module_load)) h) at_rest

-- a load that fails without a question
pub contents_failed : (asked : List Load) (filled : List LaterContent) (most : ℕ) (rest : State) (load : Load) (o : Outcome) → comes_with o ≡ None → CountedContents asked filled (record rest { loads = load ∷ rest.loads }) → CountedContents asked filled (stored most rest load o)
contents_failed asked filled most rest load o none now =
    contents_as asked filled rest (stored most rest load o) ((beside_stored most rest load o).contents ∙ ap (λ c. (with_content rest c).contents) none)
    (contents_as asked filled (record rest { loads = load ∷ rest.loads }) rest refl now)

-- the first content that comes later came
pub contents_filled : (asked : List Load) (filled : List LaterContent) (s : State) (l : LaterContent) (ls : List LaterContent) (a : Answer) → s.contents ≡ l ∷ ls → CountedContents asked filled s → CountedContents asked (l ∷ filled) (content_stored s a)
contents_filled asked filled s l ls a first now = record {
  asked_for = λ k h. now.asked_for k (subst (HasContent k) (sym first) (inr (subst (HasContent k) left h)));
  once = subst OnceContent (sym left) split.1;
  came = λ k h. ⊎_elim (λ here. now.asked_for k (subst (HasContent k) (sym first) (inl here))) (now.came k) h;
  came_once = (λ h. now.apart (specifier_text l.specifier) (subst (HasContent (specifier_text l.specifier)) (sym first) (inl refl)) h, now.came_once);
  apart = λ k h a. ⊎_elim
      (λ here. split.0 (subst (λ z. HasContent z ls) here (subst (HasContent k) left h)))
      (λ old. now.apart k (subst (HasContent k) (sym first) (inr (subst (HasContent k) left h))) old)
      a;
}
  where
    left : (content_stored s a).contents ≡ ls
    left = ap (λ (x : List LaterContent). (content_by s x a).contents) first

    split : OnceContent (l ∷ ls)
    split = subst OnceContent first now.once
