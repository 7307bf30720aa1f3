-- Lists of loads, by the texts of their specifiers and by whether they are of assets.
use Rattle.std.proofs.Common.{◌≡◌, ℕ, List, [], ◌∷◌, ◌++◌, Bool, true, false, ◌&&◌, ◌||◌, if◌then◌else◌, is_some, refl, sym, ap, ◌∙◌, inl, inr, ⊎_elim, ◌⊎◌}
use Rattle.std.specs.List.{list_any}
use Rattle.std.specs.Map.{lookup}
use Rattle.std.proofs.lemmas.Bool.{true≢false}
use Rattle.indexmap.specs.IndexMap.{insert_entry}
use Rattle.url.specs.Parts.{Parts}
use Rattle.spec_base.specs.Specifier.{same_specifier, specifier_text}
use Rattle.module_slots.specs.declared.load.Load.{Load}
use Rattle.module_slots.specs.declared.load.LoadContext.{LoadContext}
use Rattle.graph_core.proofs.At.{text_of_same}
use Rattle.graph_turns.proofs.Entering.Loads.{HasLoad, Once}
use Rattle.graph_turns.specs.Machine.Entering.{Waits, deferred_with, opens_asset}

-- a load of the text k, as an asset or not
abbrev pub HasPair : List ℕ → Bool → List Load → Type 0
HasPair k b [] = ⊥
HasPair k b (load ∷ loads) = ((k ≡ specifier_text load.specifier) × (load.context.asset ≡ b)) ⊎ HasPair k b loads

pub pair_load : (k : List ℕ) (b : Bool) (loads : List Load) → HasPair k b loads → HasLoad k loads
pair_load k b [] h = h
pair_load k b (load ∷ loads) h = ⊎_elim (λ e. inl e.0) (λ r. inr (pair_load k b loads r)) h

pub pair_left : (k : List ℕ) (b : Bool) (loads more : List Load) → HasPair k b loads → HasPair k b (loads ++ more)
pair_left k b [] more h = absurd h
pair_left k b (load ∷ loads) more h = ⊎_elim inl (λ r. inr (pair_left k b loads more r)) h

pub pair_last : (k : List ℕ) (b : Bool) (loads : List Load) (load : Load) → HasPair k b (loads ++ load ∷ []) → HasPair k b loads ⊎ ((k ≡ specifier_text load.specifier) × (load.context.asset ≡ b))
pair_last k b [] load h = ⊎_elim inr (λ n. absurd n) h
pair_last k b (l ∷ loads) load h = ⊎_elim (λ e. inl (inl e)) (λ r. ⊎_elim (λ a. inl (inr a)) inr (pair_last k b loads load r)) h

pair_both : (k : List ℕ) (b : Bool) (loads others : List Load) → HasPair k b (loads ++ others) → HasPair k b loads ⊎ HasPair k b others
pair_both k b [] others h = inr h
pair_both k b (load ∷ loads) others h = ⊎_elim (λ e. inl (inl e)) (λ r. ⊎_elim (λ l. inl (inr l)) inr (pair_both k b loads others r)) h

-- some open load is of an asset there
pub asset_open : (at : Parts) (loads : List Load) → list_any (opens_asset at) loads ≡ true → HasPair (specifier_text at) true loads
asset_open at [] e = absurd (true≢false (sym e))
asset_open at (load ∷ loads) e = by (asset_open at loads) (same_specifier at load.specifier) refl load.context.asset refl
  where
    on : opens_asset at load ≡ false → list_any (opens_asset at) loads ≡ true
    on f = sym (ap (λ b. b || list_any (opens_asset at) loads) f) ∙ e

    by : (list_any (opens_asset at) loads ≡ true → HasPair (specifier_text at) true loads) → (x : Bool) → same_specifier at load.specifier ≡ x → (y : Bool) → load.context.asset ≡ y → HasPair (specifier_text at) true (load ∷ loads)
    by rest true t true a = inl (text_of_same at load.specifier t, a)
    by rest true t false a = inr (rest (on (ap (λ z. z && load.context.asset) t ∙ a)))
    by rest false t y a = inr (rest (on (ap (λ z. z && load.context.asset) t)))

-- ---- none twice

-- no two loads of one text for one purpose
abbrev pub Apart : List Load → Type 0
Apart [] = Unit {0}
Apart (load ∷ loads) = (HasPair (specifier_text load.specifier) load.context.asset loads → ⊥) × Apart loads

pub apart_both : (loads asked : List Load) → Once loads → ((k : List ℕ) (b : Bool) → HasPair k b loads → HasPair k b asked → ⊥) → Apart asked → Apart (loads ++ asked)
apart_both [] asked o new d = d
apart_both (load ∷ loads) asked o new d = (
  λ a. ⊎_elim (λ l. o.0 (pair_load (specifier_text load.specifier) load.context.asset loads l)) (new (specifier_text load.specifier) load.context.asset (inl (refl, refl))) (pair_both (specifier_text load.specifier) load.context.asset loads asked a),
  apart_both loads asked o.1 (λ k b h. new k b (inr h)) d,
)

-- ---- loads that are deferred

-- one of a text that waits
abbrev pub HasDeferred : List ℕ → Waits → Type 0
HasDeferred k [] = ⊥
HasDeferred k (e ∷ es) = (k ≡ specifier_text e.0) ⊎ HasDeferred k es

put_deferred : (k : List ℕ) (es : Waits) (s : Parts) (c : LoadContext) → HasDeferred k (insert_entry same_specifier es s c) → HasDeferred k es ⊎ (k ≡ specifier_text s)
put_deferred k [] s c h = ⊎_elim inr (λ n. absurd n) h
put_deferred k (e ∷ es) s c h = by (same_specifier s e.0) (put_deferred k es s c) h
  where
    by : (b : Bool) → (HasDeferred k (insert_entry same_specifier es s c) → HasDeferred k es ⊎ (k ≡ specifier_text s)) → HasDeferred k (if b then (e.0, c) ∷ es else e ∷ insert_entry same_specifier es s c) → HasDeferred k (e ∷ es) ⊎ (k ≡ specifier_text s)
    by true rest h = inl h
    by false rest h = ⊎_elim (λ same. inl (inl same)) (λ r. ⊎_elim (λ a. inl (inr a)) inr (rest r)) h

pub with_deferred : (k : List ℕ) (es : Waits) (s : Parts) (c : LoadContext) → HasDeferred k (deferred_with es s c) → HasDeferred k es ⊎ (k ≡ specifier_text s)
with_deferred k es s c h = by (is_some (lookup (same_specifier s) es)) h
  where
    by : (b : Bool) → HasDeferred k (if b then es else insert_entry same_specifier es s c) → HasDeferred k es ⊎ (k ≡ specifier_text s)
    by true h = inl h
    by false h = put_deferred k es s c h
