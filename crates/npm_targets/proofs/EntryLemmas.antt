-- Entries whose values are changed one after another, and what each tells.
use Rattle.std.proofs.Common.{◌≡◌, ℕ, zero, suc, ◌+◌, List, [], ◌∷◌, ◌++◌, Some, refl, sym, ap, ◌∙◌, map, length, slice_get, arith}
use Rattle.std.specs.Prelude.{flat_map, string_bytes}
use Rattle.std.specs.Option.{unwrap_or}
use Rattle.std.specs.declared.string.String.{String}
use Rattle.indexmap.specs.IndexMap.{set_value_at}
use Rattle.spec_base.specs.Shown.{shown}

module _ {K V L : Type 0} (change : K → V → V) (tell : K → V → List L) where
  -- the entries where those from a place on are still to be changed
  abbrev pub changed_from : ℕ → List (K × V) → List (K × V)
  changed_from zero es = map (λ e. (e.0, change e.0 e.1)) es
  changed_from (suc n) [] = []
  changed_from (suc n) (e ∷ es) = e ∷ changed_from n es

  -- what those from a place on tell
  abbrev pub told_from : ℕ → List (K × V) → List L
  told_from zero es = flat_map (λ e. tell e.0 e.1) es
  told_from (suc n) [] = []
  told_from (suc n) (e ∷ es) = told_from n es

  change_suc : (n : ℕ) (es : List (K × V)) (k : K) (old new : V) → slice_get es n ≡ Some (k, old) → new ≡ change k old → changed_from (suc n) (set_value_at es n new) ≡ changed_from n es
  change_suc zero [] k old new at is = refl
  change_suc zero (e ∷ es) k old new at is =
      ap (λ v. (e.0, v) ∷ map (λ x. (x.0, change x.0 x.1)) es) (is ∙ ap (λ o. change (unwrap_or {T = K × V} o (k, old)).0 (unwrap_or {T = K × V} o (k, old)).1) (sym at))
  change_suc (suc n) [] k old new at is = refl
  change_suc (suc n) (e ∷ es) k old new at is = ap (λ r. e ∷ r) (change_suc n es k old new at is)

  -- the value at the place is changed
  pub change_next : (n : ℕ) (es : List (K × V)) (k : K) (old new : V) → slice_get es n ≡ Some (k, old) → new ≡ change k old → changed_from (n + 1) (set_value_at es n new) ≡ changed_from n es
  change_next n es k old new at is =
      let next : n + 1 ≡ suc n = omega arith in
      ap (λ m. changed_from m (set_value_at es n new)) next ∙ change_suc n es k old new at is

  pub all_changed : (es : List (K × V)) → changed_from (length es) es ≡ es
  all_changed [] = refl
  all_changed (e ∷ es) = ap (λ r. e ∷ r) (all_changed es)

  tell_suc : (n : ℕ) (es : List (K × V)) (k : K) (old new : V) → slice_get es n ≡ Some (k, old) → told_from n es ≡ tell k old ++ told_from (suc n) (set_value_at es n new)
  tell_suc zero [] k old new at = absurd (no_entry at)
    where
      no_entry : {A : Type 0} {x : A} → slice_get {X = A} [] 0 ≡ Some x → ⊥
      no_entry e = cc
  tell_suc zero (e ∷ es) k old new at = ap (λ o. tell (unwrap_or {T = K × V} o (k, old)).0 (unwrap_or {T = K × V} o (k, old)).1 ++ flat_map (λ x. tell x.0 x.1) es) at
  tell_suc (suc n) [] k old new at = absurd (no_entry at)
    where
      no_entry : {A : Type 0} {x : A} → slice_get {X = A} [] (suc n) ≡ Some x → ⊥
      no_entry e = cc
  tell_suc (suc n) (e ∷ es) k old new at = tell_suc n es k old new at

  -- the value at the place tells first
  pub tell_next : (n : ℕ) (es : List (K × V)) (k : K) (old new : V) → slice_get es n ≡ Some (k, old) → told_from n es ≡ tell k old ++ told_from (n + 1) (set_value_at es n new)
  tell_next n es k old new at =
      let next : suc n ≡ n + 1 = omega arith in
      tell_suc n es k old new at ∙ ap (λ m. tell k old ++ told_from m (set_value_at es n new)) next

  pub all_told : (es : List (K × V)) → told_from (length es) es ≡ []
  all_told [] = refl
  all_told (e ∷ es) = all_told es

-- the same by the bytes of keys
module _ {A V L : Type 0} (change : List ℕ → V → V) (tell : List ℕ → V → List L) where
  pub changed_shown : (es : List (String A × V)) → shown (map (λ e. (e.0, change (string_bytes e.0) e.1)) es) ≡ map (λ e. (e.0, change e.0 e.1)) (shown es)
  changed_shown [] = refl
  changed_shown (e ∷ es) = ap (λ rest. (string_bytes e.0, change (string_bytes e.0) e.1) ∷ rest) (changed_shown es)

  pub told_shown : (es : List (String A × V)) → flat_map (λ e. tell (string_bytes e.0) e.1) es ≡ flat_map (λ e. tell e.0 e.1) (shown es)
  told_shown [] = refl
  told_shown (e ∷ es) = ap (λ rest. tell (string_bytes e.0) e.1 ++ rest) (told_shown es)
