-- Entries whose values are changed or kept, whatever their keys are.
use Rattle.std.proofs.Common.{◌≡◌, ℕ, zero, suc, ◌+◌, ◌==◌, Bool, true, false, not, List, [], ◌∷◌, Option, Some, cond, refl, sym, ap, ◌∙◌, subst, filter, map, length, slice_get, arith}
use Rattle.std.specs.Prelude.{string_bytes}
use Rattle.std.specs.Option.{unwrap_or}
use Rattle.std.specs.Map.{values_of}
use Rattle.std.specs.Map.Calls.{RetainsPairs}
use Rattle.std.specs.declared.string.String.{String}
use Rattle.indexmap.specs.IndexMap.{set_value_at}
use Rattle.spec_base.specs.Shown.{shown}
use Rattle.graph_dependencies.specs.declared.dependency.Dependency.{Dependency}
use Rattle.graph_dependencies.specs.declared.graph_kind.GraphKind.{GraphKind}
use Rattle.import_records.specs.Cut.{cut, cut_one}
use Rattle.import_records.specs.Dependencies.{settled, settled_and_kept}

-- ---- kept by a test of what a closure makes of each value

-- what a map's `retain` leaves, where the closure changes each value and keeps no state
module _ {K X F : Type 0} (T : F → K → X → Bool → X → F → Type 0) (change : X → X) (test : X → Bool) (f : F)
    (says : (k : K) (v : X) (b : Bool) (w : X) (g : F) → T f k v b w g → (b ≡ test (change v)) × (w ≡ change v) × (g ≡ f)) where
  pub changed_and_kept : (es kept : List (K × X)) → RetainsPairs T f es kept → kept ≡ filter (λ e. test e.1) (map (λ e. (e.0, change e.1)) es)
  changed_and_kept [] kept h = h
  changed_and_kept (e ∷ es) kept h =
      let s = says e.0 e.1 h.0 h.1 h.2 h.4 in
      let rest = changed_and_kept es h.3 (subst (λ g. RetainsPairs T g es h.3) s.2 h.5) in
      h.6 ∙ (λ j. cond (s.0 j) ((e.0, s.1 j) ∷ rest j) (rest j))

kept_choice : {A : Type 0} (b : Bool) (e : String A × Dependency) (es : List (String A × Dependency)) → shown (cond b (e ∷ es) es) ≡ cond b (shown (e ∷ es)) (shown es)
kept_choice true e es = refl
kept_choice false e es = refl

-- the entries that are kept, by the bytes of their keys
pub settled_shown : {A : Type 0} (es : List (String A × Dependency)) → shown (settled_and_kept es) ≡ settled_and_kept (shown es)
settled_shown [] = refl
settled_shown (e ∷ es) =
    kept_choice (not (length (settled e.1).imports == 0)) (e.0, settled e.1) (settled_and_kept es)
    ∙ ap (λ rest. cond (not (length (settled e.1).imports == 0)) ((string_bytes e.0, settled e.1) ∷ rest) rest) (settled_shown es)

-- ---- changed one after another

-- the entries where those from a place on are still to be changed
abbrev pub changed_from : {K V : Type 0} → (V → V) → ℕ → List (K × V) → List (K × V)
changed_from f zero es = map (λ e. (e.0, f e.1)) es
changed_from f (suc n) [] = []
changed_from f (suc n) (e ∷ es) = e ∷ changed_from f n es

change_suc : {K V : Type 0} (f : V → V) (n : ℕ) (es : List (K × V)) (old new : V) → slice_get (values_of es) n ≡ Some old → new ≡ f old → changed_from f (suc n) (set_value_at es n new) ≡ changed_from f n es
change_suc f zero [] old new value is = refl
change_suc f zero (e ∷ es) old new value is =
    ap (λ v. (e.0, v) ∷ map (λ x. (x.0, f x.1)) es) (is ∙ ap f (sym (ap (λ o. unwrap_or o old) value)))
change_suc f (suc n) [] old new value is = refl
change_suc f (suc n) (e ∷ es) old new value is = ap (λ r. e ∷ r) (change_suc f n es old new value is)

-- the value at the place is changed
pub change_next : {K V : Type 0} (f : V → V) (n : ℕ) (es : List (K × V)) (old new : V) → Some old ≡ slice_get (values_of es) n → new ≡ f old → changed_from f (n + 1) (set_value_at es n new) ≡ changed_from f n es
change_next f n es old new value is =
    let next : n + 1 ≡ suc n = omega arith in
    ap (λ m. changed_from f m (set_value_at es n new)) next ∙ change_suc f n es old new (sym value) is

pub all_changed : {K V : Type 0} (f : V → V) (es : List (K × V)) → changed_from f (length es) es ≡ es
all_changed f [] = refl
all_changed f (e ∷ es) = ap (λ r. e ∷ r) (all_changed f es)

-- cut entries, by the bytes of their keys
pub cut_shown : {A : Type 0} (kind : GraphKind) (skip : Bool) (es : List (String A × Dependency)) → shown (cut kind skip es) ≡ cut kind skip (shown es)
cut_shown kind skip [] = refl
cut_shown kind skip (e ∷ es) = ap (λ rest. (string_bytes e.0, cut_one kind skip e.1) ∷ rest) (cut_shown kind skip es)
