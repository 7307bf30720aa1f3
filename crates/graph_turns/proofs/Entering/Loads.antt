-- Lists of loads, by the texts of their specifiers.
use Rattle.std.proofs.Common.{◌≡◌, ℕ, List, [], ◌∷◌, ◌++◌, map, Bool, true, false, not, is_some, ◌&&◌, if◌then◌else◌, refl, sym, ap, ◌∙◌, subst, inl, inr, ⊎_elim, ◌⊎◌, Option, Some, None}
use Rattle.std.specs.Map.{lookup}
use Rattle.indexmap.specs.IndexMap.{insert_entry}
use Rattle.url.specs.Parts.{Parts}
use Rattle.spec_base.specs.Specifier.{same_specifier, specifier_text}
use Rattle.spec_base.specs.declared.position.Range.{Range}
use Rattle.graph_dependencies.specs.declared.dependency.Dependency.{Dependency}
use Rattle.graph_dependencies.specs.declared.dependency.TypesDependency.{TypesDependency}
use Rattle.graph_dependencies.specs.declared.graph_import.GraphImport.{GraphImport}
use Rattle.module_slots.specs.declared.load.Load.{Load}
use Rattle.module_slots.specs.declared.load.LoadContext.{LoadContext}
use Rattle.graph_errors.specs.declared.resolution.Resolution.{Resolution}
use Rattle.graph_errors.specs.declared.resolution.Resolution.TheVariants.{None as Nowhere, Ok as Leads, Err as Fails}
use Rattle.module_slots.specs.declared.slot.Module.{Module}
use Rattle.module_slots.specs.declared.slot.JsModule.{JsModule}
use Rattle.module_slots.specs.declared.slot.Module.TheVariants.{Js, Json, Wasm, Npm, Node, External}
use Rattle.module_slots.specs.declared.slot.ModuleSlot.{ModuleSlot}
use Rattle.module_slots.specs.declared.slot.ModuleSlot.TheVariants.{Module as Stands}
use Rattle.graph_dependencies.specs.declared.graph_kind.GraphKind.{GraphKind}
use Rattle.graph_dependencies.specs.Kinds.{include_code}
use Rattle.graph_core.specs.Edges.{edge_context, source_map_context, source_map_edge, source_map_edges, types_context, import_context, edge_of, both_edges, edges_by, edges_of, types_edge, import_edges, import_loads, loads_of}
use Rattle.graph_turns.specs.Machine.Turns.{waited_imports}
use Rattle.graph_core.proofs.At.{text_of_same}
use Rattle.graph_turns.specs.Machine.Entering.{Imports, edges_from, queued, stays}

-- a load of the text k
abbrev pub HasLoad : List ℕ → List Load → Type 0
HasLoad k [] = ⊥
HasLoad k (load ∷ loads) = (k ≡ specifier_text load.specifier) ⊎ HasLoad k loads

-- no two loads of one text
abbrev pub Once : List Load → Type 0
Once [] = Unit {0}
Once (load ∷ loads) = (HasLoad (specifier_text load.specifier) loads → ⊥) × Once loads

-- a specifier of the text k
abbrev pub HasText : List ℕ → List Parts → Type 0
HasText k [] = ⊥
HasText k (s ∷ ss) = (k ≡ specifier_text s) ⊎ HasText k ss

pub has_load_left : (k : List ℕ) (loads more : List Load) → HasLoad k loads → HasLoad k (loads ++ more)
has_load_left k [] more h = absurd h
has_load_left k (load ∷ loads) more (inl e) = inl e
has_load_left k (load ∷ loads) more (inr h) = inr (has_load_left k loads more h)

pub has_load_right : (k : List ℕ) (before loads : List Load) → HasLoad k loads → HasLoad k (before ++ loads)
has_load_right k [] loads h = h
has_load_right k (load ∷ before) loads h = inr (has_load_right k before loads h)

pub has_both : (k : List ℕ) (loads others : List Load) → HasLoad k (loads ++ others) → HasLoad k loads ⊎ HasLoad k others
has_both k [] others a = inr a
has_both k (load ∷ loads) others a = ⊎_elim (λ e. inl (inl e)) (λ r. ⊎_elim (λ l. inl (inr l)) inr (has_both k loads others r)) a

pub has_load_last : (loads : List Load) (load : Load) → HasLoad (specifier_text load.specifier) (loads ++ load ∷ [])
has_load_last [] load = inl refl
has_load_last (l ∷ loads) load = inr (has_load_last loads load)

pub has_load_cases : (k : List ℕ) (loads : List Load) (load : Load) → HasLoad k (loads ++ load ∷ []) → HasLoad k loads ⊎ (k ≡ specifier_text load.specifier)
has_load_cases k [] load (inl e) = inr e
has_load_cases k [] load (inr h) = absurd h
has_load_cases k (l ∷ loads) load (inl e) = inl (inl e)
has_load_cases k (l ∷ loads) load (inr h) = ⊎_elim (λ a. inl (inr a)) inr (has_load_cases k loads load h)

pub once_push : (loads : List Load) (load : Load) → Once loads → (HasLoad (specifier_text load.specifier) loads → ⊥) → Once (loads ++ load ∷ [])
once_push [] load once new = (λ h. h, tt)
once_push (l ∷ loads) load once new =
    (λ h. ⊎_elim once.0 (λ same. new (inl (sym same))) (has_load_cases (specifier_text l.specifier) loads load h), once_push loads load once.1 (λ h. new (inr h)))

-- ---- the edges of a slot

-- the targets of an edge don't hang on its context
edge_targets : (k : List ℕ) (F G : Range → LoadContext) (t : Bool) (r : Resolution) → HasLoad k (edge_of F t r) → HasLoad k (edge_of G t r)
edge_targets k F G t Nowhere h = h
edge_targets k F G t (Leads r) h = h
edge_targets k F G t (Fails e) h = h

both_targets : (k : List ℕ) (xs xs' ys ys' : List Load) → (HasLoad k xs → HasLoad k xs') → (HasLoad k ys → HasLoad k ys') → HasLoad k (xs ++ ys) → HasLoad k (xs' ++ ys')
both_targets k xs xs' ys ys' first second h = ⊎_elim
    (λ a. has_load_left k xs' ys' (first a))
    (λ b. has_load_right k xs' ys' (second b))
    (has_both k xs ys h)

pair_targets : (k : List ℕ) (F G : Range → LoadContext) (d : Dependency) → HasLoad k (both_edges F d) → HasLoad k (both_edges G d)
pair_targets k F G d h = both_targets k (edge_of F false d.maybe_code) (edge_of G false d.maybe_code) (edge_of F true d.maybe_type) (edge_of G true d.maybe_type)
    (edge_targets k F G false d.maybe_code) (edge_targets k F G true d.maybe_type) h

if_targets : (k : List ℕ) (b : Bool) (xs ys : List Load) → (HasLoad k xs → HasLoad k ys) → HasLoad k (if b then [] else xs) → HasLoad k (if b then [] else ys)
if_targets k true xs ys f h = h
if_targets k false xs ys f h = f h

dependency_targets : (k : List ℕ) (skip : Bool) (c d : LoadContext) (dependencies : List (List ℕ × Dependency)) → HasLoad k (edges_of skip c dependencies) → HasLoad k (edges_of skip d dependencies)
dependency_targets k skip c d [] h = absurd h
dependency_targets k skip c d (e ∷ es) h = both_targets k (edges_by skip c e.1) (edges_by skip d e.1) (edges_of skip c es) (edges_of skip d es)
    (if_targets k (e.1.is_dynamic && skip) (both_edges (edge_context c e.1) e.1) (both_edges (edge_context d e.1) e.1) (pair_targets k (edge_context c e.1) (edge_context d e.1) e.1))
    (dependency_targets k skip c d es) h

types_targets : (k : List ℕ) (c d : LoadContext) (types : Option TypesDependency) → HasLoad k (types_edge c types) → HasLoad k (types_edge d types)
types_targets k c d None h = h
types_targets k c d (Some t) h = edge_targets k (types_context c) (types_context d) true t.dependency h

map_targets : (k : List ℕ) (c d : LoadContext) (map : Option TypesDependency) → HasLoad k (source_map_edge c map) → HasLoad k (source_map_edge d map)
map_targets k c d None h = h
map_targets k c d (Some t) h = edge_targets k (source_map_context c) (source_map_context d) false t.dependency h

source_map_targets : (k : List ℕ) (kind : GraphKind) (m : JsModule) (c d : LoadContext) → HasLoad k (source_map_edges kind m c) → HasLoad k (source_map_edges kind m d)
source_map_targets k kind m c d = if_targets k (not (include_code kind) && is_some m.maybe_types_dependency) (source_map_edge c m.maybe_source_map_dependency) (source_map_edge d m.maybe_source_map_dependency) (map_targets k c d m.maybe_source_map_dependency)

same_targets : (k : List ℕ) (kind : GraphKind) (skip : Bool) (m : Module) (c d : LoadContext) → HasLoad k (loads_of kind skip m c) → HasLoad k (loads_of kind skip m d)
unfolding loads_of
same_targets k kind skip (Js m) c d h = both_targets k (source_map_edges kind m c ++ edges_of skip c m.dependencies) (source_map_edges kind m d ++ edges_of skip d m.dependencies) (types_edge c m.maybe_types_dependency) (types_edge d m.maybe_types_dependency)
    (both_targets k (source_map_edges kind m c) (source_map_edges kind m d) (edges_of skip c m.dependencies) (edges_of skip d m.dependencies)
    (source_map_targets k kind m c d) (dependency_targets k skip c d m.dependencies))
    (types_targets k c d m.maybe_types_dependency)
    h
same_targets k kind skip (Json m) c d h = h
same_targets k kind skip (Wasm m) c d h = dependency_targets k skip c d m.dependencies h
same_targets k kind skip (Npm m) c d h = h
same_targets k kind skip (Node m) c d h = h
same_targets k kind skip (External m) c d h = h

pub edges_here : (k : List ℕ) (kind : GraphKind) (skip : Bool) (slot : ModuleSlot) (m : Module) (c d : LoadContext) → slot ≡ Stands m → HasLoad k (loads_of kind skip m c) → HasLoad k (edges_from kind skip slot d)
edges_here k kind skip slot m c d e h = subst (λ v. HasLoad k (edges_from kind skip v d)) (sym e) (same_targets k kind skip m c d h)

-- those of configured imports don't hang on the phase
import_targets : (k : List ℕ) (x y : Bool) (dependencies : List (List ℕ × Dependency)) → HasLoad k (import_edges x dependencies) → HasLoad k (import_edges y dependencies)
import_targets k x y [] h = absurd h
import_targets k x y (e ∷ es) h = both_targets k (both_edges (import_context x) e.1) (both_edges (import_context y) e.1) (import_edges x es) (import_edges y es)
    (pair_targets k (import_context x) (import_context y) e.1) (import_targets k x y es) h

pub same_imports : (k : List ℕ) (x y : Bool) (imports : List (Parts × GraphImport)) → HasLoad k (import_loads x imports) → HasLoad k (import_loads y imports)
same_imports k x y [] h = absurd h
same_imports k x y (i ∷ is) h = both_targets k (import_edges x i.1.dependencies) (import_edges y i.1.dependencies) (import_loads x is) (import_loads y is)
    (import_targets k x y i.1.dependencies) (same_imports k x y is) h

-- ---- dynamic imports that wait

-- one of the text k
abbrev pub HasKey : List ℕ → Imports → Type 0
HasKey k [] = ⊥
HasKey k (e ∷ es) = (k ≡ specifier_text e.0) ⊎ HasKey k es

-- each stands at its target
abbrev pub Keyed : Imports → Type 0
Keyed [] = Unit {0}
Keyed (e ∷ es) = (specifier_text e.0 ≡ specifier_text e.1.specifier) × Keyed es

abbrev pub put_import : Imports → Parts → Load → Imports
put_import es s load = insert_entry same_specifier es s load

pub put_by : (s : Parts) (load : Load) (e : Parts × Load) (es : Imports) (P : Imports → Type 0) → (same_specifier s e.0 ≡ true → P ((e.0, load) ∷ es)) → (same_specifier s e.0 ≡ false → P (e ∷ put_import es s load)) → P (put_import (e ∷ es) s load)
put_by s load e es P here on = by (same_specifier s e.0) here on
  where
    by : (b : Bool) → (b ≡ true → P ((e.0, load) ∷ es)) → (b ≡ false → P (e ∷ put_import es s load)) → P (if b then (e.0, load) ∷ es else e ∷ put_import es s load)
    by true h o = h refl
    by false h o = o refl

pub key_put : (es : Imports) (s : Parts) (load : Load) → HasKey (specifier_text s) (put_import es s load)
key_put [] s load = inl refl
key_put (e ∷ es) s load = put_by s load e es (HasKey (specifier_text s)) (λ t. inl (text_of_same s e.0 t)) (λ f. inr (key_put es s load))

pub key_still : (k : List ℕ) (es : Imports) (s : Parts) (load : Load) → HasKey k es → HasKey k (put_import es s load)
key_still k [] s load h = absurd h
key_still k (e ∷ es) s load h = put_by s load e es (HasKey k) (λ t. ⊎_elim inl inr h) (λ f. ⊎_elim inl (λ r. inr (key_still k es s load r)) h)

pub keyed_put : (es : Imports) (load : Load) → Keyed es → Keyed (put_import es load.specifier load)
keyed_put [] load h = (refl, tt)
keyed_put (e ∷ es) load h = put_by load.specifier load e es Keyed (λ t. (sym (text_of_same load.specifier e.0 t), h.1)) (λ f. (h.0, keyed_put es load h.1))

key_found : (s : Parts) (es : Imports) (old : Load) → lookup (same_specifier s) es ≡ Some old → HasKey (specifier_text s) es
key_found s [] old e = cc
key_found s (x ∷ es) old e = by (key_found s es old) (same_specifier s x.0) refl
  where
    by : (lookup (same_specifier s) es ≡ Some old → HasKey (specifier_text s) es) → (b : Bool) → same_specifier s x.0 ≡ b → HasKey (specifier_text s) (x ∷ es)
    by rest true t = inl (text_of_same s x.0 t)
    by rest false f = inr (rest (sym (ap (λ b. if b then Some x.1 else lookup (same_specifier s) es) f) ∙ e))

-- the target of an import that comes waits
pub data Queued (es : Imports) (load : Load) : Imports → Type 0 where
  stood : {old : Load} → lookup (same_specifier load.specifier) es ≡ Some old → Queued es load es
  put : Queued es load (put_import es load.specifier load)

pub how_queued : (es : Imports) (load : Load) → Queued es load (queued es load)
how_queued es load = by_found (lookup (same_specifier load.specifier) es) refl
  where
    by_stays : Bool → Imports
    by_stays b = if b then es else put_import es load.specifier load

    by_before : (old : Load) → lookup (same_specifier load.specifier) es ≡ Some old → (b : Bool) → stays (Some old) load ≡ b → Queued es load (by_stays (stays (Some old) load))
    by_before old e true t = subst (Queued es load) (sym (ap by_stays t)) (stood e)
    by_before old e false t = subst (Queued es load) (sym (ap by_stays t)) put

    by_found : (o : Option Load) → lookup (same_specifier load.specifier) es ≡ o → Queued es load (queued es load)
    by_found None e = subst (Queued es load) (sym (ap (λ o. by_stays (stays o load)) e)) put
    by_found (Some old) e = subst (Queued es load) (sym (ap (λ o. by_stays (stays o load)) e)) (by_before old e (stays (Some old) load) refl)

pub key_queued : (es : Imports) (load : Load) (new : Imports) → Queued es load new → HasKey (specifier_text load.specifier) new
key_queued es load new (stood {old} e) = key_found load.specifier es old e
key_queued es load new put = key_put es load.specifier load

pub key_kept : (k : List ℕ) (es : Imports) (load : Load) (new : Imports) → Queued es load new → HasKey k es → HasKey k new
key_kept k es load new (stood e) h = h
key_kept k es load new put h = key_still k es load.specifier load h

pub keyed_queued : (es : Imports) (load : Load) (new : Imports) → Queued es load new → Keyed es → Keyed new
keyed_queued es load new (stood e) h = h
keyed_queued es load new put h = keyed_put es load h

pub waited_due : (k : List ℕ) (names : List Parts) (es : Imports) → Keyed es → HasKey k es → HasLoad k (waited_imports names es)
waited_due k names [] keyed h = absurd h
waited_due k names (e ∷ es) keyed h = ⊎_elim (λ same. inl (same ∙ keyed.0)) (λ r. inr (waited_due k names es keyed.1 r)) h

-- ---- roots

pub roots_due : (F : Parts → Load) → ((s : Parts) → (F s).specifier ≡ s) → (k : List ℕ) (ss : List Parts) → HasText k ss → HasLoad k (map F ss)
roots_due F same k [] h = absurd h
roots_due F same k (s ∷ ss) (inl e) = inl (e ∙ ap specifier_text (sym (same s)))
roots_due F same k (s ∷ ss) (inr h) = inr (roots_due F same k ss h)
