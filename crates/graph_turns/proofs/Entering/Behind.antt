-- Configured imports that a graph gets stand behind those that it had.
use Rattle.std.proofs.Common.{◌≡◌, ◌⊎◌, ◌≤◌, List, [], ◌∷◌, ◌++◌, Bool, true, false, Some, refl, sym, ap, ◌∙◌, subst, inl, inr, ⊎_elim, if◌then◌else◌, drop, length, append_assoc, length-append, arith}
use Rattle.std.specs.Prelude.{is_some}
use Rattle.std.specs.Map.{lookup}
use Rattle.std.proofs.lemmas.List.{append-nil}
use Rattle.std.proofs.lemmas.Grind.{flat_map-append}
use Rattle.std.proofs.Math.Seq.{drop-append_seam}
use Rattle.indexmap.specs.IndexMap.{insert_entry}
use Rattle.url.specs.Parts.{Parts}
use Rattle.spec_base.specs.Specifier.{same_specifier}
use Rattle.graph_dependencies.specs.declared.graph_import.GraphImport.{GraphImport}
use Rattle.graph_core.specs.Edges.{import_edges, import_loads}
use Rattle.graph_turns.specs.Promise.Input.{with_import, imports_with}
use Rattle.graph_turns.specs.Machine.Starting.{added_imports}

abbrev Imports : Type 0
Imports = List (Parts × GraphImport)

-- an entry at an unknown key goes last
inserted_last : (es : Imports) (k : Parts) (v : GraphImport) → is_some (lookup (same_specifier k) es) ≡ false → insert_entry same_specifier es k v ≡ es ++ (k, v) ∷ []
inserted_last [] k v h = refl
inserted_last (e ∷ es) k v h = by (same_specifier k e.0) h (inserted_last es k v)
  where
    by : (b : Bool) → is_some (if b then Some e.1 else lookup (same_specifier k) es) ≡ false → (is_some (lookup (same_specifier k) es) ≡ false → insert_entry same_specifier es k v ≡ es ++ (k, v) ∷ []) → (if b then (e.0, v) ∷ es else e ∷ insert_entry same_specifier es k v) ≡ e ∷ (es ++ (k, v) ∷ [])
    by true h rest = cc
    by false h rest = ap (λ (l : Imports). e ∷ l) (rest h)

-- imports of a referrer stay away, or go last
put_one : (es : Imports) (e : Parts × GraphImport) → (with_import es e ≡ es) ⊎ (with_import es e ≡ es ++ e ∷ [])
put_one es e = by (is_some (lookup (same_specifier e.0) es)) (inserted_last es e.0 e.1)
  where
    by : (b : Bool) → (b ≡ false → insert_entry same_specifier es e.0 e.1 ≡ es ++ e ∷ []) → ((if b then es else insert_entry same_specifier es e.0 e.1) ≡ es) ⊎ ((if b then es else insert_entry same_specifier es e.0 e.1) ≡ es ++ e ∷ [])
    by true last = inl refl
    by false last = inr (last refl)

abbrev Grows : Imports → Imports → Type 0
Grows old new = (more : Imports) × (new ≡ old ++ more)

grown : (old given : Imports) → Grows old (imports_with old given)
grown old [] = ([], sym (append-nil old))
grown old (e ∷ es) = ⊎_elim
    (λ same. subst (λ (l : Imports). Grows old (imports_with l es)) (sym same) (grown old es))
    (λ last. subst (λ (l : Imports). Grows old (imports_with l es)) (sym last) (let rest = grown (old ++ e ∷ []) es in (e ∷ rest.0, rest.1 ∙ append_assoc old (e ∷ []) rest.0)))
    (put_one old e)

-- the added imports are those behind
behind : (old given : Imports) → imports_with old given ≡ old ++ added_imports old given
behind old given =
    let new = grown old given in
    new.1 ∙ ap (λ (l : Imports). old ++ l) (sym (ap (drop (length old)) new.1 ∙ drop-append_seam old new.0))

loads_behind : (dynamic : Bool) (old given : Imports) → import_loads dynamic (imports_with old given) ≡ import_loads dynamic old ++ import_loads dynamic (added_imports old given)
loads_behind dynamic old given =
    ap (λ (l : Imports). import_loads dynamic l) (behind old given) ∙ flat_map-append (λ (i : Parts × GraphImport). import_edges dynamic i.1.dependencies) old (added_imports old given)

-- so their loads are those behind
pub added_behind : (dynamic : Bool) (old given : Imports) → drop (length (import_loads dynamic old)) (import_loads dynamic (imports_with old given)) ≡ import_loads dynamic (added_imports old given)
added_behind dynamic old given =
    ap (drop (length (import_loads dynamic old))) (loads_behind dynamic old given) ∙ drop-append_seam (import_loads dynamic old) (import_loads dynamic (added_imports old given))

pub stood_within : (dynamic : Bool) (old given : Imports) → length (import_loads dynamic old) ≤ length (import_loads dynamic (imports_with old given))
stood_within dynamic old given = let e = ap length (loads_behind dynamic old given) ∙ length-append (import_loads dynamic old) (import_loads dynamic (added_imports old given)) in omega arith
