-- Texts put one after another with a value each stand once, in order.
use Rattle.std.proofs.Common.{◌≡◌, ℕ, List, [], ◌∷◌, ◌++◌, Bool, true, false, refl, sym, ap, ◌∙◌, if◌then◌else◌, fold, map, bytes_eq}
use Rattle.std.proofs.lemmas.List.{append-nil, append_assoc}
use Rattle.std.specs.List.{list_any}
use Rattle.indexmap.specs.IndexMap.{insert_entry}
use Rattle.seen_pending.specs.Once.{unseen, each_once}
use Rattle.graph_dependencies.specs.declared.dependency.Dependency.{Dependency}
use Rattle.graph_dependencies.specs.declared.graph_import.GraphImport.{GraphImport}
use Rattle.import_records.proofs.Grouping.{add, distinct, none_twice, distinct_add, table, inserted}

-- the texts of a list, each added once
added_all : (seen ts : List (List ℕ)) → fold add seen ts ≡ seen ++ unseen bytes_eq seen ts
unfolding unseen
added_all seen [] = sym (append-nil seen)
added_all seen (t ∷ ts) = by (list_any (bytes_eq t) seen) (added_all seen ts) (added_all (seen ++ t ∷ []) ts)
  where
    by : (b : Bool) → fold add seen ts ≡ seen ++ unseen bytes_eq seen ts → fold add (seen ++ t ∷ []) ts ≡ (seen ++ t ∷ []) ++ unseen bytes_eq (seen ++ t ∷ []) ts → fold add (if b then seen else seen ++ t ∷ []) ts ≡ seen ++ (if b then unseen bytes_eq seen ts else t ∷ unseen bytes_eq (seen ++ t ∷ []) ts)
    by true same more = same
    by false same more = more ∙ append_assoc seen (t ∷ []) (unseen bytes_eq (seen ++ t ∷ []) ts)

abbrev pub import_of : List (List ℕ × Dependency) → GraphImport
import_of dependencies = record { dependencies = dependencies }

module _ {V : Type 0} (F : List ℕ → V) where
  put_from : (seen ts : List (List ℕ)) → distinct seen ≡ true → fold (λ es t. insert_entry bytes_eq es t (F t)) (table F seen) ts ≡ table F (fold add seen ts)
  put_from seen [] d = refl
  put_from seen (t ∷ ts) d =
      ap (λ es. fold (λ es t. insert_entry bytes_eq es t (F t)) es ts) (inserted F F t (F t) refl (λ x e. refl) seen d)
      ∙ put_from (add seen t) ts (distinct_add seen t d)

  -- the table of the texts, each once
  pub all_inserted : (ts : List (List ℕ)) → fold (λ es t. insert_entry bytes_eq es t (F t)) [] ts ≡ map (λ t. (t, F t)) (each_once bytes_eq ts)
  all_inserted ts = put_from [] ts none_twice ∙ ap (table F) (added_all [] ts)
