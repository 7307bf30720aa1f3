-- Copies of specifiers, each once, have the texts of what was copied.
use Rattle.std.proofs.Common.{◌≡◌, List, [], ◌∷◌, ◌++◌, true, false, cond, ◌||◌, refl, sym, ap, ◌∙◌, subst, ⊎_elim, Bool}
use Rattle.std.specs.Prelude.{bytes_eq}
use Rattle.std.specs.Borrow.{Bor}
use Rattle.std.specs.List.{list_any}
use Rattle.indexmap.specs.IndexSet.{insert_key}
use Rattle.url.specs.Parts.{Parts, serialize}
use Rattle.spec_base.specs.Specifier.{same_specifier, specifier_text}
use Rattle.graph_walk.specs.Lent.{lent_texts}
use Rattle.graph_walk.specs.Lists.{Text, Among, SameMembers}
use Rattle.graph_walk.specs.Order.{is_seen, texts}
use Rattle.graph_walk.proofs.Steps.{among_left, among_right, among_either, seen_among}
use Rattle.graph_walk.proofs.Texts.{texts_append}

texts_end : (ks : List Parts) (k : Parts) → texts (ks ++ k ∷ []) ≡ texts ks ++ specifier_text k ∷ []
texts_end [] k = refl
texts_end (x ∷ ks) k = ap (λ (ts : List Text). specifier_text x ∷ ts) (texts_end ks k)

same_seen : (k : Parts) (ks : List Parts) → is_seen (texts ks) (specifier_text k) ≡ list_any (same_specifier k) ks
unfolding specifier_text
same_seen k [] = refl
same_seen k (x ∷ ks) = ap (λ (b : Bool). bytes_eq (serialize k) (serialize x) || b) (same_seen k ks)

among_copied : (k : Parts) (ks : List Parts) → list_any (same_specifier k) ks ≡ true → Among (specifier_text k) (texts ks)
among_copied k ks e = seen_among (texts ks) (specifier_text k) (same_seen k ks ∙ e)

copied_one : (ks : List Parts) (k : Parts) (xs : List Text) → SameMembers (texts ks) xs → SameMembers (texts (insert_key same_specifier ks k)) (xs ++ specifier_text k ∷ [])
copied_one ks k xs h =
    elim (list_any (same_specifier k) ks) as (λ b. list_any (same_specifier k) ks ≡ b → SameMembers (texts (cond b ks (ks ++ k ∷ []))) (xs ++ specifier_text k ∷ [])) [
      | true ↦ λ e. (
        λ t a. among_left t xs (specifier_text k ∷ []) (h.0 t a),
        λ t a. ⊎_elim (h.1 t) (λ b. ⊎_elim (λ same. subst (λ z. Among z (texts ks)) (sym same) (among_copied k ks e)) absurd b) (among_either t xs (specifier_text k ∷ []) a),
      )
      | false ↦ λ e. subst (λ (ts : List Text). SameMembers ts (xs ++ specifier_text k ∷ [])) (sym (texts_end ks k)) (
        λ t a. ⊎_elim (λ b. among_left t xs (specifier_text k ∷ []) (h.0 t b)) (among_right t xs (specifier_text k ∷ [])) (among_either t (texts ks) (specifier_text k ∷ []) a),
        λ t a. ⊎_elim (λ b. among_left t (texts ks) (specifier_text k ∷ []) (h.1 t b)) (among_right t (texts ks) (specifier_text k ∷ [])) (among_either t xs (specifier_text k ∷ []) a),
      )
    ] refl

-- one more is copied
pub copied_next : (ks new : List Parts) (k : Parts) (us all : List (Bor Parts)) (u : Bor Parts) → SameMembers (texts ks) (lent_texts us) → k ≡ u.now → new ≡ insert_key same_specifier ks k → all ≡ us ++ u ∷ [] → SameMembers (texts new) (lent_texts all)
copied_next ks new k us all u h copy is whole =
    subst (λ (ns : List Parts). SameMembers (texts ns) (lent_texts all)) (sym is)
    (subst (λ (ts : List Text). SameMembers (texts (insert_key same_specifier ks k)) ts)
    (ap (λ (p : Parts). lent_texts us ++ specifier_text p ∷ []) copy ∙ sym (texts_append us (u ∷ [])) ∙ ap lent_texts (sym whole))
    (copied_one ks k (lent_texts us) h))
