-- Handing out the items of a list, each once.
use Rattle.std.proofs.Common.{◌≡◌, ℕ, ◌+◌, ◌<◌, Bool, true, false, List, [], ◌∷◌, ◌++◌, length, drop, zero, suc, refl, ap, sym, ◌∙◌, arith, true≢false}
use Rattle.std.specs.Prelude.{Some, None, is_some, slice_get, fold}
use Rattle.std.specs.List.{list_any}
use Rattle.std.proofs.Math.Seq.{drop-cons}
use Rattle.std.proofs.lemmas.List.{append_assoc, append-nil}
use Rattle.std.proofs.lemmas.Option.{slice_get_within, get_or_from_slice_get}
use Rattle.indexmap.specs.IndexSet.{insert_key}
use Rattle.seen_pending.specs.Once.{unseen}

-- the list from an item on
next_item : {T : Type 0} (xs : List T) (n : ℕ) (x : T) → slice_get xs n ≡ Some x → drop n xs ≡ x ∷ drop (n + 1) xs
next_item xs n x e =
    let next : suc n ≡ n + 1 = omega arith in
    drop-cons xs n x (slice_get_within xs n x e) ∙ ap (λ y. y ∷ drop (suc n) xs) (get_or_from_slice_get xs n x x e)
    ∙ ap (λ k. x ∷ drop k xs) next

-- no item is left
at_end : {T : Type 0} (xs : List T) (n : ℕ) → slice_get xs n ≡ None → drop n xs ≡ []
at_end [] zero e = refl
at_end [] (suc n) e = refl
at_end (x ∷ xs) zero e = absurd (true≢false (ap is_some e))
at_end (x ∷ xs) (suc n) e = at_end xs n e

-- what is out and what is left make the whole, after one more is out
pub one_more : {T : Type 0} (done start xs : List T) (n : ℕ) (x : T) → done ++ drop n xs ≡ start → slice_get xs n ≡ Some x → (done ++ x ∷ []) ++ drop (n + 1) xs ≡ start
one_more done start xs n x whole e =
    append_assoc done (x ∷ []) (drop (n + 1) xs) ∙ ap (λ rest. done ++ rest) (sym (next_item xs n x e)) ∙ whole

-- all is out
pub all_out : {T : Type 0} (done start xs : List T) (n : ℕ) → done ++ drop n xs ≡ start → slice_get xs n ≡ None → done ≡ start
all_out done start xs n whole e =
    sym (append-nil done) ∙ ap (λ rest. done ++ rest) (sym (at_end xs n e)) ∙ whole

-- one less is left
pub one_less : {T : Type 0} (xs : List T) (n : ℕ) (x : T) → slice_get xs n ≡ Some x → length (drop (n + 1) xs) < length (drop n xs)
one_less xs n x e = let same : length (drop n xs) ≡ 1 + length (drop (n + 1) xs) = ap length (next_item xs n x e) ∙ omega arith in omega (arith, same)

-- an addition at the front, by whether the item was seen
added_at : {T : Type 0} (same : T → T → Bool) (seen items : List T) (item : T) (b : Bool) → list_any (same item) seen ≡ b → ((now : List T) → fold (insert_key same) now items ≡ now ++ unseen same now items) → fold (insert_key same) seen (item ∷ items) ≡ seen ++ unseen same seen (item ∷ items)
unfolding unseen
added_at same seen items item true e rest = rw e (rest seen)
added_at same seen items item false e rest =
    rw e (rest (seen ++ item ∷ []) ∙ append_assoc seen (item ∷ []) (unseen same (seen ++ item ∷ []) items))

-- additions, one after the other
pub added_once : {T : Type 0} (same : T → T → Bool) (seen items : List T) → fold (insert_key same) seen items ≡ seen ++ unseen same seen items
unfolding unseen
added_once same seen [] = sym (append-nil seen)
added_once same seen (item ∷ items) =
    added_at same seen items item (list_any (same item) seen) refl (λ now. added_once same now items)
