-- Lists that rise by an order: it is enough to compare neighbours.
use Rattle.std.proofs.Common.{◌≡◌, ◌+◌, List, [], ◌∷◌, Bool, true, false, true≢false, Ordering, Less, Equal, Greater, refl, sym, ap, ◌∙◌, arith}
use Rattle.std.proofs.lemmas.Map.Keys.{Less-from_sorted, sorted_from_all_adjacent}
use Rattle.std.specs.Bool.{Decides}
use Rattle.std.specs.Cmp.{IsTotalOrder, on_total}
use Rattle.std.specs.Cmp.Lexicographic.{nat_list_cmp_total}
use Rattle.std.specs.List.{IsAllAdjacentAnswer}
use Rattle.std.specs.List.Sorted.{IsStrictlySortedBy}
use Rattle.std.specs.Ordering.{is_lt}
use Rattle.url.specs.Parts.{Parts, serialize}
use Rattle.specifier_index.specs.EntryOrder.{entry_cmp}

less_is : (r : Ordering) → true ≡ is_lt r → r ≡ Less
less_is Less e = refl
less_is Equal e = absurd (true≢false e)
less_is Greater e = absurd (true≢false e)

not_less : (r : Ordering) → false ≡ is_lt r → r ≡ Less → ⊥
not_less r e less = true≢false (sym (e ∙ ap is_lt less))

pub neighbours_decide : {X : Type 0} {R : X → X → Ordering} (o : IsTotalOrder R) (xs : List X) (b : Bool) → IsAllAdjacentAnswer (λ x y b. b ≡ is_lt (R x y)) xs b → Decides b (IsStrictlySortedBy R xs)
unfolding IsStrictlySortedBy
neighbours_decide o [] true h = (λ is. tt, λ up. refl)
neighbours_decide o [] false h = let no : ⊥ = omega (arith, h.1) in absurd no
neighbours_decide o (x ∷ xs) true h = (λ is. sorted_from_all_adjacent o (x ∷ xs) x (λ k below. less_is _ (h k x below)), λ up. refl)
neighbours_decide {R = R} o (x ∷ xs) false h = (
  λ is. absurd (true≢false (sym is)),
  λ up. absurd (not_less _ (h.2 x) (Less-from_sorted R (x ∷ xs) h.0 (h.0 + 1) x up (omega arith) h.1)),
)

-- the order of entries is total
pub entry_total : {T : Type 0} → IsTotalOrder (entry_cmp {T = T})
entry_total {T} = on_total (λ (e : Parts × T). serialize e.0) nat_list_cmp_total
