-- Reading one part after the other, as loops do.
use Rattle.std.proofs.Common.{◌≡◌, ℕ, suc, ◌-◌, ◌+◌, ◌≤◌, ◌<◌, true, false, List, [], ◌∷◌, ◌++◌, Option, Some, None, Result, Ok, Err, refl, sym, ap, ◌∙◌, append_assoc, append-nil, arith}
use Rattle.spec_base.specs.Refusal.{Answers}
use Rattle.spec_base.specs.declared.refusal.Refusal.{Refusal}
use Rattle.spec_base.specs.declared.refusal.Refusal.TheVariants.{Memory, Is}
use Rattle.wasm_dts.specs.declared.refusal.WasmRefusal.{WasmRefusal}
use Rattle.wasm_dts.specs.declared.entry.Known.{Known}
use Rattle.wasm_dts.specs.Span.{Span}
use Rattle.wasm_dts.specs.Binary.{Read, ◌>>=◌}
use Rattle.wasm_dts.specs.Vector.{nothing, entry_then, entries}

-- what was read before, and what is still read
abbrev pub with_front : {A : Type 0} → List A → Result (Known A) WasmRefusal → Result (Known A) WasmRefusal
with_front front read = read >>= λ known. Ok (record { entries = front ++ known.entries; is_whole = known.is_whole })

regroup : {A : Type 0} (front : List A) (x : A) (read : Result (Known A) WasmRefusal) → with_front front (entry_then (Some x) read) ≡ with_front (front ++ x ∷ []) read
regroup front x (Ok known) = ap (λ es. Ok (record { entries = es; is_whole = known.is_whole })) (sym (append_assoc front (x ∷ []) known.entries))
regroup front x (Err e) = refl

-- one more entry
pub goes_on : {A : Type 0} (entry : Span → Read (Option A)) (front : List A) (count i : ℕ) (s after : Span) (x : A) (total : Result (Known A) WasmRefusal) → i < count → entry s ≡ Ok (Some x, after)
    → with_front front (entries entry (count - i) s) ≡ total → with_front (front ++ x ∷ []) (entries entry (count - (i + 1)) after) ≡ total
unfolding entries
goes_on entry front count i s after x total lt h so_far =
    let k : count - i ≡ suc (count - (i + 1)) = omega arith in
    let one : with_front front (entries entry (count - i) s) ≡ with_front (front ++ x ∷ []) (entries entry (count - (i + 1)) after) = rw (k, h) (regroup front x (entries entry (count - (i + 1)) after)) in
    sym one ∙ so_far

-- an entry at which the reading stops
pub stops : {A : Type 0} (entry : Span → Read (Option A)) (front : List A) (count i : ℕ) (s after : Span) (total : Result (Known A) WasmRefusal) → i < count → entry s ≡ Ok (None, after)
    → with_front front (entries entry (count - i) s) ≡ total → total ≡ Ok (record { entries = front; is_whole = false })
unfolding entries
stops entry front count i s after total lt h so_far =
    let k : count - i ≡ suc (count - (i + 1)) = omega arith in
    let one : with_front front (entries entry (count - i) s) ≡ with_front front (Ok (nothing false)) = rw (k, h) refl in
    sym so_far ∙ one ∙ ap (λ es. Ok (record { entries = es; is_whole = false })) (append-nil front)

-- an entry that is refused
pub refused : {A : Type 0} (entry : Span → Read (Option A)) (e : Refusal WasmRefusal) (front : List A) (count i : ℕ) (s : Span) (total : Result (Known A) WasmRefusal) → i < count → Answers {T = Option A × Span} (Err e) (entry s)
    → with_front front (entries entry (count - i) s) ≡ total → Answers {T = Known A} (Err e) total
unfolding entries
refused entry Memory front count i s total lt h so_far = tt
refused entry (Is e) front count i s total lt h so_far =
    let k : count - i ≡ suc (count - (i + 1)) = omega arith in
    let one : with_front front (entries entry (count - i) s) ≡ Err e = rw (k, h) refl in
    sym so_far ∙ one

-- no entry is left
pub is_done : {A : Type 0} (entry : Span → Read (Option A)) (front : List A) (count i : ℕ) (s : Span) (total : Result (Known A) WasmRefusal) → count ≤ i → with_front front (entries entry (count - i) s) ≡ total → total ≡ Ok (record { entries = front; is_whole = true })
unfolding entries
is_done entry front count i s total le so_far =
    let k : count - i ≡ 0 = omega arith in
    let one : with_front front (entries entry (count - i) s) ≡ Ok (record { entries = front; is_whole = true }) = rw k (ap (λ es. Ok (record { entries = es; is_whole = true })) (append-nil front)) in
    sym so_far ∙ one
