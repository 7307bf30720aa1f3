-- Reading one constant instruction after the other, as a loop does.
use Rattle.std.proofs.Common.{◌≡◌, ◌≢◌, ℕ, suc, ◌-◌, ◌+◌, ◌≤◌, ◌<◌, Bool, true, false, cond, eqb, Ok, Err, sym, ap, ◌∙◌, inl, inr, arith}
use Rattle.std.proofs.lemmas.Bool.Decides.{eqb_tells}
use Rattle.spec_base.specs.Refusal.{Answers}
use Rattle.spec_base.specs.declared.refusal.Refusal.{Refusal}
use Rattle.spec_base.specs.declared.refusal.Refusal.TheVariants.{Memory, Is}
use Rattle.wasm_dts.specs.declared.refusal.WasmRefusal.{WasmRefusal}
use Rattle.wasm_dts.specs.declared.refusal.WasmRefusal.TheVariants.{UnexpectedEnd}
use Rattle.wasm_dts.specs.Span.{Span, end_of}
use Rattle.wasm_dts.specs.Binary.{Read, ◌>>=◌, byte}
use Rattle.wasm_dts.specs.Entries.{operand, instructions}

-- the instructions behind one whose opcode was read
abbrev pub rest_of : ℕ → ℕ × Span → Read Bool
rest_of n opcode = cond (eqb opcode.0 0x0B) (Ok (true, opcode.1)) (operand opcode.0 opcode.1 >>= λ found. cond found.0 (instructions n found.1) (Ok found))

-- one instruction, and those behind it
unroll : (n i : ℕ) (s : Span) (total : Read Bool) → i < n → instructions (n - i) s ≡ total → (byte s >>= rest_of (n - (i + 1))) ≡ total
unfolding instructions
unroll n i s total lt so_far =
    let k : n - i ≡ suc (n - (i + 1)) = omega arith in
    sym (ap (λ (m : ℕ). instructions m s) k) ∙ so_far

behind_opcode : (n i opcode : ℕ) (s after : Span) (total : Read Bool) → i < n → byte s ≡ Ok (opcode, after) → instructions (n - i) s ≡ total → rest_of (n - (i + 1)) (opcode, after) ≡ total
behind_opcode n i opcode s after total lt h so_far =
    sym (ap (λ (r : Read ℕ). r >>= rest_of (n - (i + 1))) h) ∙ unroll n i s total lt so_far

is_other : (opcode : ℕ) → opcode ≢ 0x0B → eqb opcode 0x0B ≡ false
is_other opcode ne = elim (eqb_tells opcode 0x0B) [ inl same ↦ absurd (ne same.1) | inr other ↦ other.0 ]

behind_operand : (n i opcode : ℕ) (s after : Span) (total : Read Bool) → i < n → byte s ≡ Ok (opcode, after) → opcode ≢ 0x0B → instructions (n - i) s ≡ total
    → (operand opcode after >>= λ found. cond found.0 (instructions (n - (i + 1)) found.1) (Ok found)) ≡ total
behind_operand n i opcode s after total lt h ne so_far =
    sym (ap (λ (b : Bool). cond b (Ok (true, after)) (operand opcode after >>= λ found. cond found.0 (instructions (n - (i + 1)) found.1) (Ok found))) (is_other opcode ne))
    ∙ behind_opcode n i opcode s after total lt h so_far

-- the end of the expression
pub ended : (n i opcode : ℕ) (s after : Span) (total : Read Bool) → i < n → byte s ≡ Ok (opcode, after) → opcode ≡ 0x0B → instructions (n - i) s ≡ total → total ≡ Ok (true, after)
ended n i opcode s after total lt h e so_far =
    let b : byte s ≡ Ok (0x0B, after) = h ∙ ap (λ (o : ℕ). Ok (o, after)) e in
    sym (behind_opcode n i 0x0B s after total lt b so_far)

-- an unknown opcode
pub unknown : (n i opcode : ℕ) (s after rest : Span) (total : Read Bool) → i < n → byte s ≡ Ok (opcode, after) → opcode ≢ 0x0B → operand opcode after ≡ Ok (false, rest) → instructions (n - i) s ≡ total → total ≡ Ok (false, rest)
unknown n i opcode s after rest total lt h ne o so_far =
    sym (behind_operand n i opcode s after total lt h ne so_far) ∙ ap (λ (r : Read Bool). r >>= λ found. cond found.0 (instructions (n - (i + 1)) found.1) (Ok found)) o

-- one more instruction
pub goes_on : (n i opcode : ℕ) (s after rest : Span) (total : Read Bool) → i < n → byte s ≡ Ok (opcode, after) → opcode ≢ 0x0B → operand opcode after ≡ Ok (true, rest) → instructions (n - i) s ≡ total → instructions (n - (i + 1)) rest ≡ total
goes_on n i opcode s after rest total lt h ne o so_far =
    sym (ap (λ (r : Read Bool). r >>= λ found. cond found.0 (instructions (n - (i + 1)) found.1) (Ok found)) o) ∙ behind_operand n i opcode s after total lt h ne so_far

-- an opcode that isn't there
pub refused_opcode : (e : Refusal WasmRefusal) (n i : ℕ) (s : Span) (total : Read Bool) → i < n → Answers {T = ℕ × Span} (Err e) (byte s) → instructions (n - i) s ≡ total → Answers {T = Bool × Span} (Err e) total
refused_opcode Memory n i s total lt h so_far = tt
refused_opcode (Is e) n i s total lt h so_far = sym (unroll n i s total lt so_far) ∙ ap (λ (r : Read ℕ). r >>= rest_of (n - (i + 1))) h

-- an operand that is refused
pub refused_operand : (e : Refusal WasmRefusal) (n i opcode : ℕ) (s after : Span) (total : Read Bool) → i < n → byte s ≡ Ok (opcode, after) → opcode ≢ 0x0B → Answers {T = Bool × Span} (Err e) (operand opcode after) → instructions (n - i) s ≡ total → Answers {T = Bool × Span} (Err e) total
refused_operand Memory n i opcode s after total lt h ne o so_far = tt
refused_operand (Is e) n i opcode s after total lt h ne o so_far =
    sym (behind_operand n i opcode s after total lt h ne so_far) ∙ ap (λ (r : Read Bool). r >>= λ found. cond found.0 (instructions (n - (i + 1)) found.1) (Ok found)) o

-- as many instructions as there may be, and no end
pub is_done : (n i : ℕ) (s : Span) (total : Read Bool) → n ≤ i → instructions (n - i) s ≡ total → total ≡ Err (UnexpectedEnd (end_of s))
unfolding instructions
is_done n i s total le so_far =
    let k : n - i ≡ 0 = omega arith in
    sym so_far ∙ ap (λ (m : ℕ). instructions m s) k
