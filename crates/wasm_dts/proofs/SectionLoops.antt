-- Reading one section after the other, as a loop does.
use Rattle.std.proofs.Common.{◌≡◌, ℕ, suc, ◌-◌, ◌+◌, ◌≤◌, ◌<◌, Bool, true, false, cond, eqb, length, Result, Ok, Err, refl, sym, ap, ◌∙◌, arith}
use Rattle.spec_base.specs.Refusal.{Answers}
use Rattle.spec_base.specs.declared.refusal.Refusal.{Refusal}
use Rattle.spec_base.specs.declared.refusal.Refusal.TheVariants.{Memory, Is}
use Rattle.wasm_dts.specs.declared.refusal.WasmRefusal.{WasmRefusal}
use Rattle.wasm_dts.specs.declared.parts.Parts.{Parts}
use Rattle.wasm_dts.specs.Span.{Span}
use Rattle.wasm_dts.specs.Binary.{Read, ◌>>=◌}
use Rattle.wasm_dts.specs.Module.{no_parts, section, sections}

-- one section, and those behind it
unroll : (n i : ℕ) (parts : Parts) (s : Span) (total : Result Parts WasmRefusal) → i < n → sections (n - i) parts s ≡ total
    → cond (eqb (length s.bytes) 0) (Ok parts) (section parts s >>= λ more. sections (n - (i + 1)) more.0 more.1) ≡ total
unfolding sections
unroll n i parts s total lt so_far =
    let k : n - i ≡ suc (n - (i + 1)) = omega arith in
    sym (ap (λ (m : ℕ). sections m parts s) k) ∙ so_far

-- no byte is left
pub is_empty : (n i : ℕ) (parts : Parts) (s : Span) (total : Result Parts WasmRefusal) → i < n → eqb (length s.bytes) 0 ≡ true → sections (n - i) parts s ≡ total → total ≡ Ok parts
is_empty n i parts s total lt e so_far =
    sym (unroll n i parts s total lt so_far) ∙ ap (λ (b : Bool). cond b (Ok parts) (section parts s >>= λ more. sections (n - (i + 1)) more.0 more.1)) e

behind_test : (n i : ℕ) (parts : Parts) (s : Span) (total : Result Parts WasmRefusal) → i < n → eqb (length s.bytes) 0 ≡ false → sections (n - i) parts s ≡ total
    → (section parts s >>= λ more. sections (n - (i + 1)) more.0 more.1) ≡ total
behind_test n i parts s total lt e so_far =
    sym (ap (λ (b : Bool). cond b (Ok parts) (section parts s >>= λ more. sections (n - (i + 1)) more.0 more.1)) e) ∙ unroll n i parts s total lt so_far

-- one more section
pub goes_on : (n i : ℕ) (parts more : Parts) (s rest : Span) (total : Result Parts WasmRefusal) → i < n → eqb (length s.bytes) 0 ≡ false → section parts s ≡ Ok (more, rest) → sections (n - i) parts s ≡ total → sections (n - (i + 1)) more rest ≡ total
goes_on n i parts more s rest total lt e h so_far =
    sym (ap (λ (r : Read Parts). r >>= λ next. sections (n - (i + 1)) next.0 next.1) h) ∙ behind_test n i parts s total lt e so_far

-- a section that is refused
pub refused : (e : Refusal WasmRefusal) (n i : ℕ) (parts : Parts) (s : Span) (total : Result Parts WasmRefusal) → i < n → eqb (length s.bytes) 0 ≡ false → Answers {T = Parts × Span} (Err e) (section parts s) → sections (n - i) parts s ≡ total → Answers {T = Parts} (Err e) total
refused Memory n i parts s total lt e h so_far = tt
refused (Is r) n i parts s total lt e h so_far =
    sym (behind_test n i parts s total lt e so_far) ∙ ap (λ (x : Read Parts). x >>= λ next. sections (n - (i + 1)) next.0 next.1) h

-- as many sections as there may be
pub is_done : (n i : ℕ) (parts : Parts) (s : Span) (total : Result Parts WasmRefusal) → n ≤ i → sections (n - i) parts s ≡ total → total ≡ Ok parts
unfolding sections
is_done n i parts s total le so_far =
    let k : n - i ≡ 0 = omega arith in
    sym so_far ∙ ap (λ (m : ℕ). sections m parts s) k

-- nothing is read yet
pub begins : (most : ℕ) (parts : Parts) (body : Span) → most ≡ length body.bytes → parts ≡ no_parts → sections (most - 0) parts body ≡ sections (length body.bytes) no_parts body
begins most parts body m p =
    let k : most - 0 ≡ length body.bytes = omega arith in
    rw (k, p) refl
