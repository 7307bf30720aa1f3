-- Vectors: a count, and that many entries.
use Rattle.std.specs.Prelude.{ℕ, zero, suc, Bool, true, false, [], ◌∷◌, ◌++◌, Option, Some, None, Result, Ok, if◌then◌else◌}
use Rattle.wasm_dts.specs.declared.refusal.WasmRefusal.{WasmRefusal}
use Rattle.wasm_dts.specs.declared.entry.Known.{Known}
use Rattle.wasm_dts.specs.Span.{Span}
use Rattle.wasm_dts.specs.Binary.{Read, ◌>>=◌, number32}

-- no entry, where the vector ends there, and where its reading stops there
abbrev pub nothing : {A : Type 0} → Bool → Known A
nothing is_whole = record { entries = []; is_whole = is_whole }

-- one entry in front
abbrev pub preceded : {A : Type 0} → A → Known A → Known A
preceded x known = record { entries = x ∷ known.entries; is_whole = known.is_whole }

-- the entries of two vectors, one behind the other; where the reading of the first stopped, nothing behind it is known
abbrev pub joined : {A : Type 0} → Known A → Known A → Known A
joined first second =
    if first.is_whole then record { entries = first.entries ++ second.entries; is_whole = second.is_whole } else first

-- an entry before those behind it; where it is none, the reading stops
abbrev pub entry_then : {A : Type 0} → Option A → Result (Known A) WasmRefusal → Result (Known A) WasmRefusal
entry_then None others = Ok (nothing false)
entry_then (Some x) others = others >>= λ known. Ok (preceded x known)

-- n entries, or those before the one at which the reading stops
unfoldable pub entries : {A : Type 0} → (Span → Read (Option A)) → ℕ → Span → Result (Known A) WasmRefusal
entries entry zero s = Ok (nothing true)
entries entry (suc n) s = entry s >>= λ first. entry_then first.0 (entries entry n first.1)

-- a number n, and n entries; what stands behind them isn't read
abbrev pub vector : {A : Type 0} → (Span → Read (Option A)) → Span → Result (Known A) WasmRefusal
vector entry s = do
  count ← number32 s
  entries entry count.0 count.1
