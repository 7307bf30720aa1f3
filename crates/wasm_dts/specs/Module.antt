-- A module: its header, and what is known of its sections.
use Rattle.std.specs.Prelude.{ℕ, zero, suc, ◌==◌, nat_lt, nat_eq, not, true, List, [], ◌∷◌, length, drop, Result, Ok, Err, if◌then◌else◌}
use Rattle.std.specs.List.{starts_with}
use Rattle.wasm_dts.specs.declared.refusal.WasmRefusal.{WasmRefusal}
use Rattle.wasm_dts.specs.declared.refusal.WasmRefusal.TheVariants.{NotWasm, UnsupportedVersion, UnexpectedEnd}
use Rattle.wasm_dts.specs.declared.parts.Parts.{Parts}
use Rattle.wasm_dts.specs.Span.{Span}
use Rattle.wasm_dts.specs.Binary.{Read, ◌>>=◌, byte, sized}
use Rattle.wasm_dts.specs.Vector.{nothing, joined, vector}
use Rattle.wasm_dts.specs.Entries.{function_type, import_entry, type_index, global_entry, export_entry}

-- no section
abbrev pub no_parts : Parts
no_parts = record { types = nothing true; imports = nothing true; functions = nothing true; globals = nothing true; exports = nothing true }

-- the parts with those of one more section; the entries of a repeated section go on with the list
abbrev pub section_parts : Parts → ℕ → Span → Result Parts WasmRefusal
section_parts parts id payload =
    if id == 1 then (vector function_type payload >>= λ found. Ok (record parts { types = joined parts.types found }))
    else (if id == 2 then (vector import_entry payload >>= λ found. Ok (record parts { imports = joined parts.imports found }))
    else (if id == 3 then (vector type_index payload >>= λ found. Ok (record parts { functions = joined parts.functions found }))
    else (if id == 6 then (vector global_entry payload >>= λ found. Ok (record parts { globals = joined parts.globals found }))
    else (if id == 7 then (vector export_entry payload >>= λ found. Ok (record parts { exports = joined parts.exports found }))
    else Ok parts))))

-- an id, a size and that many bytes: the parts with those of this section
abbrev pub section : Parts → Span → Read Parts
section parts s = do
  id ← byte s
  payload ← sized id.1
  more ← section_parts parts id.0 payload.0
  Ok (more, payload.1)

-- sections up to the end; there are at most n
unfoldable pub sections : ℕ → Parts → Span → Result Parts WasmRefusal
sections zero parts s = Ok parts
sections (suc n) parts s = if length s.bytes == 0 then Ok parts else (section parts s >>= λ more. sections n more.0 more.1)

-- the bytes that a module begins with, and those of its version
abbrev pub magic : List ℕ
magic = 0x00 ∷ 0x61 ∷ 0x73 ∷ 0x6D ∷ []

abbrev pub version : List ℕ
version = 0x01 ∷ 0x00 ∷ 0x00 ∷ 0x00 ∷ []

-- what stands behind the magic bytes and the version
abbrev pub behind_header : List ℕ → Result Span WasmRefusal
behind_header bytes =
    if not (starts_with nat_eq bytes magic) then Err (NotWasm 0)
    else (if nat_lt (length bytes) 8 then Err (UnexpectedEnd (length bytes))
    else (if not (starts_with nat_eq (drop 4 bytes) version) then Err (UnsupportedVersion 4)
    else Ok (record { at = 8; bytes = drop 8 bytes })))

-- what is known of the parts of a module, or the first rule that its bytes break; there are no more sections than bytes
abbrev pub module_parts : List ℕ → Result Parts WasmRefusal
module_parts bytes = do
  body ← behind_header bytes
  sections (length body.bytes) no_parts body
