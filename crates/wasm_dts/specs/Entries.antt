-- The entries of the sections: function types, imports, type indexes, globals and exports.
use Rattle.std.specs.Prelude.{ℕ, zero, suc, ◌%◌, ◌==◌, ◌||◌, Bool, true, false, List, length, map, Option, Some, None, Ok, Err, if◌then◌else◌}
use Rattle.wasm_dts.specs.declared.refusal.WasmRefusal.TheVariants.{UnexpectedEnd, UnknownKind}
use Rattle.wasm_dts.specs.declared.types.ValueType.{ValueType}
use Rattle.wasm_dts.specs.declared.types.ValueType.TheVariants.{I32, I64, F32, F64, Unknown}
use Rattle.wasm_dts.specs.declared.types.FunctionType.{FunctionType}
use Rattle.wasm_dts.specs.declared.globals.GlobalType.{GlobalType}
use Rattle.wasm_dts.specs.declared.imports.ImportType.{ImportType}
use Rattle.wasm_dts.specs.declared.imports.ImportType.TheVariants as imported
use Rattle.wasm_dts.specs.declared.imports.Import.{Import}
use Rattle.wasm_dts.specs.declared.exports.ExportType.{ExportType}
use Rattle.wasm_dts.specs.declared.exports.ExportType.TheVariants as exported
use Rattle.wasm_dts.specs.declared.exports.Export.{Export}
use Rattle.wasm_dts.specs.Span.{Span, end_of}
use Rattle.wasm_dts.specs.Binary.{Read, ◌>>=◌, taken, byte, leb, number32, number64, sized, name}

-- ---- types

-- the type that a byte stands for
abbrev pub value_type : ℕ → ValueType
value_type b =
    if b == 0x7F then I32 else (if b == 0x7E then I64 else (if b == 0x7D then F32 else (if b == 0x7C then F64 else Unknown)))

-- a count, and that many types of a byte each
abbrev pub value_types : Span → Read (List ValueType)
value_types s = do
  types ← sized s
  Ok (map value_type types.0.bytes, types.1)

abbrev pub signature : Span → Read FunctionType
signature s = do
  parameters ← value_types s
  results ← value_types parameters.1
  Ok (record { parameters = parameters.0; results = results.0 }, results.1)

-- the form 0x60 and a signature; at another form the reading stops
abbrev pub function_type : Span → Read (Option FunctionType)
function_type s = do
  form ← byte s
  if form.0 == 0x60 then (signature form.1 >>= λ found. Ok (Some found.0, found.1)) else Ok (None, form.1)

-- ---- imports

-- a value type, and whether it may change
abbrev pub global_type : Span → Read GlobalType
global_type s = do
  type ← byte s
  mutability ← byte type.1
  Ok (record { value_type = value_type type.0 }, mutability.1)

-- a flag byte, the least size, and the greatest where the lowest bit of the flag is set
abbrev pub limits : Span → Read (Unit {0})
limits s = do
  flag ← byte s
  least ← number64 flag.1
  if flag.0 % 2 == 1 then (number64 least.1 >>= λ most. Ok (tt, most.1)) else Ok (tt, least.1)

abbrev pub function_import : Span → Read ImportType
function_import s = do
  index ← number32 s
  Ok (imported.Function index.0, index.1)

-- a type of references, and limits
abbrev pub table_import : Span → Read ImportType
table_import s = do
  type ← byte s
  size ← limits type.1
  Ok (imported.Table, size.1)

abbrev pub memory_import : Span → Read ImportType
memory_import s = do
  size ← limits s
  Ok (imported.Memory, size.1)

abbrev pub global_import : Span → Read ImportType
global_import s = do
  type ← global_type s
  Ok (imported.Global type.0, type.1)

-- an attribute, and a type index
abbrev pub tag_import : Span → Read ImportType
tag_import s = do
  attribute ← byte s
  index ← number32 attribute.1
  Ok (imported.Tag, index.1)

-- what is imported, by the kind byte, which stands at a place
abbrev pub import_of_kind : ℕ → ℕ → Span → Read ImportType
import_of_kind at kind s =
    if kind == 0 then function_import s
    else (if kind == 1 then table_import s
    else (if kind == 2 then memory_import s
    else (if kind == 3 then global_import s
    else (if kind == 4 then tag_import s
    else Err (UnknownKind at)))))

abbrev pub import_type : Span → Read ImportType
import_type s = do
  kind ← byte s
  import_of_kind s.at kind.0 kind.1

-- the name of a module, the name in it, and what it is
abbrev pub import_entry : Span → Read (Option Import)
import_entry s = do
  origin ← name s
  item ← name origin.1
  type ← import_type item.1
  Ok (Some (record { «module» = origin.0; name = item.0; import_type = type.0 }), type.1)

-- ---- functions

abbrev pub type_index : Span → Read (Option ℕ)
type_index s = do
  index ← number32 s
  Ok (Some index.0, index.1)

-- ---- globals

-- what stands behind the opcode of a constant instruction, and whether the opcode is known
abbrev pub operand : ℕ → Span → Read Bool
operand opcode s =
    if (opcode == 0x41) || ((opcode == 0x42) || ((opcode == 0x23) || (opcode == 0xD2))) then (leb s >>= λ found. Ok (true, found.1))
    else (if opcode == 0x43 then (taken 4 s >>= λ found. Ok (true, found.1))
    else (if opcode == 0x44 then (taken 8 s >>= λ found. Ok (true, found.1))
    else (if opcode == 0xD0 then (byte s >>= λ found. Ok (true, found.1))
    else Ok (false, s))))

-- constant instructions up to the byte 0x0B, and whether all of them are known; there are at most n
unfoldable pub instructions : ℕ → Span → Read Bool
instructions zero s = Err (UnexpectedEnd (end_of s))
instructions (suc n) s = do
  opcode ← byte s
  if opcode.0 == 0x0B then Ok (true, opcode.1) else (operand opcode.0 opcode.1 >>= λ found. if found.0 then instructions n found.1 else Ok found)

-- the initial value of a global; there are no more instructions than bytes
abbrev pub initializer : Span → Read Bool
initializer s = instructions (length s.bytes) s

-- a type and an initial value; where that has an unknown instruction, the reading stops
abbrev pub global_entry : Span → Read (Option GlobalType)
global_entry s = do
  type ← global_type s
  initial ← initializer type.1
  Ok (if initial.0 then Some type.0 else None, initial.1)

-- ---- exports

-- what is exported, by its kind and its index
abbrev pub export_of_kind : ℕ → ℕ → ExportType
export_of_kind kind index =
    if kind == 0 then exported.Function index
    else (if kind == 1 then exported.Table
    else (if kind == 2 then exported.Memory
    else (if kind == 3 then exported.Global index
    else exported.Unknown)))

-- a name, a kind and an index
abbrev pub export_entry : Span → Read (Option Export)
export_entry s = do
  item ← name s
  kind ← byte item.1
  index ← number32 kind.1
  Ok (Some (record { name = item.0; export_type = export_of_kind kind.0 index.0 }), index.1)
