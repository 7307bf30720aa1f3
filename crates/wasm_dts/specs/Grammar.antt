-- Which bytes spell the parts of a module. Places, refusals and the order of reading aren't in here.
use Rattle.std.specs.Prelude.{◌≡◌, ℕ, zero, suc, ◌+◌, ◌*◌, ◌%◌, ◌^◌, ◌<◌, ◌≤◌, ◌==◌, ◌||◌, Bool, true, false, List, [], ◌∷◌, ◌++◌, length, map, Option, Some, None, MatchBool, if◌then◌else◌}
use Rattle.std.specs.Str.{is_utf8}
use Rattle.wasm_dts.specs.declared.types.ValueType.{ValueType}
use Rattle.wasm_dts.specs.declared.types.FunctionType.{FunctionType}
use Rattle.wasm_dts.specs.declared.globals.GlobalType.{GlobalType}
use Rattle.wasm_dts.specs.declared.imports.ImportType.{ImportType}
use Rattle.wasm_dts.specs.declared.imports.ImportType.TheVariants as imported
use Rattle.wasm_dts.specs.declared.imports.Import.{Import}
use Rattle.wasm_dts.specs.declared.exports.Export.{Export}
use Rattle.wasm_dts.specs.declared.entry.Known.{Known}
use Rattle.wasm_dts.specs.declared.parts.Parts.{Parts}
use Rattle.wasm_dts.specs.Vector.{nothing, preceded, joined}
use Rattle.wasm_dts.specs.Entries.{value_type, export_of_kind}
use Rattle.wasm_dts.specs.Module.{no_parts, magic, version}

-- which bytes spell which values
abbrev pub Spelling : Type 0 → Type 1
Spelling A = List ℕ → A → Type 0

-- bytes that spell one value, and behind them bytes that spell another
infixl 10 ◌>>=◌
abbrev pub ◌>>=◌ : {A B : Type 0} → Spelling A → (A → Spelling B) → Spelling B
◌>>=◌ {A} {B} P Q = λ bytes y. (front : List ℕ) × (back : List ℕ) × (x : A) × (bytes ≡ front ++ back) × P front x × Q x back y

-- no bytes
abbrev pub just : {A : Type 0} → A → Spelling A
just x = λ bytes y. (bytes ≡ []) × (y ≡ x)

-- whatever bytes
abbrev pub whatever : {A : Type 0} → A → Spelling A
whatever x = λ bytes y. y ≡ x

-- nothing is spelled so
abbrev pub nowhere : {A : Type 0} → Spelling A
nowhere = λ bytes y. ⊥

abbrev pub either : {A : Type 0} → Bool → Spelling A → Spelling A → Spelling A
either b P Q = λ bytes y. MatchBool b (P bytes y) (Q bytes y)

-- ---- values

abbrev pub IsByte : Spelling ℕ
IsByte = λ bytes b. bytes ≡ b ∷ []

-- LEB128: seven bits in each byte, the lowest first, and 128 more where another byte follows
unfoldable pub IsLeb : Spelling ℕ
IsLeb [] n = ⊥
IsLeb (b ∷ []) n = (b < 128) × (n ≡ b % 128)
IsLeb (b ∷ c ∷ bytes) n = (128 ≤ b) × ((high : ℕ) × (n ≡ b % 128 + 128 * high) × IsLeb (c ∷ bytes) high)

abbrev pub IsNumber : ℕ → ℕ → Spelling ℕ
IsNumber most limit = λ bytes n. IsLeb bytes n × (length bytes ≤ most) × (n < limit)

abbrev pub IsNumber32 : Spelling ℕ
IsNumber32 = IsNumber 5 (2 ^ 32)

abbrev pub IsNumber64 : Spelling ℕ
IsNumber64 = IsNumber 10 (2 ^ 64)

-- so many bytes
abbrev pub AreBytes : ℕ → Spelling (List ℕ)
AreBytes n = λ bytes x. (length bytes ≡ n) × (x ≡ bytes)

abbrev pub IsSized : Spelling (List ℕ)
IsSized = IsNumber32 >>= AreBytes

-- sized bytes that are UTF-8
abbrev pub IsName : Spelling (List ℕ)
IsName = do
  text ← IsSized
  either (is_utf8 text) (just text) nowhere

-- ---- types

abbrev pub AreValueTypes : Spelling (List ValueType)
AreValueTypes = do
  types ← IsSized
  just (map value_type types)

abbrev pub IsSignature : Spelling FunctionType
IsSignature = do
  parameters ← AreValueTypes
  results ← AreValueTypes
  just (record { parameters = parameters; results = results })

abbrev pub IsFunctionType : Spelling (Option FunctionType)
IsFunctionType = do
  form ← IsByte
  either (form == 0x60) (IsSignature >>= λ type. just (Some type)) (just None)

-- ---- imports

abbrev pub IsGlobalType : Spelling GlobalType
IsGlobalType = do
  type ← IsByte
  mutability ← IsByte
  just (record { value_type = value_type type })

abbrev pub AreLimits : Spelling (Unit {0})
AreLimits = do
  flag ← IsByte
  least ← IsNumber64
  either (flag % 2 == 1) (IsNumber64 >>= λ most. just tt) (just tt)

abbrev pub IsFunctionImport : Spelling ImportType
IsFunctionImport = IsNumber32 >>= λ index. just (imported.Function index)

abbrev pub IsTableImport : Spelling ImportType
IsTableImport = do
  type ← IsByte
  size ← AreLimits
  just imported.Table

abbrev pub IsMemoryImport : Spelling ImportType
IsMemoryImport = AreLimits >>= λ size. just imported.Memory

abbrev pub IsGlobalImport : Spelling ImportType
IsGlobalImport = IsGlobalType >>= λ type. just (imported.Global type)

abbrev pub IsTagImport : Spelling ImportType
IsTagImport = do
  attribute ← IsByte
  index ← IsNumber32
  just imported.Tag

abbrev pub IsImportOfKind : ℕ → Spelling ImportType
IsImportOfKind kind =
    either (kind == 0) IsFunctionImport
    (either (kind == 1) IsTableImport
    (either (kind == 2) IsMemoryImport
    (either (kind == 3) IsGlobalImport
    (either (kind == 4) IsTagImport
    nowhere))))

abbrev pub IsImportType : Spelling ImportType
IsImportType = IsByte >>= IsImportOfKind

abbrev pub IsImport : Spelling (Option Import)
IsImport = do
  origin ← IsName
  item ← IsName
  type ← IsImportType
  just (Some (record { «module» = origin; name = item; import_type = type }))

-- ---- functions and globals

abbrev pub IsTypeIndex : Spelling (Option ℕ)
IsTypeIndex = IsNumber32 >>= λ index. just (Some index)

-- what stands behind an opcode, and whether that is known
abbrev pub IsOperand : ℕ → Spelling Bool
IsOperand opcode =
    either ((opcode == 0x41) || ((opcode == 0x42) || ((opcode == 0x23) || (opcode == 0xD2)))) (IsLeb >>= λ n. just true)
    (either (opcode == 0x43) (AreBytes 4 >>= λ operand. just true)
    (either (opcode == 0x44) (AreBytes 8 >>= λ operand. just true)
    (either (opcode == 0xD0) (IsByte >>= λ operand. just true)
    (just false))))

-- n known instructions, and 0x0B or an unknown opcode behind them
unfoldable pub AreInstructions : ℕ → Spelling Bool
AreInstructions zero = do
  opcode ← IsByte
  either (opcode == 0x0B) (just true) (IsOperand opcode >>= λ is_known. either is_known nowhere (just false))
AreInstructions (suc n) = do
  opcode ← IsByte
  either (opcode == 0x0B) nowhere (IsOperand opcode >>= λ is_known. either is_known (AreInstructions n) nowhere)

abbrev pub IsInitializer : Spelling Bool
IsInitializer = λ bytes is_known. (n : ℕ) × AreInstructions n bytes is_known

abbrev pub IsGlobal : Spelling (Option GlobalType)
IsGlobal = do
  type ← IsGlobalType
  is_known ← IsInitializer
  just (if is_known then Some type else None)

-- ---- exports

abbrev pub IsExport : Spelling (Option Export)
IsExport = do
  item ← IsName
  kind ← IsByte
  index ← IsNumber32
  just (Some (record { name = item; export_type = export_of_kind kind index }))

-- ---- sections

-- what another value makes
abbrev pub made : {A B : Type 0} → (A → B) → Spelling A → Spelling B
made {A} f P = λ bytes y. (x : A) × P bytes x × (y ≡ f x)

-- an entry before others; where it isn't known, whatever stands behind it
abbrev pub AreLed : {A : Type 0} → Option A → Spelling (Known A) → Spelling (Known A)
AreLed None AreOthers = whatever (nothing false)
AreLed (Some x) AreOthers = made (preceded x) AreOthers

-- n entries, or those before one that isn't known; whatever stands behind them
unfoldable pub AreEntries : {A : Type 0} → Spelling (Option A) → ℕ → Spelling (Known A)
AreEntries IsEntry zero = whatever (nothing true)
AreEntries IsEntry (suc n) = IsEntry >>= λ first. AreLed first (AreEntries IsEntry n)

abbrev pub IsVector : {A : Type 0} → Spelling (Option A) → Spelling (Known A)
IsVector IsEntry = IsNumber32 >>= AreEntries IsEntry

-- the parts with those that a payload spells
abbrev pub IsContents : Parts → ℕ → Spelling Parts
IsContents parts id =
    either (id == 1) (made (λ found. record parts { types = joined parts.types found }) (IsVector IsFunctionType))
    (either (id == 2) (made (λ found. record parts { imports = joined parts.imports found }) (IsVector IsImport))
    (either (id == 3) (made (λ found. record parts { functions = joined parts.functions found }) (IsVector IsTypeIndex))
    (either (id == 6) (made (λ found. record parts { globals = joined parts.globals found }) (IsVector IsGlobal))
    (either (id == 7) (made (λ found. record parts { exports = joined parts.exports found }) (IsVector IsExport))
    (whatever parts)))))

-- an id and a sized payload
abbrev pub IsSection : Parts → Spelling Parts
IsSection parts = do
  id ← IsByte
  payload ← IsSized
  λ bytes more. (bytes ≡ []) × IsContents parts id payload more

-- n sections
unfoldable pub AreSections : ℕ → Parts → Spelling Parts
AreSections zero parts = just parts
AreSections (suc n) parts = IsSection parts >>= AreSections n

-- the magic bytes, the version and sections
abbrev pub IsModule : Spelling Parts
IsModule = λ bytes parts. (n : ℕ) × (body : List ℕ) × (bytes ≡ magic ++ (version ++ body)) × AreSections n no_parts body parts
