-- The declaration text of what is known of a module.
use Rattle.std.specs.Prelude.{◌≡◌, ℕ, zero, suc, ◌+◌, not, List, [], ◌∷◌, ◌++◌, length, map, filter, slice_get, codes, decimal, bytes_eq, string_bytes, Option, Some, None, option_and_then, if◌then◌else◌, Result, Ok, Err}
use Rattle.std.specs.List.{filter_map}
use Rattle.std.specs.declared.string.String.{String}
use Rattle.wasm_dts.specs.declared.refusal.WasmRefusal.{WasmRefusal}
use Rattle.wasm_dts.specs.declared.types.ValueType.{ValueType}
use Rattle.wasm_dts.specs.declared.types.ValueType.TheVariants.{I32, I64, F32, F64, Unknown}
use Rattle.wasm_dts.specs.declared.types.FunctionType.{FunctionType}
use Rattle.wasm_dts.specs.declared.globals.GlobalType.{GlobalType}
use Rattle.wasm_dts.specs.declared.imports.ImportType.{ImportType}
use Rattle.wasm_dts.specs.declared.imports.ImportType.TheVariants as imported
use Rattle.wasm_dts.specs.declared.imports.Import.{Import}
use Rattle.wasm_dts.specs.declared.exports.ExportType.{ExportType}
use Rattle.wasm_dts.specs.declared.exports.ExportType.TheVariants as exported
use Rattle.wasm_dts.specs.declared.exports.Export.{Export}
use Rattle.wasm_dts.specs.declared.parts.Parts.{Parts}
use Rattle.wasm_dts.specs.declared.import_text.Origin.{Origin}
use Rattle.wasm_dts.specs.declared.spaces.Spaces.{Spaces}
use Rattle.wasm_dts.specs.Binary.{◌>>=◌}
use Rattle.wasm_dts.specs.Module.{module_parts}
use Rattle.wasm_dts.specs.Grammar.{IsModule}
use Rattle.wasm_dts.specs.Identifier.{is_identifier}

-- ---- text

-- the texts of elements, one behind the other, each by its number; the first one has the number n
unfoldable pub numbered : {A : Type 0} → (ℕ → A → List ℕ) → ℕ → List A → List ℕ
numbered text n [] = []
numbered text n (x ∷ xs) = text n x ++ numbered text (n + 1) xs

-- what stands in front of an element of a list
abbrev pub comma : ℕ → List ℕ
comma zero = []
comma (suc i) = codes ", "

-- ---- types

-- the type that an argument may have
abbrev pub argument_type : ValueType → List ℕ
argument_type I32 = codes "number"
argument_type I64 = codes "bigint | number"
argument_type F32 = codes "number"
argument_type F64 = codes "number"
argument_type Unknown = codes "unknown"

-- the type of a result and of a global
abbrev pub result_type : ValueType → List ℕ
result_type I32 = codes "number"
result_type I64 = codes "bigint"
result_type F32 = codes "number"
result_type F64 = codes "number"
result_type Unknown = codes "unknown"

abbrev pub argument : ℕ → ValueType → List ℕ
argument i type = codes "arg" ++ (decimal i ++ (codes ": " ++ argument_type type))

-- an argument of a list
abbrev pub listed_argument : ℕ → ValueType → List ℕ
listed_argument i type = comma i ++ argument i type

-- a result of a list
abbrev pub listed_result : ℕ → ValueType → List ℕ
listed_result i type = comma i ++ result_type type

-- none, one, or several in a tuple
abbrev pub returned : List ValueType → List ℕ
returned [] = codes "void"
returned (type ∷ []) = result_type type
returned (first ∷ second ∷ types) = codes "[" ++ (numbered listed_result 0 (first ∷ second ∷ types) ++ codes "]")

-- ---- imports

-- what is imported from a module
abbrev pub names_from : List ℕ → List Import → List (List ℕ)
names_from origin imports = map (λ i. i.name) (filter (λ i. bytes_eq origin i.module) imports)

-- the modules that imports are from, in order of first use, with what is imported from each
unfoldable pub origins_of : List Import → List Origin
origins_of [] = []
origins_of (i ∷ imports) =
    record { «module» = i.module; names = i.name ∷ names_from i.module imports }
    ∷ filter (λ o. not (bytes_eq i.module o.module)) (origins_of imports)

abbrev pub named_import : ℕ → List ℕ → List ℕ
named_import count name = codes "\"" ++ (name ++ (codes "\" as __deno_wasm_import_" ++ (decimal count ++ codes "__")))

-- a name of a list, the first of which has the number `count`
abbrev pub listed_import : ℕ → ℕ → List ℕ → List ℕ
listed_import count i name = comma i ++ named_import (count + i) name

-- the statement for a module, its names counted from `count` on
abbrev pub import_statement : ℕ → Origin → List ℕ
import_statement count origin =
    codes "import { " ++ (numbered (listed_import count) 0 origin.names
    ++ (codes " } from \"" ++ (origin.module ++ codes "\";\n")))

-- one statement for each module; the count goes on over all of them
unfoldable pub import_statements : ℕ → List Origin → List ℕ
import_statements count [] = []
import_statements count (origin ∷ origins) = import_statement count origin ++ import_statements (count + length origin.names) origins

-- ---- index spaces

-- the type index of a function
abbrev pub function_in : ImportType → Option ℕ
function_in (imported.Function index) = Some index
function_in imported.Table = None
function_in imported.Memory = None
function_in (imported.Global type) = None
function_in imported.Tag = None

-- the type of a global
abbrev pub global_in : ImportType → Option GlobalType
global_in (imported.Function index) = None
global_in imported.Table = None
global_in imported.Memory = None
global_in (imported.Global type) = Some type
global_in imported.Tag = None

-- the types that indexes stand for: of functions and of globals imported ones come first
abbrev pub spaces_of : Parts → Spaces
spaces_of parts =
    record {
      types = parts.types.entries;
      functions = filter_map (λ i. function_in i.import_type) parts.imports.entries ++ parts.functions.entries;
      globals = filter_map (λ i. global_in i.import_type) parts.imports.entries ++ parts.globals.entries;
    }

-- the type of the function with an index, where it is known
abbrev pub signature_at : Spaces → ℕ → Option FunctionType
signature_at spaces index = option_and_then (λ type. slice_get spaces.types type) (slice_get spaces.functions index)

-- ---- exports

-- how an export is declared under a name
abbrev pub declared_function : List ℕ → FunctionType → List ℕ
declared_function name type =
    codes "declare function " ++ (name ++ (codes "(" ++ (numbered listed_argument 0 type.parameters ++ (codes "): " ++ (returned type.results ++ codes ";\n")))))

abbrev pub declared_constant : List ℕ → List ℕ → List ℕ
declared_constant name type = codes "declare const " ++ (name ++ (codes ": " ++ (type ++ codes ";\n")))

abbrev pub function_or_unknown : List ℕ → Option FunctionType → List ℕ
function_or_unknown name (Some type) = declared_function name type
function_or_unknown name None = declared_constant name (codes "unknown")

abbrev pub global_or_unknown : List ℕ → Option GlobalType → List ℕ
global_or_unknown name (Some type) = declared_constant name (result_type type.value_type)
global_or_unknown name None = declared_constant name (codes "unknown")

abbrev pub declaration : Spaces → List ℕ → ExportType → List ℕ
declaration spaces name (exported.Function index) = function_or_unknown name (signature_at spaces index)
declaration spaces name exported.Table = declared_constant name (codes "WebAssembly.Table")
declaration spaces name exported.Memory = declared_constant name (codes "WebAssembly.Memory")
declaration spaces name (exported.Global index) = global_or_unknown name (slice_get spaces.globals index)
declaration spaces name exported.Unknown = declared_constant name (codes "unknown")

-- the name that stands for an export which can't be declared under its own
abbrev pub local_name : ℕ → List ℕ
local_name i = codes "__deno_wasm_export_" ++ (decimal i ++ codes "__")

-- the statement that exports something under a name of its own
abbrev pub export_list : List ℕ → List ℕ → List ℕ
export_list local name = codes "export { " ++ (local ++ (codes " as \"" ++ (name ++ codes "\" };\n")))

-- a declaration under that name, and the statement that exports it under its own
abbrev pub renamed_statements : Spaces → ℕ → Export → List ℕ
renamed_statements spaces i e = declaration spaces (local_name i) e.export_type ++ export_list (local_name i) e.name

-- the export with a number: declared under its own name, or under another
abbrev pub export_statements : Spaces → ℕ → Export → List ℕ
export_statements spaces i e =
    if is_identifier e.name then codes "export " ++ declaration spaces e.name e.export_type else renamed_statements spaces i e

-- the imports, and then the exports in their order
abbrev pub declarations : Parts → List ℕ
declarations parts =
    import_statements 0 (origins_of parts.imports.entries)
    ++ numbered (export_statements (spaces_of parts)) 0 parts.exports.entries

-- the declaration text of a module, or the first rule that its bytes break
abbrev pub module_declarations : List ℕ → Result (List ℕ) WasmRefusal
module_declarations bytes = do
  parts ← module_parts bytes
  Ok (declarations parts)

-- an answered text as its bytes, beside what is answered in its place
abbrev pub text_view : {A E : Type 0} → Result (String A) E → Result (List ℕ) E
text_view (Ok text) = Ok (string_bytes text)
text_view (Err e) = Err e

-- the declaration text of a module that the bytes spell
abbrev pub IsDeclared : List ℕ → List ℕ → Type 0
IsDeclared bytes text = (parts : Parts) × IsModule bytes parts × (text ≡ declarations parts)
