-- The entries of sections: reading and grammar agree.
use Rattle.std.proofs.Common.{◌≡◌, ℕ, zero, suc, ◌%◌, ◌<◌, Bool, true, false, cond, List, ◌++◌, length, map, Some, None, Ok, Err, refl, sym, ap, subst, arith}
use Rattle.std.proofs.lemmas.List.{length-append}
use Rattle.std.specs.Prelude.{◌==◌, ◌||◌, MatchBool}
use Rattle.wasm_dts.specs.declared.refusal.WasmRefusal.TheVariants.{UnknownKind}
use Rattle.wasm_dts.specs.declared.imports.ImportType.{ImportType}
use Rattle.wasm_dts.specs.declared.imports.ImportType.TheVariants as imported
use Rattle.wasm_dts.specs.Span.{Span}
use Rattle.wasm_dts.specs.Binary.{Read, ◌>>=◌, taken, byte, leb, leb_value, number32, number64, sized, name}
use Rattle.wasm_dts.specs.Entries.{value_type, value_types, signature, function_type, global_type, limits, function_import, table_import, memory_import, global_import, tag_import, import_of_kind, import_type, import_entry, type_index, operand, instructions, initializer, global_entry, export_of_kind, export_entry}
use Rattle.wasm_dts.specs.Grammar as grammar
use Rattle.wasm_dts.specs.Grammar.{Spelling, just, nowhere, either, IsByte, IsLeb, IsNumber32, IsNumber64, AreBytes, IsSized, IsName, AreValueTypes, IsSignature, IsFunctionType, IsGlobalType, AreLimits, IsFunctionImport, IsTableImport, IsMemoryImport, IsGlobalImport, IsTagImport, IsImportOfKind, IsImportType, IsImport, IsTypeIndex, IsOperand, AreInstructions, IsInitializer, IsGlobal, IsExport}
use Rattle.wasm_dts.proofs.Agreement.{AgreesBy, Agrees, itself, just_agrees, nowhere_agrees, either_agrees, then_by, then_agrees}
use Rattle.wasm_dts.proofs.ValueAgreement.{byte_agrees, number32_agrees, number64_agrees, leb_agrees, taken_agrees, sized_agrees, name_agrees}

-- one part whose value makes the whole
pub then_just : {X A B : Type 0} (v : X → A) (r : Span → Read X) (P : Spelling A) (f : A → B) → AgreesBy v r P → Agrees (λ s. r s >>= λ x. Ok (f (v x.0), x.1)) (grammar.◌>>=◌ P (λ x. just (f x)))
then_just v r P f a = then_by v itself r (λ n x s. Ok (f (v x), s)) P (λ x. just (f x)) a (λ n x. just_agrees (f (v x)))

-- ---- types

pub value_types_agree : Agrees value_types AreValueTypes
value_types_agree = then_just (λ (x : Span). x.bytes) sized IsSized (map value_type) sized_agrees

pub signature_agrees : Agrees signature IsSignature
signature_agrees =
    then_agrees value_types (λ ps s. value_types s >>= λ rs. Ok (record { parameters = ps; results = rs.0 }, rs.1)) AreValueTypes (λ ps. grammar.◌>>=◌ AreValueTypes (λ rs. just (record { parameters = ps; results = rs }))) value_types_agree
    (λ ps. then_just itself value_types AreValueTypes (λ rs. record { parameters = ps; results = rs }) value_types_agree)

pub function_type_agrees : Agrees function_type IsFunctionType
function_type_agrees =
    then_agrees byte (λ form s. cond (form == 0x60) (signature s >>= λ found. Ok (Some found.0, found.1)) (Ok (None, s))) IsByte (λ form. either (form == 0x60) (grammar.◌>>=◌ IsSignature (λ type. just (Some type))) (just None)) byte_agrees
    (λ form. either_agrees (form == 0x60) (λ s. signature s >>= λ found. Ok (Some found.0, found.1)) (λ s. Ok (None, s)) (grammar.◌>>=◌ IsSignature (λ type. just (Some type))) (just None) (then_just itself signature IsSignature Some signature_agrees) (just_agrees None))

-- ---- imports

pub global_type_agrees : Agrees global_type IsGlobalType
global_type_agrees =
    then_agrees byte (λ type s. byte s >>= λ m. Ok (record { value_type = value_type type }, m.1)) IsByte (λ type. grammar.◌>>=◌ IsByte (λ m. just (record { value_type = value_type type }))) byte_agrees
    (λ type. then_just itself byte IsByte (λ m. record { value_type = value_type type }) byte_agrees)

abbrev no_more : Span → Read (Unit {0})
no_more s = Ok (tt, s)

abbrev greatest : Span → Read (Unit {0})
greatest s = number64 s >>= λ most. no_more most.1

abbrev IsUnit : Spelling (Unit {0})
IsUnit = just tt

abbrev IsGreatest : Spelling (Unit {0})
IsGreatest = grammar.◌>>=◌ IsNumber64 (λ most. IsUnit)

abbrev sizes : ℕ → Span → Read (Unit {0})
sizes flag s = number64 s >>= λ least. cond (flag % 2 == 1) (greatest least.1) (no_more least.1)

abbrev AreSizes : ℕ → Spelling (Unit {0})
AreSizes flag = grammar.◌>>=◌ IsNumber64 (λ least. either (flag % 2 == 1) IsGreatest IsUnit)

no_more_agrees : Agrees no_more IsUnit
no_more_agrees = just_agrees tt

sizes_agree : (flag : ℕ) → Agrees (sizes flag) (AreSizes flag)
sizes_agree flag =
    then_agrees number64 (λ least s. cond (flag % 2 == 1) (greatest s) (no_more s)) IsNumber64 (λ least. either (flag % 2 == 1) IsGreatest IsUnit) number64_agrees
    (λ least. either_agrees (flag % 2 == 1) greatest no_more IsGreatest IsUnit (then_agrees number64 (λ most. no_more) IsNumber64 (λ most. IsUnit) number64_agrees (λ most. no_more_agrees)) no_more_agrees)

pub limits_agree : Agrees limits AreLimits
limits_agree = then_agrees byte sizes IsByte AreSizes byte_agrees sizes_agree

function_import_agrees : Agrees function_import IsFunctionImport
function_import_agrees = then_just itself number32 IsNumber32 imported.Function number32_agrees

table_import_agrees : Agrees table_import IsTableImport
table_import_agrees =
    then_agrees byte (λ type s. limits s >>= λ size. Ok (imported.Table, size.1)) IsByte (λ type. grammar.◌>>=◌ AreLimits (λ size. just imported.Table)) byte_agrees (λ type. then_just itself limits AreLimits (λ size. imported.Table) limits_agree)

memory_import_agrees : Agrees memory_import IsMemoryImport
memory_import_agrees = then_just itself limits AreLimits (λ size. imported.Memory) limits_agree

global_import_agrees : Agrees global_import IsGlobalImport
global_import_agrees = then_just itself global_type IsGlobalType imported.Global global_type_agrees

tag_import_agrees : Agrees tag_import IsTagImport
tag_import_agrees =
    then_agrees byte (λ attribute s. number32 s >>= λ index. Ok (imported.Tag, index.1)) IsByte (λ attribute. grammar.◌>>=◌ IsNumber32 (λ index. just imported.Tag)) byte_agrees (λ attribute. then_just itself number32 IsNumber32 (λ index. imported.Tag) number32_agrees)

import_of_kind_agrees : (at kind : ℕ) → Agrees (import_of_kind at kind) (IsImportOfKind kind)
import_of_kind_agrees at kind =
    let nothing_else = nowhere_agrees {A = ImportType} (UnknownKind at) in
    let e4 = either_agrees (kind == 4) tag_import (λ s. Err (UnknownKind at)) IsTagImport nowhere tag_import_agrees nothing_else in
    let e3 = either_agrees (kind == 3) global_import (λ s. cond (kind == 4) (tag_import s) (Err (UnknownKind at))) IsGlobalImport (either (kind == 4) IsTagImport nowhere) global_import_agrees e4 in
    let e2 = either_agrees (kind == 2) memory_import (λ s. cond (kind == 3) (global_import s) (cond (kind == 4) (tag_import s) (Err (UnknownKind at)))) IsMemoryImport (either (kind == 3) IsGlobalImport (either (kind == 4) IsTagImport nowhere)) memory_import_agrees e3 in
    let e1 = either_agrees (kind == 1) table_import (λ s. cond (kind == 2) (memory_import s) (cond (kind == 3) (global_import s) (cond (kind == 4) (tag_import s) (Err (UnknownKind at))))) IsTableImport (either (kind == 2) IsMemoryImport (either (kind == 3) IsGlobalImport (either (kind == 4) IsTagImport nowhere))) table_import_agrees e2 in
    either_agrees (kind == 0) function_import (λ s. cond (kind == 1) (table_import s) (cond (kind == 2) (memory_import s) (cond (kind == 3) (global_import s) (cond (kind == 4) (tag_import s) (Err (UnknownKind at)))))) IsFunctionImport (either (kind == 1) IsTableImport (either (kind == 2) IsMemoryImport (either (kind == 3) IsGlobalImport (either (kind == 4) IsTagImport nowhere)))) function_import_agrees e1

pub import_type_agrees : Agrees import_type IsImportType
import_type_agrees = then_by itself itself byte import_of_kind IsByte IsImportOfKind byte_agrees import_of_kind_agrees

pub import_agrees : Agrees import_entry IsImport
import_agrees =
    then_agrees name (λ origin s. name s >>= λ item. import_type item.1 >>= λ type. Ok (Some (record { «module» = origin; name = item.0; import_type = type.0 }), type.1)) IsName
    (λ origin. grammar.◌>>=◌ IsName (λ item. grammar.◌>>=◌ IsImportType (λ type. just (Some (record { «module» = origin; name = item; import_type = type }))))) name_agrees
    (λ origin. then_agrees name (λ item s. import_type s >>= λ type. Ok (Some (record { «module» = origin; name = item; import_type = type.0 }), type.1)) IsName
    (λ item. grammar.◌>>=◌ IsImportType (λ type. just (Some (record { «module» = origin; name = item; import_type = type })))) name_agrees
    (λ item. then_just itself import_type IsImportType (λ type. Some (record { «module» = origin; name = item; import_type = type })) import_type_agrees))

-- ---- type indexes and exports

pub type_index_agrees : Agrees type_index IsTypeIndex
type_index_agrees = then_just itself number32 IsNumber32 Some number32_agrees

pub export_agrees : Agrees export_entry IsExport
export_agrees =
    then_agrees name (λ item s. byte s >>= λ kind. number32 kind.1 >>= λ index. Ok (Some (record { name = item; export_type = export_of_kind kind.0 index.0 }), index.1)) IsName
    (λ item. grammar.◌>>=◌ IsByte (λ kind. grammar.◌>>=◌ IsNumber32 (λ index. just (Some (record { name = item; export_type = export_of_kind kind index }))))) name_agrees
    (λ item. then_agrees byte (λ kind s. number32 s >>= λ index. Ok (Some (record { name = item; export_type = export_of_kind kind index.0 }), index.1)) IsByte
    (λ kind. grammar.◌>>=◌ IsNumber32 (λ index. just (Some (record { name = item; export_type = export_of_kind kind index })))) byte_agrees
    (λ kind. then_just itself number32 IsNumber32 (λ index. Some (record { name = item; export_type = export_of_kind kind index })) number32_agrees))

-- ---- instructions

abbrev known_behind : {X : Type 0} → (Span → Read X) → Span → Read Bool
known_behind r s = r s >>= λ found. Ok (true, found.1)

abbrev IsKnownBehind : {A : Type 0} → Spelling A → Spelling Bool
IsKnownBehind P = grammar.◌>>=◌ P (λ x. just true)

known_agrees : {X A : Type 0} (v : X → A) (r : Span → Read X) (P : Spelling A) → AgreesBy v r P → Agrees (known_behind r) (IsKnownBehind P)
known_agrees v r P a = then_just v r P (λ x. true) a

abbrev has_leb : ℕ → Bool
has_leb opcode = (opcode == 0x41) || ((opcode == 0x42) || ((opcode == 0x23) || (opcode == 0xD2)))

pub operand_agrees : (opcode : ℕ) → Agrees (operand opcode) (IsOperand opcode)
operand_agrees opcode =
    let e4 = either_agrees (opcode == 0xD0) (known_behind byte) (λ s. Ok (false, s)) (IsKnownBehind IsByte) (just false) (known_agrees itself byte IsByte byte_agrees) (just_agrees false) in
    let e3 = either_agrees (opcode == 0x44) (known_behind (taken 8)) (λ s. cond (opcode == 0xD0) (known_behind byte s) (Ok (false, s))) (IsKnownBehind (AreBytes 8)) (either (opcode == 0xD0) (IsKnownBehind IsByte) (just false)) (known_agrees (λ (x : Span). x.bytes) (taken 8) (AreBytes 8) (taken_agrees 8)) e4 in
    let e2 = either_agrees (opcode == 0x43) (known_behind (taken 4)) (λ s. cond (opcode == 0x44) (known_behind (taken 8) s) (cond (opcode == 0xD0) (known_behind byte s) (Ok (false, s)))) (IsKnownBehind (AreBytes 4)) (either (opcode == 0x44) (IsKnownBehind (AreBytes 8)) (either (opcode == 0xD0) (IsKnownBehind IsByte) (just false))) (known_agrees (λ (x : Span). x.bytes) (taken 4) (AreBytes 4) (taken_agrees 4)) e3 in
    either_agrees (has_leb opcode) (known_behind leb) (λ s. cond (opcode == 0x43) (known_behind (taken 4) s) (cond (opcode == 0x44) (known_behind (taken 8) s) (cond (opcode == 0xD0) (known_behind byte s) (Ok (false, s)))))
    (IsKnownBehind IsLeb) (either (opcode == 0x43) (IsKnownBehind (AreBytes 4)) (either (opcode == 0x44) (IsKnownBehind (AreBytes 8)) (either (opcode == 0xD0) (IsKnownBehind IsByte) (just false)))) (known_agrees (λ (x : Span). leb_value x.bytes) leb IsLeb leb_agrees) e2

-- fewer than m known instructions
abbrev Fewer : ℕ → Spelling Bool
Fewer m = λ bytes x. (n : ℕ) × (n < m) × AreInstructions n bytes x

-- an instruction before fewer than m known ones
abbrev OneMore : ℕ → Spelling Bool
OneMore m = grammar.◌>>=◌ IsByte (λ opcode. either (opcode == 0x0B) (just true) (grammar.◌>>=◌ (IsOperand opcode) (λ k. either k (Fewer m) (just k))))

match_map : (b : Bool) (P Q P' Q' : Type 0) → (P → P') → (Q → Q') → MatchBool b P Q → MatchBool b P' Q'
match_map true P Q P' Q' f g h = f h
match_map false P Q P' Q' f g h = g h

fewer_at : (m opcode : ℕ) (bytes f b : List ℕ) (y t : Bool) → (opcode == 0x0B) ≡ t → bytes ≡ f ++ b → IsByte f opcode
    → MatchBool t (just true b y) (grammar.◌>>=◌ (IsOperand opcode) (λ k. either k (Fewer m) (just k)) b y) → Fewer (suc m) bytes y
unfolding AreInstructions
fewer_at m opcode bytes f b y true t e p q = (0, omega arith, (f, b, opcode, e, p, subst (λ z. MatchBool z (just true b y) (grammar.◌>>=◌ (IsOperand opcode) (λ k. either k nowhere (just false)) b y)) (sym t) q))
fewer_at m opcode bytes f b y false t e p q = fewer_behind q.2 refl q.5 where
  fewer_behind : (k : Bool) → q.2 ≡ k → MatchBool k (Fewer m q.1 y) (just k q.1 y) → Fewer (suc m) bytes y
  fewer_behind true i h = (
    suc h.0,
    omega (arith, h.1),
    (
      f,
      b,
      opcode,
      e,
      p,
      subst (λ z. MatchBool z ⊥ (grammar.◌>>=◌ (IsOperand opcode) (λ k. either k (AreInstructions h.0) nowhere) b y)) (sym t)
          (q.0, q.1, true, q.3, subst (IsOperand opcode q.0) i q.4, h.2),
    ),
  )
  fewer_behind false i h = (
    0,
    omega arith,
    (
      f,
      b,
      opcode,
      e,
      p,
      subst (λ z. MatchBool z (just true b y) (grammar.◌>>=◌ (IsOperand opcode) (λ k. either k nowhere (just false)) b y)) (sym t)
          (q.0, q.1, false, q.3, subst (IsOperand opcode q.0) i q.4, h),
    ),
  )

fewer_more : (m : ℕ) (bytes : List ℕ) (y : Bool) → OneMore m bytes y → Fewer (suc m) bytes y
fewer_more m bytes y h = fewer_at m h.2 bytes h.0 h.1 y (h.2 == 0x0B) refl h.3 h.4 h.5

stops_at : (k : Bool) (m : ℕ) (b : List ℕ) (y : Bool) → MatchBool k ⊥ (just false b y) → MatchBool k (Fewer m b y) (just k b y)
stops_at true m b y h = absurd h
stops_at false m b y h = h

goes_at : (k : Bool) (m n : ℕ) (b : List ℕ) (y : Bool) → n < m → MatchBool k (AreInstructions n b y) ⊥ → MatchBool k (Fewer m b y) (just k b y)
goes_at true m n b y lt h = (n, lt, h)
goes_at false m n b y lt h = absurd h

one_more_at : (m n : ℕ) (bytes : List ℕ) (y : Bool) → n < suc m → AreInstructions n bytes y → OneMore m bytes y
unfolding AreInstructions
one_more_at m zero bytes y lt a = (
  a.0,
  a.1,
  a.2,
  a.3,
  a.4,
  match_map (a.2 == 0x0B) (just true a.1 y) (grammar.◌>>=◌ (IsOperand a.2) (λ k. either k nowhere (just false)) a.1 y) (just true a.1 y) (grammar.◌>>=◌ (IsOperand a.2) (λ k. either k (Fewer m) (just k)) a.1 y)
      (λ h. h) (λ r. (r.0, r.1, r.2, r.3, r.4, stops_at r.2 m r.1 y r.5)) a.5,
)
one_more_at m (suc n) bytes y lt a = (
  a.0,
  a.1,
  a.2,
  a.3,
  a.4,
  match_map (a.2 == 0x0B) ⊥ (grammar.◌>>=◌ (IsOperand a.2) (λ k. either k (AreInstructions n) nowhere) a.1 y) (just true a.1 y) (grammar.◌>>=◌ (IsOperand a.2) (λ k. either k (Fewer m) (just k)) a.1 y)
      (λ h. absurd h) (λ r. (r.0, r.1, r.2, r.3, r.4, goes_at r.2 m n r.1 y (omega arith) r.5)) a.5,
)

agrees_as : {A : Type 0} (r : Span → Read A) (P Q : Spelling A) → Agrees r P → ((bytes : List ℕ) (x : A) → P bytes x → Q bytes x) → ((bytes : List ℕ) (x : A) → Q bytes x → P bytes x) → Agrees r Q
agrees_as r P Q a f g =
    record {
      found = λ at bytes x rest e. let h = a.found at bytes x rest e in (h.0, h.1, h.2, f h.0 x h.3);
      only = λ at front back x h. a.only at front back x (g front x h);
    }

instructions_agree : (m : ℕ) → Agrees (instructions m) (Fewer m)
unfolding instructions
instructions_agree zero = record { found = λ at bytes x rest e. absurd cc; only = λ at front back x h. absurd (omega (arith, h.1)) }
instructions_agree (suc m) =
    agrees_as (instructions (suc m)) (OneMore m) (Fewer (suc m))
    (then_agrees byte (λ opcode s. cond (opcode == 0x0B) (Ok (true, s)) (operand opcode s >>= λ found. cond found.0 (instructions m found.1) (Ok found))) IsByte
    (λ opcode. either (opcode == 0x0B) (just true) (grammar.◌>>=◌ (IsOperand opcode) (λ k. either k (Fewer m) (just k)))) byte_agrees
    (λ opcode. either_agrees (opcode == 0x0B) (λ s. Ok (true, s)) (λ s. operand opcode s >>= λ found. cond found.0 (instructions m found.1) (Ok found)) (just true) (grammar.◌>>=◌ (IsOperand opcode) (λ k. either k (Fewer m) (just k))) (just_agrees true)
    (then_agrees (operand opcode) (λ k s. cond k (instructions m s) (Ok (k, s))) (IsOperand opcode) (λ k. either k (Fewer m) (just k)) (operand_agrees opcode)
    (λ k. either_agrees k (instructions m) (λ s. Ok (k, s)) (Fewer m) (just k) (instructions_agree m) (just_agrees k)))))
    (fewer_more m) (λ bytes y h. one_more_at m h.0 bytes y h.1 h.2)

second_of : (b : Bool) (Q : Type 0) → MatchBool b ⊥ Q → Q
second_of true Q h = absurd h
second_of false Q h = h

first_of_two : (b : Bool) (P : Type 0) → MatchBool b P ⊥ → P
first_of_two true P h = h
first_of_two false P h = absurd h

-- there are more bytes than known instructions
instructions_count : (n : ℕ) (bytes : List ℕ) (y : Bool) → AreInstructions n bytes y → n < length bytes
unfolding AreInstructions
instructions_count zero bytes y a = omega (arith, ap length a.3, length-append a.0 a.1, ap length a.4)
instructions_count (suc n) bytes y a =
    let r = second_of (a.2 == 0x0B) (grammar.◌>>=◌ (IsOperand a.2) (λ k. either k (AreInstructions n) nowhere) a.1 y) a.5 in
    let below = instructions_count n r.1 y (first_of_two r.2 (AreInstructions n r.1 y) r.5) in
    omega (arith, ap length a.3, length-append a.0 a.1, ap length a.4, ap length r.3, length-append r.0 r.1, below)

initializer_agrees : Agrees initializer IsInitializer
initializer_agrees =
    record {
      found = λ at bytes x rest e. let f = (instructions_agree (length bytes)).found at bytes x rest e in (f.0, f.1, f.2, (f.3.0, f.3.2));
      only = λ at front back x h. (instructions_agree (length (front ++ back))).only at front back x (h.0, omega (arith, instructions_count h.0 front x h.1, length-append front back), h.1);
    }

pub global_agrees : Agrees global_entry IsGlobal
global_agrees =
    then_agrees global_type (λ type s. initializer s >>= λ initial. Ok (cond initial.0 (Some type) None, initial.1)) IsGlobalType
    (λ type. grammar.◌>>=◌ IsInitializer (λ is_known. just (cond is_known (Some type) None))) global_type_agrees
    (λ type. then_just itself initializer IsInitializer (λ is_known. cond is_known (Some type) None) initializer_agrees)
