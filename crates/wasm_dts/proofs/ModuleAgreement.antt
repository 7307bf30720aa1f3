-- Vectors, sections and modules: reading and grammar agree.
use Rattle.std.proofs.Common.{◌≡◌, ℕ, zero, suc, ◌+◌, ◌<◌, ◌≤◌, Bool, true, false, cond, eqb, List, [], ◌∷◌, ◌++◌, length, take, drop, Option, Some, None, Result, Ok, Err, refl, sym, ap, ◌∙◌, subst, arith}
use Rattle.std.specs.Prelude.{◌==◌, nat_lt, nat_eq, not, string_bytes, IfOk}
use Rattle.std.specs.declared.string.String.{String}
use Rattle.std.proofs.lemmas.Bool.{le-ltb}
use Rattle.std.proofs.lemmas.Slice.Eq.{bytes_eq-Decides}
use Rattle.spec_base.specs.Refusal.{Answers}
use Rattle.spec_base.specs.declared.refusal.Refusal.{Refusal}
use Rattle.wasm_dts.specs.Declarations.{declarations, module_declarations, IsDeclared, text_view}
use Rattle.std.specs.List.{starts_with}
use Rattle.std.proofs.Math.Dec.{eqb-suc-zero}
use Rattle.std.proofs.lemmas.List.{length-append, nil_from_length, take-append-drop}
use Rattle.wasm_dts.specs.declared.refusal.WasmRefusal.{WasmRefusal}
use Rattle.wasm_dts.specs.declared.refusal.WasmRefusal.TheVariants.{NotWasm, UnexpectedEnd, UnsupportedVersion}
use Rattle.wasm_dts.specs.declared.entry.Known.{Known}
use Rattle.wasm_dts.specs.declared.parts.Parts.{Parts}
use Rattle.wasm_dts.specs.Span.{Span}
use Rattle.wasm_dts.specs.Binary.{Read, ◌>>=◌, byte, number32, sized}
use Rattle.wasm_dts.specs.Vector.{nothing, preceded, joined, entry_then, entries, vector}
use Rattle.wasm_dts.specs.Entries.{function_type, import_entry, type_index, global_entry, export_entry}
use Rattle.wasm_dts.specs.Module.{no_parts, section_parts, section, sections, magic, version, behind_header, module_parts}
use Rattle.wasm_dts.specs.Grammar as grammar
use Rattle.wasm_dts.specs.Grammar.{Spelling, just, whatever, either, made, IsByte, IsSized, IsNumber32, IsFunctionType, IsImport, IsTypeIndex, IsGlobal, IsExport, AreLed, AreEntries, IsVector, IsContents, IsSection, AreSections, IsModule}
use Rattle.wasm_dts.proofs.Agreement.{span, Agrees, AgreesWhole, itself, bind_ok, ok_is, span_is, reads, done, whatever_agrees, either_whole, then_whole, made_agrees, then_by, then_agrees}
use Rattle.wasm_dts.proofs.ValueAgreement.{guard_ok, byte_agrees, number32_agrees, sized_agrees}
use Rattle.wasm_dts.proofs.EntryAgreement.{function_type_agrees, import_agrees, type_index_agrees, global_agrees, export_agrees}

led_agrees : {A : Type 0} (first : Option A) (r : Span → Result (Known A) WasmRefusal) (P : Spelling (Known A)) → AgreesWhole r P → AgreesWhole (λ s. entry_then first (r s)) (AreLed first P)
led_agrees None r P a = let w = whatever_agrees (nothing false) in record { found = w.found; only = w.only }
led_agrees (Some x) r P a = let m = made_agrees (preceded x) r P a in record { found = m.found; only = m.only }

entries_agree : {A : Type 0} (entry : Span → Read (Option A)) (IsEntry : Spelling (Option A)) → Agrees entry IsEntry → (n : ℕ) → AgreesWhole (entries entry n) (AreEntries IsEntry n)
unfolding entries AreEntries
entries_agree entry IsEntry a zero = whatever_agrees (nothing true)
entries_agree entry IsEntry a (suc n) =
    then_whole entry (λ first s. entry_then first (entries entry n s)) IsEntry (λ first. AreLed first (AreEntries IsEntry n)) a (λ first. led_agrees first (entries entry n) (AreEntries IsEntry n) (entries_agree entry IsEntry a n))

vector_agrees : {A : Type 0} (entry : Span → Read (Option A)) (IsEntry : Spelling (Option A)) → Agrees entry IsEntry → AgreesWhole (vector entry) (IsVector IsEntry)
vector_agrees entry IsEntry a = then_whole number32 (entries entry) IsNumber32 (AreEntries IsEntry) number32_agrees (entries_agree entry IsEntry a)

abbrev with_vector : {A : Type 0} → (Known A → Parts) → (Span → Read (Option A)) → Span → Result Parts WasmRefusal
with_vector put entry s = vector entry s >>= λ found. Ok (put found)

with_vector_agrees : {A : Type 0} (put : Known A → Parts) (entry : Span → Read (Option A)) (IsEntry : Spelling (Option A)) → Agrees entry IsEntry → AgreesWhole (with_vector put entry) (made put (IsVector IsEntry))
with_vector_agrees put entry IsEntry a = made_agrees put (vector entry) (IsVector IsEntry) (vector_agrees entry IsEntry a)

abbrev reads_exports : Parts → ℕ → Span → Result Parts WasmRefusal
reads_exports parts id s = cond (id == 7) (with_vector (λ found. record parts { exports = joined parts.exports found }) export_entry s) (Ok parts)

abbrev Is_exports : Parts → ℕ → Spelling Parts
Is_exports parts id = either (id == 7) (made (λ found. record parts { exports = joined parts.exports found }) (IsVector IsExport)) (whatever parts)

exports_agree : (parts : Parts) (id : ℕ) → AgreesWhole (reads_exports parts id) (Is_exports parts id)
exports_agree parts id = either_whole (id == 7) (with_vector (λ found. record parts { exports = joined parts.exports found }) export_entry) (λ s. Ok parts) (made (λ found. record parts { exports = joined parts.exports found }) (IsVector IsExport)) (whatever parts) (with_vector_agrees (λ found. record parts { exports = joined parts.exports found }) export_entry IsExport export_agrees) (whatever_agrees parts)

abbrev reads_globals : Parts → ℕ → Span → Result Parts WasmRefusal
reads_globals parts id s = cond (id == 6) (with_vector (λ found. record parts { globals = joined parts.globals found }) global_entry s) (reads_exports parts id s)

abbrev Is_globals : Parts → ℕ → Spelling Parts
Is_globals parts id = either (id == 6) (made (λ found. record parts { globals = joined parts.globals found }) (IsVector IsGlobal)) (Is_exports parts id)

globals_agree : (parts : Parts) (id : ℕ) → AgreesWhole (reads_globals parts id) (Is_globals parts id)
globals_agree parts id = either_whole (id == 6) (with_vector (λ found. record parts { globals = joined parts.globals found }) global_entry) (reads_exports parts id) (made (λ found. record parts { globals = joined parts.globals found }) (IsVector IsGlobal)) (Is_exports parts id) (with_vector_agrees (λ found. record parts { globals = joined parts.globals found }) global_entry IsGlobal global_agrees) (exports_agree parts id)

abbrev reads_functions : Parts → ℕ → Span → Result Parts WasmRefusal
reads_functions parts id s = cond (id == 3) (with_vector (λ found. record parts { functions = joined parts.functions found }) type_index s) (reads_globals parts id s)

abbrev Is_functions : Parts → ℕ → Spelling Parts
Is_functions parts id = either (id == 3) (made (λ found. record parts { functions = joined parts.functions found }) (IsVector IsTypeIndex)) (Is_globals parts id)

functions_agree : (parts : Parts) (id : ℕ) → AgreesWhole (reads_functions parts id) (Is_functions parts id)
functions_agree parts id = either_whole (id == 3) (with_vector (λ found. record parts { functions = joined parts.functions found }) type_index) (reads_globals parts id) (made (λ found. record parts { functions = joined parts.functions found }) (IsVector IsTypeIndex)) (Is_globals parts id) (with_vector_agrees (λ found. record parts { functions = joined parts.functions found }) type_index IsTypeIndex type_index_agrees) (globals_agree parts id)

abbrev reads_imports : Parts → ℕ → Span → Result Parts WasmRefusal
reads_imports parts id s = cond (id == 2) (with_vector (λ found. record parts { imports = joined parts.imports found }) import_entry s) (reads_functions parts id s)

abbrev Is_imports : Parts → ℕ → Spelling Parts
Is_imports parts id = either (id == 2) (made (λ found. record parts { imports = joined parts.imports found }) (IsVector IsImport)) (Is_functions parts id)

imports_agree : (parts : Parts) (id : ℕ) → AgreesWhole (reads_imports parts id) (Is_imports parts id)
imports_agree parts id = either_whole (id == 2) (with_vector (λ found. record parts { imports = joined parts.imports found }) import_entry) (reads_functions parts id) (made (λ found. record parts { imports = joined parts.imports found }) (IsVector IsImport)) (Is_functions parts id) (with_vector_agrees (λ found. record parts { imports = joined parts.imports found }) import_entry IsImport import_agrees) (functions_agree parts id)

abbrev reads_types : Parts → ℕ → Span → Result Parts WasmRefusal
reads_types parts id s = cond (id == 1) (with_vector (λ found. record parts { types = joined parts.types found }) function_type s) (reads_imports parts id s)

abbrev Is_types : Parts → ℕ → Spelling Parts
Is_types parts id = either (id == 1) (made (λ found. record parts { types = joined parts.types found }) (IsVector IsFunctionType)) (Is_imports parts id)

types_agree : (parts : Parts) (id : ℕ) → AgreesWhole (reads_types parts id) (Is_types parts id)
types_agree parts id = either_whole (id == 1) (with_vector (λ found. record parts { types = joined parts.types found }) function_type) (reads_imports parts id) (made (λ found. record parts { types = joined parts.types found }) (IsVector IsFunctionType)) (Is_imports parts id) (with_vector_agrees (λ found. record parts { types = joined parts.types found }) function_type IsFunctionType function_type_agrees) (imports_agree parts id)

contents_agree : (parts : Parts) (id : ℕ) → AgreesWhole (section_parts parts id) (IsContents parts id)
contents_agree parts id = let a = types_agree parts id in record { found = a.found; only = a.only }

-- ---- sections

abbrev payload_parts : Parts → ℕ → Span → Span → Read Parts
payload_parts parts id payload s = section_parts parts id payload >>= λ more. Ok (more, s)

abbrev IsPayload : Parts → ℕ → List ℕ → Spelling Parts
IsPayload parts id payload = λ bytes more. (bytes ≡ []) × IsContents parts id payload more

payload_agrees : (parts : Parts) (id : ℕ) (payload : Span) → Agrees (payload_parts parts id payload) (IsPayload parts id payload.bytes)
payload_agrees parts id payload =
    record {
      found = λ at bytes x rest e.
          let b = bind_ok (section_parts parts id payload) (λ more. Ok (more, span at bytes)) (x, rest) e in
          let p = ok_is (b.0, span at bytes) (x, rest) b.2 in
          let same : bytes ≡ rest.bytes = ap (λ q. q.1.bytes) p in
          let h = (contents_agree parts id).found payload.at payload.bytes b.0 b.1 in
          ([], same, ap (λ q. q.1) (sym p) ∙ span_is at (at + 0) bytes rest.bytes (omega arith) same, (refl, subst (IsContents parts id payload.bytes) (ap (λ q. q.0) p) h));
      only = λ at front back x h.
          let len : length front ≡ 0 = ap length h.0 in (
            x,
            refl,
            ap (λ z. z >>= λ more. Ok (more, span at (front ++ back))) ((contents_agree parts id).only payload.at payload.bytes x h.1)
                ∙ ap (reads x) (span_is at (at + length front) (front ++ back) back (omega arith) (ap (λ (f : List ℕ). f ++ back) h.0)),
          );
    }

section_agrees : (parts : Parts) → Agrees (section parts) (IsSection parts)
section_agrees parts =
    then_agrees byte (λ id s. sized s >>= λ payload. payload_parts parts id payload.0 payload.1) IsByte (λ id. grammar.◌>>=◌ IsSized (λ payload. IsPayload parts id payload)) byte_agrees
    (λ id. then_by (λ (x : Span). x.bytes) itself sized (λ n payload s. payload_parts parts id payload s) IsSized (IsPayload parts id) sized_agrees (λ n payload. payload_agrees parts id payload))

-- a section has a byte
section_count : (parts more : Parts) (bytes : List ℕ) → IsSection parts bytes more → 0 < length bytes
section_count parts more bytes h = omega (arith, ap length h.3, length-append h.0 h.1, ap length h.4)

sections_count : (n : ℕ) (parts final : Parts) (bytes : List ℕ) → AreSections n parts bytes final → n ≤ length bytes
unfolding AreSections
sections_count zero parts final bytes h = omega arith
sections_count (suc n) parts final bytes h =
    omega (arith, ap length h.3, length-append h.0 h.1, section_count parts h.2 h.0 h.4, sections_count n h.2 final h.1 h.5)

sections_found : (m at : ℕ) (bytes : List ℕ) (parts final : Parts) → length bytes ≤ m → sections m parts (span at bytes) ≡ Ok final → (n : ℕ) × AreSections n parts bytes final
unfolding sections AreSections
sections_found zero at bytes parts final le e = (0, (nil_from_length bytes (omega arith), sym (ok_is parts final e)))
sections_found (suc m) at [] parts final le e = (0, (refl, sym (ok_is parts final e)))
sections_found (suc m) at (b ∷ bytes) parts final le e =
    let on : (section parts (span at (b ∷ bytes)) >>= λ more. sections m more.0 more.1) ≡ Ok final =
    sym (ap (λ t. cond t (Ok parts) (section parts (span at (b ∷ bytes)) >>= λ more. sections m more.0 more.1)) (eqb-suc-zero (length bytes))) ∙ e in
    let p = bind_ok (section parts (span at (b ∷ bytes))) (λ more. sections m more.0 more.1) final on in
    let f = (section_agrees parts).found at (b ∷ bytes) p.0.0 p.0.1 p.1 in
    let less : length p.0.1.bytes ≤ m = omega (arith, ap length f.1, length-append f.0 p.0.1.bytes, section_count parts p.0.0 f.0 f.3) in
    let g = sections_found m (at + length f.0) p.0.1.bytes p.0.0 final less (ap (sections m p.0.0) (sym f.2) ∙ p.2) in
    (suc g.0, (f.0, p.0.1.bytes, p.0.0, f.1, f.3, g.1))

nothing_left : (m at : ℕ) (parts : Parts) → sections m parts (span at []) ≡ Ok parts
unfolding sections
nothing_left zero at parts = refl
nothing_left (suc m) at parts = refl

some_left : (parts : Parts) (other : Result Parts WasmRefusal) (bytes : List ℕ) → 0 < length bytes → cond (eqb (length bytes) 0) (Ok parts) other ≡ other
some_left parts other [] lt = absurd (omega arith)
some_left parts other (b ∷ bytes) lt = ap (λ t. cond t (Ok parts) other) (eqb-suc-zero (length bytes))

sections_only : (n m at : ℕ) (bytes : List ℕ) (parts final : Parts) → n ≤ m → AreSections n parts bytes final → sections m parts (span at bytes) ≡ Ok final
unfolding sections AreSections
sections_only zero m at bytes parts final le h = ap (λ (l : List ℕ). sections m parts (span at l)) h.0 ∙ nothing_left m at parts ∙ ap done (sym h.1)
sections_only (suc n) zero at bytes parts final le h = absurd (omega arith)
sections_only (suc n) (suc m) at bytes parts final le h =
    let p = (section_agrees parts).only at h.0 h.1 h.2 h.4 in
    let same : p.0 ≡ h.2 = p.1 in
    let long : 0 < length bytes = omega (arith, ap length h.3, length-append h.0 h.1, section_count parts h.2 h.0 h.4) in
    some_left parts (section parts (span at bytes) >>= λ more. sections m more.0 more.1) bytes long
    ∙ ap (λ (l : List ℕ). section parts (span at l) >>= λ more. sections m more.0 more.1) h.3
    ∙ ap (λ z. z >>= λ more. sections m more.0 more.1) p.2
    ∙ ap (λ q. sections m q (span (at + length h.0) h.1)) same
    ∙ sections_only n m (at + length h.0) h.1 h.2 final (omega arith) h.5

-- ---- modules

begins : (bytes word : List ℕ) → starts_with nat_eq bytes word ≡ true → bytes ≡ word ++ drop (length word) bytes
begins bytes word h = sym (take-append-drop (length word) bytes) ∙ ap (λ (l : List ℕ). l ++ drop (length word) bytes) (sym ((bytes_eq-Decides word (take (length word) bytes)).0 h))

passed : (b : Bool) → not b ≡ false → b ≡ true
passed true h = refl
passed false h = absurd cc

eight : (bytes : List ℕ) → drop 8 bytes ≡ drop 4 (drop 4 bytes)
eight [] = refl
eight (a ∷ []) = refl
eight (a ∷ b ∷ []) = refl
eight (a ∷ b ∷ c ∷ []) = refl
eight (a ∷ b ∷ c ∷ d ∷ bytes) = refl

header_found : (bytes : List ℕ) (body : Span) → behind_header bytes ≡ Ok body → (rest : List ℕ) × (bytes ≡ magic ++ (version ++ rest)) × (body ≡ span 8 rest)
header_found bytes body e =
    let a = guard_ok (not (starts_with nat_eq bytes magic)) (NotWasm 0) (cond (nat_lt (length bytes) 8) (Err (UnexpectedEnd (length bytes))) (cond (not (starts_with nat_eq (drop 4 bytes) version)) (Err (UnsupportedVersion 4)) (Ok (span 8 (drop 8 bytes))))) body e in
    let b = guard_ok (nat_lt (length bytes) 8) (UnexpectedEnd (length bytes)) (cond (not (starts_with nat_eq (drop 4 bytes) version)) (Err (UnsupportedVersion 4)) (Ok (span 8 (drop 8 bytes)))) body a.1 in
    let c = guard_ok (not (starts_with nat_eq (drop 4 bytes) version)) (UnsupportedVersion 4) (Ok (span 8 (drop 8 bytes))) body b.1 in
    let first = begins bytes magic (passed (starts_with nat_eq bytes magic) a.0) in
    let second = begins (drop 4 bytes) version (passed (starts_with nat_eq (drop 4 bytes) version) c.0) in
    let far : drop 8 bytes ≡ drop 4 (drop 4 bytes) = eight bytes in
    (drop 4 (drop 4 bytes), first ∙ ap (λ (l : List ℕ). magic ++ l) second, sym (ok_is (span 8 (drop 8 bytes)) body c.1) ∙ ap (span 8) far)

header_only : (rest : List ℕ) → behind_header (magic ++ (version ++ rest)) ≡ Ok (span 8 rest)
header_only rest =
    ap (λ t. cond t (Err (UnexpectedEnd (length (magic ++ (version ++ rest))))) (Ok (span 8 rest))) (le-ltb (length (magic ++ (version ++ rest))) 8 (omega arith))

pub module_found : (bytes : List ℕ) (parts : Parts) → module_parts bytes ≡ Ok parts → IsModule bytes parts
module_found bytes parts e =
    let b = bind_ok (behind_header bytes) (λ body. sections (length body.bytes) no_parts body) parts e in
    let h = header_found bytes b.0 b.1 in
    let all : sections (length h.0) no_parts (span 8 h.0) ≡ Ok parts = sym (ap (λ (s : Span). sections (length s.bytes) no_parts s) h.2) ∙ b.2 in
    let f = sections_found (length h.0) 8 h.0 no_parts parts (omega arith) all in
    (f.0, h.0, h.1, f.1)

pub module_only : (bytes : List ℕ) (parts : Parts) → IsModule bytes parts → module_parts bytes ≡ Ok parts
module_only bytes parts h =
    ap module_parts h.2 ∙ ap (λ z. z >>= λ body. sections (length body.bytes) no_parts body) (header_only h.1)
    ∙ sections_only h.0 (length h.1) 8 h.1 no_parts parts (sections_count h.0 no_parts parts h.1 h.3) h.3

-- ---- declarations

pub declared_found : {A : Type 0} (bytes : List ℕ) (r : Result (String A) (Refusal WasmRefusal)) → Answers (text_view r) (module_declarations bytes) → IfOk r (λ text. IsDeclared bytes (string_bytes text))
declared_found bytes (Ok text) e =
    let b = bind_ok (module_parts bytes) (λ parts. Ok (declarations parts)) (string_bytes text) e in
    (b.0, module_found bytes b.0 b.1, sym (ok_is (declarations b.0) (string_bytes text) b.2))
declared_found bytes (Err e) h = tt

pub declared_only : (bytes text : List ℕ) → IsDeclared bytes text → module_declarations bytes ≡ Ok text
declared_only bytes text h = ap (λ z. z >>= λ parts. Ok (declarations parts)) (module_only bytes h.0 h.1) ∙ ap done (sym h.2)
