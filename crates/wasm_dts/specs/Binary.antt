-- The values of the WebAssembly binary format: each is read from the front of what is left.
use Rattle.std.specs.Prelude.{ℕ, ◌+◌, ◌*◌, ◌%◌, ◌^◌, ◌==◌, nat_lt, nat_le, List, [], ◌∷◌, length, slice_index, Result, Ok, Err, if◌then◌else◌}
use Rattle.std.specs.List.{prefix_len}
use Rattle.std.specs.Str.{is_utf8}
use Rattle.wasm_dts.specs.declared.refusal.WasmRefusal.{WasmRefusal}
use Rattle.wasm_dts.specs.declared.refusal.WasmRefusal.TheVariants.{UnexpectedEnd, IntegerOverflow, InvalidUtf8}
use Rattle.wasm_dts.specs.Span.{Span, end_of, front, behind}

-- a value with what is left behind it, or the first rule that the bytes break
abbrev pub Read : Type 0 → Type 0
Read A = Result (A × Span) WasmRefusal

-- one part after the other: the first refusal is that of the whole
infixl 10 ◌>>=◌
abbrev pub ◌>>=◌ : {A B : Type 0} → Result A WasmRefusal → (A → Result B WasmRefusal) → Result B WasmRefusal
(Ok x) >>= f = f x
(Err e) >>= f = Err e

-- the next n bytes
abbrev pub taken : ℕ → Span → Read Span
taken n s = if nat_lt (length s.bytes) n then Err (UnexpectedEnd (end_of s)) else Ok (front n s, behind n s)

abbrev pub byte : Span → Read ℕ
byte s = if length s.bytes == 0 then Err (UnexpectedEnd (end_of s)) else Ok (slice_index s.bytes 0, behind 1 s)

-- the value of a number's bytes in LEB128: seven bits in each, the lowest first
unfoldable pub leb_value : List ℕ → ℕ
leb_value [] = 0
leb_value (b ∷ bs) = b % 128 + 128 * leb_value bs

-- how many bytes in front say that another one follows
abbrev pub continued : List ℕ → ℕ
continued bytes = prefix_len (nat_le 128) bytes

-- a LEB128 of any length, up to its last byte
abbrev pub leb : Span → Read Span
leb s =
    let n = continued s.bytes in
    if n == length s.bytes then Err (UnexpectedEnd (end_of s)) else Ok (front (n + 1) s, behind (n + 1) s)

-- the number that its bytes are, where it is below the limit
abbrev pub fitting : ℕ → Span × Span → Read ℕ
fitting limit found =
    if nat_lt (leb_value found.0.bytes) limit then Ok (leb_value found.0.bytes, found.1) else Err (IntegerOverflow found.0.at)

-- a number of at most `most` bytes and below the limit
abbrev pub number : ℕ → ℕ → Span → Read ℕ
number most limit s =
    if nat_le most (continued s.bytes) then Err (IntegerOverflow s.at) else leb s >>= fitting limit

abbrev pub number32 : Span → Read ℕ
number32 s = number 5 (2 ^ 32) s

abbrev pub number64 : Span → Read ℕ
number64 s = number 10 (2 ^ 64) s

-- a number n, and n bytes
abbrev pub sized : Span → Read Span
sized s = do
  n ← number32 s
  taken n.0 n.1

-- sized bytes that are UTF-8
abbrev pub name : Span → Read (List ℕ)
name s = do
  text ← sized s
  if is_utf8 text.0.bytes then Ok (text.0.bytes, text.1) else Err (InvalidUtf8 text.0.at)
