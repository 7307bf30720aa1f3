-- The text of bytes in a charset.
use Rattle.std.specs.Prelude.{ℕ, ◌+◌, ◌*◌, Bool, true, false, ◌||◌, ◌==◌, nat_eq, List, [], ◌∷◌, ◌++◌, drop, codes, bytes_eq, encode_utf8_all, Result, Ok, Err, Option, Some, None, option_map, unwrap_or, if◌then◌else◌}
use Rattle.std.specs.List.{starts_with}
use Rattle.std.specs.Str.{is_utf8}
use Rattle.std.specs.Char.Utf16.{utf16_lossy_chars, has_unpaired_surrogate}
use Rattle.url.specs.Parts.{Parts}
use Rattle.media_types.specs.ContentType.{charset_by, content_type_in}
use Rattle.media_types.specs.Media.{lower}
use Rattle.media_types.specs.declared.decoding.Charset.{Charset}
use Rattle.media_types.specs.declared.decoding.Charset.TheVariants.{Utf8, Utf16Le, Utf16Be}
use Rattle.media_types.specs.declared.decoding.DecodedKind.{DecodedKind}
use Rattle.media_types.specs.declared.decoding.DecodedKind.TheVariants.{Unchanged, Changed, OnlyUtf8Bom}
use Rattle.media_types.specs.declared.decoding.DecodeFault.{DecodeFault}
use Rattle.media_types.specs.declared.decoding.DecodeFault.TheVariants.{UnsupportedCharset, InvalidData}
use Rattle.media_types.specs.declared.decoding.ModuleTextSource.{ModuleTextSource}

-- the charset that a label in lower case names
abbrev pub charset_of : List ℕ → Option Charset
charset_of label =
    if bytes_eq label (codes "utf-8") || bytes_eq label (codes "utf8") then Some Utf8
    else (if bytes_eq label (codes "utf-16le") || bytes_eq label (codes "utf-16") then Some Utf16Le
    else (if bytes_eq label (codes "utf-16be") then Some Utf16Be
    else None))

-- the mark in front of a text in UTF-8
abbrev pub utf8_mark : List ℕ
utf8_mark = 0xEF ∷ 0xBB ∷ 0xBF ∷ []

abbrev pub has_utf8_mark : List ℕ → Bool
has_utf8_mark bytes = starts_with nat_eq bytes utf8_mark

-- the bytes as they are, where they are UTF-8
abbrev pub as_text : DecodedKind → List ℕ → Result ModuleTextSource DecodeFault
as_text kind bytes = if is_utf8 bytes then Ok (record { text = bytes; decoded_kind = kind }) else Err InvalidData

abbrev pub decoded_utf8 : List ℕ → Result ModuleTextSource DecodeFault
decoded_utf8 bytes =
    if has_utf8_mark bytes then as_text OnlyUtf8Bom (drop 3 bytes) else as_text Unchanged bytes

-- the unit that two bytes are
abbrev pub unit : Bool → ℕ → ℕ → ℕ
unit little a b = if little then a + 256 * b else 256 * a + b

-- the units of the bytes, and none where one byte is left over
unfoldable pub units : Bool → List ℕ → Option (List ℕ)
units little [] = Some []
units little (a ∷ []) = None
units little (a ∷ b ∷ rest) = option_map (λ us. unit little a b ∷ us) (units little rest)

-- without a mark in front
abbrev pub without_mark : List ℕ → List ℕ
without_mark [] = []
without_mark (u ∷ us) = if u == 0xFEFF then us else u ∷ us

abbrev pub text_of_units : List ℕ → Result ModuleTextSource DecodeFault
text_of_units us =
    if has_unpaired_surrogate us then Err InvalidData
    else Ok (record { text = encode_utf8_all (utf16_lossy_chars us); decoded_kind = Changed })

abbrev pub decoded_units : Option (List ℕ) → Result ModuleTextSource DecodeFault
decoded_units None = Err InvalidData
decoded_units (Some us) = text_of_units (without_mark us)

abbrev pub decoded_in : List ℕ → Option Charset → List ℕ → Result ModuleTextSource DecodeFault
decoded_in label None bytes = Err (UnsupportedCharset label)
decoded_in label (Some Utf8) bytes = decoded_utf8 bytes
decoded_in label (Some Utf16Le) bytes = decoded_units (units true bytes)
decoded_in label (Some Utf16Be) bytes = decoded_units (units false bytes)

-- what the bytes are in the charset that the label names
abbrev pub decoded : List ℕ → List ℕ → Result ModuleTextSource DecodeFault
decoded label bytes = decoded_in label (charset_of (lower label)) bytes

-- ---- which charset bytes are in

-- the label of a file's bytes by their mark
abbrev pub label_of_marks : List ℕ → List ℕ
label_of_marks bytes =
    if starts_with nat_eq bytes (0xFE ∷ 0xFF ∷ []) then codes "utf-16be"
    else (if starts_with nat_eq bytes (0xFF ∷ 0xFE ∷ []) then codes "utf-16le" else codes "utf-8")

abbrev pub detected : Parts → List ℕ → List ℕ
detected url bytes = if bytes_eq url.scheme (codes "file") then label_of_marks bytes else codes "utf-8"

-- the charset of a source: the one that its header tells, else the one that its bytes tell
abbrev pub source_charset : Parts → Option (List (List ℕ × List ℕ)) → List ℕ → List ℕ
source_charset url headers bytes = unwrap_or (charset_by (content_type_in headers)) (detected url bytes)

-- ---- and back

-- the bytes that a text was, by its kind
abbrev pub bytes_by : DecodedKind → List ℕ → Option (List ℕ)
bytes_by Changed text = None
bytes_by Unchanged text = Some text
bytes_by OnlyUtf8Bom text = Some (utf8_mark ++ text)

abbrev pub original_bytes : ModuleTextSource → Option (List ℕ)
original_bytes source = bytes_by source.decoded_kind source.text

-- the text of bytes that have no text
abbrev pub decode_fault_text : DecodeFault → List ℕ
decode_fault_text (UnsupportedCharset label) = codes "Unsupported charset: " ++ label
decode_fault_text InvalidData = codes "invalid data"
