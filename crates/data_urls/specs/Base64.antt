-- Standard base64 (RFC 4648, section 4).
use Rattle.std.specs.Prelude.{◌≡◌, ℕ, ◌≤◌, Bool, List, ◌++◌, length, replicate, codes, Option}
use Rattle.std.specs.Result.{result_ok}
use Rattle.base64.specs.Engines.{standard_pad_indifferent}
use Rattle.base64.specs.GeneralPurpose.{decode_of}
use Rattle.base64.specs.Rfc4648.{encode, encode_symbols, padding_len}

-- the bytes of a text, whose padding is optional and whose bits past the last byte are zero
abbrev pub base64_of : List ℕ → Option (List ℕ)
base64_of text = result_ok (decode_of standard_pad_indifferent text)

-- the 64 symbols
abbrev pub symbols : List ℕ
symbols = codes "ABCDEFGHIJKLMNOPQRSTUVWXYZabcdefghijklmnopqrstuvwxyz0123456789+/"

-- `=`
abbrev pub padding_sign : ℕ
padding_sign = 61

-- the encoding of some bytes, with its padding or without
abbrev pub encoding : Bool → List ℕ → List ℕ
encoding is_padded bytes = encode symbols padding_sign is_padded bytes

-- a text is the symbols of some bytes, and then no more padding than they need
abbrev pub Spells : List ℕ → List ℕ → Type 0
Spells text bytes =
    (k : ℕ) × (text ≡ encode_symbols symbols bytes ++ replicate k padding_sign) × (k ≤ padding_len (length bytes))
