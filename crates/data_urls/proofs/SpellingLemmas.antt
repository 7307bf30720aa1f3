-- Which texts are read as base64.
use Rattle.std.proofs.Common.{◌≡◌, ℕ, Bool, false, List, None, Some, refl, subst}
use Rattle.std.specs.Prelude.{Option, Result, Ok, Err, IfOk}
use Rattle.std.specs.Result.{result_ok}
use Rattle.std.specs.declared.option.Option.TheVariants as option
use Rattle.base64.specs.Decode.{decode_outcome, decoded_bytes}
use Rattle.base64.specs.Engines.{standard_pad_indifferent}
use Rattle.base64.specs.GeneralPurpose.{IsBytes}
use Rattle.base64.specs.declared.decode.DecodeError.{DecodeError}
use Rattle.base64.specs.declared.engine.DecodePaddingMode.TheVariants.{Indifferent}
use Rattle.base64.proofs.Canonical.{decode_error_none}
use Rattle.base64.proofs.RoundTrip.{decode-encode}
use Rattle.base64.proofs.Tables.{are_tables_inverse}
use Rattle.spec_base.specs.Refusal.{Reads}
use Rattle.spec_base.specs.declared.refusal.Refusal.{Refusal}
use Rattle.data_urls.specs.Base64.{base64_of, encoding, padding_sign, Spells}

-- an encoding is read as its bytes
pub encoding_is_read : (bytes : List ℕ) (is_padded : Bool) → IsBytes bytes → base64_of (encoding is_padded bytes) ≡ Some bytes
encoding_is_read bytes is_padded small =
    let e = standard_pad_indifferent in
    let both = decode-encode e.encode_table e.decode_table bytes padding_sign false Indifferent is_padded e.tables small tt in
    rw (both.0, both.1) refl

outcome_some : (x : Option DecodeError) (d b : List ℕ) → result_ok (decode_outcome x d) ≡ Some b → (x ≡ None) × (d ≡ b)
outcome_some option.None d b h = (refl, cc h)
outcome_some (option.Some e) d b h = cc h

-- what is read spells its bytes
pub read_spells : (text bytes : List ℕ) → IsBytes text → base64_of text ≡ Some bytes → Spells text bytes
read_spells text bytes small read =
    let e = standard_pad_indifferent in
    let parts = outcome_some _ _ bytes read in
    let is = decode_error_none e.encode_table e.decode_table text padding_sign Indifferent (are_tables_inverse e.encode_table e.decode_table padding_sign e.tables) small parts.0 in
    let spelled : Spells text (decoded_bytes e.decode_table padding_sign text) = (is.0, is.1, is.2) in
    subst (Spells text) parts.1 spelled

-- the same of an answer
pub answer_spells : {E : Type 0} (text : List ℕ) (result : Result (List ℕ) (Refusal E)) → IsBytes text → Reads result (base64_of text) → IfOk result (λ bytes. Spells text bytes)
answer_spells text (Ok bytes) small reads = read_spells text bytes small reads
answer_spells text (Err _) small reads = tt
