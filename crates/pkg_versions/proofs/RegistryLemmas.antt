-- The JSON of bytes.
use Rattle.std.proofs.Common.{◌≡◌, List, ℕ, Bool, true, false, Option, Some, None, IsUtf8, if◌then◌else◌, refl}
use Rattle.std.proofs.lemmas.Str.{IsUtf8-from_is_utf8, is_utf8-from_IsUtf8}
use Rattle.std.specs.Str.{is_utf8}
use Rattle.serde_json.specs.Data.{Data}
use Rattle.serde_json.specs.Read.{read}
use Rattle.pkg_versions.specs.RegistryFiles.{json_of}

-- text that reads as some data is its JSON
pub json_read : (bytes : List ℕ) (d : Data) → IsUtf8 bytes → read bytes ≡ Some d → json_of bytes ≡ Some d
unfolding json_of
json_read bytes d valid reads = rw (is_utf8-from_IsUtf8 bytes valid, reads)

none_unless : (b : Bool) (o : Option Data) → (b ≡ true → o ≡ None) → (if b then o else None) ≡ None
none_unless true o h = h refl
none_unless false o h = refl

-- bytes that are no JSON text have no JSON
pub json_none : (bytes : List ℕ) → (IsUtf8 bytes → read bytes ≡ None) → json_of bytes ≡ None
unfolding json_of
json_none bytes h = none_unless (is_utf8 bytes) _ (λ e. h (IsUtf8-from_is_utf8 bytes e))
