-- What bytes that are read stand for.
use Rattle.std.proofs.Common.{◌≡◌, ℕ, List, Bool, true, false, Option, Some, None, IsUtf8, if◌then◌else◌, option_and_then, refl, ap, ◌∙◌}
use Rattle.std.proofs.lemmas.Str.{IsUtf8-from_is_utf8, is_utf8-from_IsUtf8}
use Rattle.std.specs.Str.{is_utf8}
use Rattle.serde_json.specs.Data.{Data}
use Rattle.serde_json.specs.Read.{read}
use Rattle.json_forms.specs.Whole.{is_whole}
use Rattle.world_file.specs.WorldFile.{input, whole_input, world_of}
use Rattle.world_file.specs.declared.input.Input.{Input}

-- text that reads as some data is the world that the data is
pub world_of-read : (bytes : List ℕ) (d : Data) → IsUtf8 bytes → read bytes ≡ Some d → world_of bytes ≡ whole_input d
unfolding world_of
world_of-read bytes d valid reads = rw (is_utf8-from_IsUtf8 bytes valid, reads)

-- of whole numbers alone
pub world_of-whole : (bytes : List ℕ) (d : Data) → IsUtf8 bytes → read bytes ≡ Some d → is_whole d ≡ true → world_of bytes ≡ input d
world_of-whole bytes d valid reads whole = world_of-read bytes d valid reads ∙ rw whole

none_unless : (b : Bool) (o : Option Input) → (b ≡ true → o ≡ None) → (if b then o else None) ≡ None
none_unless true o h = h refl
none_unless false o h = refl

-- bytes that are no JSON text are no world
pub world_of-none : (bytes : List ℕ) → (IsUtf8 bytes → read bytes ≡ None) → world_of bytes ≡ None
unfolding world_of
world_of-none bytes h = none_unless (is_utf8 bytes) _ (λ e. ap (option_and_then whole_input) (h (IsUtf8-from_is_utf8 bytes e)))
