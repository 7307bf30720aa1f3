-- Whether bytes are UTF-8, as a test and as a fact.
use Rattle.std.proofs.Common.{◌≡◌, ℕ, List, true, false, ⊎_elim}
use Rattle.std.specs.Str.{is_utf8, IsUtf8}
use Rattle.std.proofs.lemmas.Bool.{cases_Bool}
use Rattle.std.proofs.lemmas.Str.{IsUtf8-from_is_utf8, is_utf8-from_IsUtf8}

-- bytes that are no text don't pass the test
pub no_text : (bytes : List ℕ) → ¬ (IsUtf8 bytes) → is_utf8 bytes ≡ false
no_text bytes is_none = ⊎_elim (λ yes. absurd (is_none (IsUtf8-from_is_utf8 bytes yes))) (λ no. no) (cases_Bool (is_utf8 bytes))

-- bytes that are a text pass it
pub some_text : (bytes : List ℕ) → IsUtf8 bytes → is_utf8 bytes ≡ true
some_text bytes h = is_utf8-from_IsUtf8 bytes h
