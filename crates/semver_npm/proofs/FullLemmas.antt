-- A word that is a whole version, and one that is none.
use Rattle.std.proofs.Common.{◌≡◌, List, ℕ, Ok, Err, None, Some, ap, sym, ◌∙◌, refl}
use Rattle.std.specs.Prelude.{Result}
use Rattle.std.specs.Str.{IsUtf8}
use Rattle.semver.specs.Parse.{version_parts}
use Rattle.semver.specs.declared.error.Error.{Error}
use Rattle.semver_npm.specs.Reader.{full_from, full_of}
use Rattle.semver_npm.specs.Versions.{IsVersion, Ver}
use Rattle.semver_npm.specs.declared.simple.Partial.TheVariants.{Full}
use Rattle.semver_npm.proofs.VersionLemmas.{is_version, version_read}
use Rattle.semver_npm.proofs.WordBytes.{version-utf8}

-- a version's word is read
pub full_is : (word text : List ℕ) (v p : Ver) → text ≡ word → IsVersion text v → p ≡ v → Some (Full p) ≡ full_of word
full_is word text v p same is kept = ap (λ x. Some (Full x)) kept ∙ sym (ap full_from (ap version_parts (sym same) ∙ version_read text v is))

none_from : (r : Result Ver Error) → ((v : Ver) → r ≡ Ok v → ⊥) → None ≡ full_from r
none_from (Ok v) h = absurd (h v refl)
none_from (Err e) h = refl

-- another word is none
pub full_none : (word : List ℕ) → ((v : Ver) → IsVersion word v → ⊥) → None ≡ full_of word
full_none word h = none_from (version_parts word) (λ v e. h v (is_version word v e))

pub full_none_of : (word text : List ℕ) → text ≡ word → ((v : Ver) → IsVersion text v → ⊥) → None ≡ full_of word
full_none_of word text same h = full_none text h ∙ ap full_of same

-- what isn't UTF-8 is none
pub full_not_utf8 : (word : List ℕ) → (IsUtf8 word → ⊥) → None ≡ full_of word
full_not_utf8 word h = full_none word (λ v is. h (version-utf8 word v is))
