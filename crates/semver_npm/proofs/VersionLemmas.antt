-- `Version::parse` reads exactly the texts of versions.
use Rattle.std.proofs.Common.{◌≡◌, ◌⊎◌, ◌∙◌, inl, inr, ap, sym, ℕ, List, Ok, Err}
use Rattle.semver.specs.Parse.{memory_error, version_parts}
use Rattle.semver.specs.declared.error.Error.{Error}
use Rattle.semver.proofs.Grammar.{version_parts-complete, version_parts-sound}
use Rattle.spec_base.specs.declared.refusal.Refusal.{Refusal}
use Rattle.spec_base.specs.declared.refusal.Refusal.TheVariants.{Memory, Is}
use Rattle.semver_npm.specs.declared.version.VersionFault.{VersionFault}
use Rattle.semver_npm.specs.Versions.{AnswersVersion, IsVersion, Ver}

-- what was read is the version of the text
pub is_version : (text : List ℕ) (v : Ver) → version_parts text ≡ Ok v → IsVersion text v
is_version text v h = let s = version_parts-sound text v h in (s.1, sym s.0)

-- the version of a text is read
pub version_read : (text : List ℕ) (v : Ver) → IsVersion text v → version_parts text ≡ Ok v
version_read text v is = ap version_parts is.1 ∙ version_parts-complete v is.0

-- an error of the reader, as a refusal
pub refused : (text : List ℕ) (e : Error) (r : Refusal VersionFault) → (e ≡ memory_error) ⊎ (version_parts text ≡ Err e) → (e ≡ memory_error → r ≡ Memory) → AnswersVersion (Err r) text
refused text e Memory why m = tt
refused text e (Is x) (inl h) m = cc (m h)
refused text e (Is x) (inr h) m = λ v is. cc (sym (version_read text v is) ∙ h)
