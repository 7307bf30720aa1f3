-- What a requirement is to a caller, in the terms of the grammar: a text that it has, and the versions that match.
use Rattle.std.specs.Prelude.{◌≡◌, Bool, false, ℕ, List, Option, Some, None, Result, Ok, Err, ⊤}
use Rattle.spec_base.specs.declared.refusal.Refusal.{Refusal}
use Rattle.spec_base.specs.declared.refusal.Refusal.TheVariants.{Memory, Is}
use Rattle.semver_npm.specs.Grammar.{IsRangeSet, IsRequirement, IsTag}
use Rattle.semver_npm.specs.Meaning.{in_ranges}
use Rattle.semver_npm.specs.Reader.{is_any_ranges}
use Rattle.semver_npm.specs.Versions.{Ver}
use Rattle.semver_npm.specs.declared.requirement.VersionReqFault.{VersionReqFault}
use Rattle.semver_npm.specs.declared.simple.Simple.{Simple}

-- the requirement of a text is the text, and is refused exactly where the grammar has none, unless there was no memory
abbrev pub IsRead : Result (List ℕ) (Refusal VersionReqFault) → List ℕ → Type 0
IsRead (Ok req) text = (req ≡ text) × IsRequirement text
IsRead (Err Memory) text = ⊤
IsRead (Err (Is e)) text = (e.text ≡ text) × (IsRequirement text → ⊥)

-- a version matches a range set exactly where it lies in one of its ranges, and no tag
abbrev pub IsMatch : Bool → List ℕ → Ver → Type 0
IsMatch answer text v = ((rs : List (List Simple)) → IsRangeSet rs text → answer ≡ in_ranges rs v) × (IsTag text → answer ≡ false)

-- a tag is its text, and a range set has none
abbrev pub IsTagOf : Option (List ℕ) → List ℕ → Type 0
IsTagOf answer text = ((rs : List (List Simple)) → IsRangeSet rs text → answer ≡ None) × (IsTag text → answer ≡ Some text)

-- a wildcard is a range set of one simple without operator whose first part is an x
abbrev pub IsWildcard : Bool → List ℕ → Type 0
IsWildcard answer text = ((rs : List (List Simple)) → IsRangeSet rs text → answer ≡ is_any_ranges rs) × (IsTag text → answer ≡ false)
