-- Versions as their parts, and their order.
use Rattle.std.specs.Prelude.{◌≡◌, ℕ, List, Option, Result, Ok, Err, ⊤}
use Rattle.std.specs.Ordering.{nat_cmp, on, then_cmp}
use Rattle.std.specs.Result.{result_ok}
use Rattle.std.specs.declared.cmp.Ordering.{Ordering}
use Rattle.semver.specs.declared.Version.{Version}
use Rattle.semver.specs.Grammar.{IsValid}
use Rattle.semver.specs.Identifiers.{parts_of, parts_text}
use Rattle.semver.specs.Order.{build_cmp, pre_cmp}
use Rattle.semver.specs.Parse.{version_parts}
use Rattle.spec_base.specs.declared.refusal.Refusal.{Refusal}
use Rattle.spec_base.specs.declared.refusal.Refusal.TheVariants.{Memory, Is}
use Rattle.semver_npm.specs.declared.version.VersionFault.{VersionFault}

-- a version: major, minor and patch number, pre-release and build text
abbrev pub Ver : Type 0
Ver = ℕ × ℕ × ℕ × List ℕ × List ℕ

-- SemVer precedence: by the three numbers, then by pre-release
abbrev pub precedence : Ver → Ver → Ordering
precedence = then_cmp (on (λ v. v.0) nat_cmp) (then_cmp (on (λ v. v.1) nat_cmp) (then_cmp (on (λ v. v.2) nat_cmp) (on (λ v. v.3) pre_cmp)))

-- the order of versions: precedence, then build text
abbrev pub ver_cmp : Ver → Ver → Ordering
ver_cmp = then_cmp precedence (on (λ v. v.4) build_cmp)

-- a text is the SemVer 2.0 text of this version, whose numbers have at most 64 bits
abbrev pub IsVersion : List ℕ → Ver → Type 0
IsVersion text v = IsValid v × (text ≡ parts_text v)

-- the version that a text is, by SemVer 2.0
abbrev pub version_of : List ℕ → Option Ver
version_of text = result_ok (version_parts text)

-- the version of a text, refused exactly where it is none, unless there was no memory
abbrev pub AnswersVersion : Result Version (Refusal VersionFault) → List ℕ → Type 0
AnswersVersion (Ok v) text = IsVersion text (parts_of v)
AnswersVersion (Err Memory) text = ⊤
AnswersVersion (Err (Is e)) text = (v : Ver) → IsVersion text v → ⊥
