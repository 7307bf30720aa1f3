-- The sums of packages' manifests in a world file, by the texts of their versions.
use Rattle.std.specs.Prelude.{ℕ, List, [], ◌∷◌, Bool, ◌==◌, nat_lt, length, codes, Option, Some}
use Rattle.std.specs.List.{after_last, before_last}
use Rattle.semver_npm.specs.declared.package.PackageNv.{PackageNv}
use Rattle.semver_npm.specs.Versions.{version_of}
use Rattle.json_forms.specs.Dictionary.{dictionary}
use Rattle.json_forms.specs.Form.{Form, text, given, ◌>>=◌}
use Rattle.json_forms.specs.Member.{with_default}

-- the byte `@`
abbrev pub is_at : ℕ → Bool
is_at byte = byte == 64

-- the version of a package that a text is: a name before its last `@`, and behind it a version by SemVer 2.0
abbrev pub package_nv : List ℕ → Option PackageNv
package_nv text = do
  named ← given (nat_lt 0 (length (before_last is_at text)))
  version ← version_of (after_last is_at text)
  Some (record { name = before_last is_at text; version = version })

-- the sums by the versions that their texts are
abbrev pub package_sums : List (List ℕ × List ℕ) → Option (List (PackageNv × List ℕ))
package_sums [] = Some []
package_sums (e ∷ es) = do
  nv ← package_nv e.0
  sums ← package_sums es
  Some ((nv, e.1) ∷ sums)

-- those of the member `packages`, in the order of their texts; none where it is absent
abbrev pub packages_of : Form (List (PackageNv × List ℕ))
packages_of d = do
  found ← with_default [] (dictionary text) (codes "packages") d
  package_sums found
