-- The version of a package that a URL names.
use Rattle.std.specs.Borrow.{Bor}
use Rattle.std.specs.Prelude.{◌≡◌, ℕ, ◌<◌, List, ◌∷◌, ◌++◌, length, codes, Option, None, option_and_then, option_map}
use Rattle.std.specs.List.{after_first, before_first, position_or_len, slice_split}
use Rattle.semver_npm.specs.References.{is_slash, without_slash}
use Rattle.semver_npm.specs.Versions.{version_of}
use Rattle.semver_npm.specs.declared.package.PackageNv.{PackageNv}
use Rattle.url.specs.Parts.{Parts, serialize}
use Rattle.registry_urls.specs.Prefix.{after_prefix}

-- the text before the first slash of a text, and the one after it
abbrev pub IsCut : List ℕ → Bor (List ℕ) × Bor (List ℕ) → Type 0
IsCut text cut =
    (position_or_len is_slash text < length text) × (cut.0.now ≡ before_first is_slash text) × (cut.1.now ≡ after_first is_slash text)

-- a version of the package `scope/name`
abbrev pub named : List ℕ → List ℕ → List ℕ → Option PackageNv
named scope name version = option_map (λ v. record { name = scope ++ codes "/" ++ name; version = v }) (version_of version)

-- scope, name and version, whatever follows them
abbrev pub nv_of_parts : List (List ℕ) → Option PackageNv
nv_of_parts (scope ∷ name ∷ version ∷ others) = named scope name version
nv_of_parts _ = None

-- the version of a package that the path of a URL in a registry begins with
abbrev pub nv_of_path : List ℕ → Option PackageNv
nv_of_path path = nv_of_parts (slice_split is_slash path)

-- the version of a package that a URL names: its text is the registry's, at most one `/`, and the path
abbrev pub nv_of_url : Parts → Parts → Option PackageNv
nv_of_url registry url = option_and_then (λ rest. nv_of_path (without_slash rest)) (after_prefix (serialize registry) (serialize url))
