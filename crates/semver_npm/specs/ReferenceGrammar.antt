-- The grammar of references: the scheme, an optional `/`, a name, an optional `@` with a requirement, and an optional `/` with a
-- path. Each relation is between a value and its texts.
use Rattle.std.specs.Prelude.{◌≡◌, ◌⊎◌, ◌<◌, Bool, true, false, ℕ, List, [], ◌∷◌, ◌++◌, length, codes, Option, Some, None, Result, Ok, Err, ⊤}
use Rattle.std.specs.List.{list_any}
use Rattle.spec_base.specs.declared.refusal.Refusal.{Refusal}
use Rattle.spec_base.specs.declared.refusal.Refusal.TheVariants.{Memory, Is}
use Rattle.semver_npm.specs.Grammar.{IsRequirement}
use Rattle.semver_npm.specs.References.{ends_name, is_slash}
use Rattle.semver_npm.specs.declared.npm_error.PackageReqReferenceParseError.{PackageReqReferenceParseError}
use Rattle.semver_npm.specs.declared.npm_error.PackageReqReferenceParseError.TheVariants.{NotPrefixed, NoName, BadVersion}
use Rattle.semver_npm.specs.declared.reference.JsrPackageReqReference.{JsrPackageReqReference}
use Rattle.semver_npm.specs.declared.reference.NpmPackageReqReference.{NpmPackageReqReference}
use Rattle.semver_npm.specs.declared.reference.PackageReqReference.{PackageReqReference}

-- a name without scope: not empty, and without `@` and `/`
abbrev pub IsBareName : List ℕ → Type 0
IsBareName name = (0 < length name) × (list_any ends_name name ≡ false)

-- a scope: an `@`, and then something without `/`
abbrev pub IsScope : List ℕ → Type 0
IsScope scope = (s : List ℕ) × (scope ≡ 64 ∷ s) × (0 < length s) × (list_any is_slash s ≡ false)

abbrev pub IsScopedName : List ℕ → Type 0
IsScopedName name = (scope bare : List ℕ) × IsScope scope × IsBareName bare × (name ≡ scope ++ 47 ∷ bare)

-- `@scope/name`, or where names may be plain `name`
abbrev pub IsName : Bool → List ℕ → Type 0
IsName may_be_plain name = IsScopedName name ⊎ ((may_be_plain ≡ true) × IsBareName name)

-- whether a test holds of the first byte, or there is none
abbrev pub stops : (ℕ → Bool) → List ℕ → Bool
stops test [] = true
stops test (b ∷ rest) = test b

-- a text that has a name behind its scheme and an optional `/`; what stands behind the name is empty or begins with `@` or `/`
abbrev pub IsNamed : List ℕ → Bool → List ℕ → List ℕ → List ℕ → Type 0
IsNamed scheme may_be_plain name rest text =
    IsName may_be_plain name × (stops ends_name rest ≡ true)
    × ((text ≡ scheme ++ (name ++ rest)) ⊎ (text ≡ scheme ++ 47 ∷ (name ++ rest)))

-- nothing, or a `/` and a path; an empty path is none
abbrev pub IsPath : Option (List ℕ) → List ℕ → Type 0
IsPath None text = (text ≡ []) ⊎ (text ≡ codes "/")
IsPath (Some path) text = (0 < length path) × (text ≡ 47 ∷ path)

-- behind the name: an `@` and a requirement without `/`, or nothing, which stands for `*`; and then a path
abbrev pub IsTail : List ℕ → Option (List ℕ) → List ℕ → Type 0
IsTail requirement path text = ((requirement ≡ codes "*") × IsPath path text)
    ⊎ ((rest : List ℕ) × (list_any is_slash requirement ≡ false) × IsPath path rest × (text ≡ 64 ∷ (requirement ++ rest)))

-- a reference
unfoldable pub IsReference : List ℕ → Bool → PackageReqReference → List ℕ → Type 0
IsReference scheme may_be_plain r text = (rest : List ℕ) × IsNamed scheme may_be_plain r.req.name rest text
    × IsTail r.req.version_req r.sub_path rest × IsRequirement r.req.version_req

-- why a text is no reference: it has another scheme, it has no name, or behind the name an `@` has no requirement
unfoldable pub IsRefused : List ℕ → Bool → PackageReqReferenceParseError → List ℕ → Type 0
IsRefused scheme may_be_plain (NotPrefixed t) text = (t ≡ text) × ((body : List ℕ) → text ≡ scheme ++ body → ⊥)
IsRefused scheme may_be_plain (NoName t) text = (t ≡ text) × (body : List ℕ) × (text ≡ scheme ++ body)
    × ((name rest : List ℕ) → IsNamed scheme may_be_plain name rest text → ⊥)
IsRefused scheme may_be_plain (BadVersion t) text = (t ≡ text) × (name rest : List ℕ) × IsNamed scheme may_be_plain name rest text
    × ((r : PackageReqReference) → IsReference scheme may_be_plain r text → ⊥)

-- the reference of a text, or why it is none
abbrev pub IsReferred : List ℕ → Bool → Result PackageReqReference PackageReqReferenceParseError → List ℕ → Type 0
IsReferred scheme may_be_plain (Ok r) text = IsReference scheme may_be_plain r text
IsReferred scheme may_be_plain (Err e) text = IsRefused scheme may_be_plain e text

-- what a `jsr:` specifier names, whose names have a scope, and what an `npm:` specifier does
abbrev pub IsJsr : Result JsrPackageReqReference (Refusal PackageReqReferenceParseError) → List ℕ → Type 0
IsJsr (Ok r) text = IsReference (codes "jsr:") false r.inner text
IsJsr (Err Memory) text = ⊤
IsJsr (Err (Is e)) text = IsRefused (codes "jsr:") false e text

abbrev pub IsNpm : Result NpmPackageReqReference (Refusal PackageReqReferenceParseError) → List ℕ → Type 0
IsNpm (Ok r) text = IsReference (codes "npm:") true r.inner text
IsNpm (Err Memory) text = ⊤
IsNpm (Err (Is e)) text = IsRefused (codes "npm:") true e text
