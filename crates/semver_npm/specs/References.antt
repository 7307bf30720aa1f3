-- References: the scheme, an optional `/`, the name, an optional `@` with a requirement up to the next `/`, and an
-- optional `/` with a sub path.
use Rattle.std.specs.Prelude.{ℕ, Bool, true, false, ◌||◌, ◌==◌, List, ◌++◌, length, drop, nat_eq, codes, Option, Some, None, Result, Ok, Err, if◌then◌else◌}
use Rattle.std.specs.List.{after_first, before_first, position_or_len, starts_with}
use Rattle.semver_npm.specs.Reader.{is_requirement}
use Rattle.semver_npm.specs.declared.npm_error.PackageReqReferenceParseError.{PackageReqReferenceParseError}
use Rattle.semver_npm.specs.declared.npm_error.PackageReqReferenceParseError.TheVariants.{NotPrefixed, NoName, BadVersion}
use Rattle.semver_npm.specs.declared.reference.JsrPackageReqReference.{JsrPackageReqReference}
use Rattle.semver_npm.specs.declared.reference.NpmPackageReqReference.{NpmPackageReqReference}
use Rattle.semver_npm.specs.declared.reference.PackageReqReference.{PackageReqReference}

abbrev pub is_slash : ℕ → Bool
is_slash b = b == 47

-- a name ends at an `@` or a `/`
abbrev pub ends_name : ℕ → Bool
ends_name b = b == 64 || b == 47

-- a text without one slash in front
abbrev pub without_slash : List ℕ → List ℕ
without_slash text = if starts_with nat_eq text (codes "/") then drop 1 text else text

-- an empty sub path counts as none
abbrev pub sub_path_of : List ℕ → Option (List ℕ)
sub_path_of path = if length path == 0 then None else Some path

-- the reference of a specifier, or why it is none
abbrev pub Referred : Type 0
Referred = Result PackageReqReference PackageReqReferenceParseError

abbrev pub by_requirement : List ℕ → List ℕ → List ℕ → List ℕ → Referred
by_requirement text name requirement path =
    if is_requirement requirement
    then Ok (record { req = record { name = name; version_req = requirement }; sub_path = sub_path_of path })
    else Err (BadVersion text)

-- after the name: an `@` with a requirement up to the next slash, or `*` where none stands
abbrev pub after_name : List ℕ → List ℕ → List ℕ → Referred
after_name text name rest =
    if starts_with nat_eq rest (codes "@")
    then by_requirement text name (before_first is_slash (drop 1 rest)) (after_first is_slash (drop 1 rest))
    else by_requirement text name (codes "*") (after_first is_slash rest)

-- what stands after the name at the front
abbrev pub after_end : List ℕ → List ℕ
after_end body = drop (position_or_len ends_name body) body

-- `name`, which isn't empty
abbrev pub by_plain_name : List ℕ → List ℕ → Referred
by_plain_name text body =
    if length (before_first ends_name body) == 0 then Err (NoName text)
    else after_name text (before_first ends_name body) (after_end body)

-- `@scope/name`, of which neither is empty
abbrev pub by_scoped_name : List ℕ → List ℕ → Referred
by_scoped_name text body =
    if length (before_first is_slash body) == 1 || length (before_first ends_name (after_first is_slash body)) == 0
    then Err (NoName text)
    else after_name text (before_first is_slash body ++ codes "/" ++ before_first ends_name (after_first is_slash body)) (after_end (after_first is_slash body))

abbrev pub by_body : List ℕ → Bool → List ℕ → Referred
by_body text may_be_plain body =
    if starts_with nat_eq body (codes "@") then by_scoped_name text body
    else if may_be_plain then by_plain_name text body else Err (NoName text)

-- the reference of a specifier's text under a scheme, whose names may be plain or need a scope
abbrev pub reference_of : List ℕ → Bool → List ℕ → Referred
reference_of scheme may_be_plain text =
    if starts_with nat_eq text scheme then by_body text may_be_plain (without_slash (drop (length scheme) text))
    else Err (NotPrefixed text)

abbrev pub as_jsr : Referred → Result JsrPackageReqReference PackageReqReferenceParseError
as_jsr (Ok r) = Ok (record { inner = r })
as_jsr (Err e) = Err e

abbrev pub as_npm : Referred → Result NpmPackageReqReference PackageReqReferenceParseError
as_npm (Ok r) = Ok (record { inner = r })
as_npm (Err e) = Err e

-- what a `jsr:` specifier names: a name always has a scope
abbrev pub jsr_reference : List ℕ → Result JsrPackageReqReference PackageReqReferenceParseError
jsr_reference text = as_jsr (reference_of (codes "jsr:") false text)

-- what an `npm:` specifier names
abbrev pub npm_reference : List ℕ → Result NpmPackageReqReference PackageReqReferenceParseError
npm_reference text = as_npm (reference_of (codes "npm:") true text)

-- `.` without a sub path, else `./` and the sub path
abbrev pub export_name : Option (List ℕ) → List ℕ
export_name None = codes "."
export_name (Some path) = codes "./" ++ path
