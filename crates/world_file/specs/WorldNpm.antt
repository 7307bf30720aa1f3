-- What a world file says of npm: the results of requirements of packages, and that of the graph of all packages.
use Rattle.std.specs.Prelude.{◌≡◌, ℕ, Bool, true, ◌&&◌, not, nat_eq, nat_lt, List, [], ◌∷◌, length, codes, is_some, Option, Some, None, option_map, Result, Ok, Err, ⊤, if◌then◌else◌}
use Rattle.std.specs.List.{after_first, after_last, before_first, before_last, list_any, starts_with}
use Rattle.serde_json.specs.Find.{as_null}
use Rattle.spec_base.specs.declared.refusal.Fault.{Fault}
use Rattle.semver_npm.specs.Grammar.{IsRequirement}
use Rattle.semver_npm.specs.Packages.{req_text}
use Rattle.semver_npm.specs.Reader.{is_requirement}
use Rattle.semver_npm.specs.ReferenceGrammar.{IsName}
use Rattle.semver_npm.specs.References.{ends_name, is_slash}
use Rattle.semver_npm.specs.declared.npm_error.NpmLoadError.{NpmLoadError}
use Rattle.semver_npm.specs.declared.npm_error.NpmLoadError.TheVariants.{PackageReqResolution}
use Rattle.semver_npm.specs.declared.package.PackageReq.{PackageReq}
use Rattle.json_forms.specs.Dictionary.{dictionary}
use Rattle.json_forms.specs.Form.{Form, given, ◌>>=◌}
use Rattle.json_forms.specs.Member.{has_names, optional, with_default}
use Rattle.npm_resolver.specs.declared.types.NpmTable.{NpmTable}
use Rattle.world_file.specs.WorldInfos.{fault}
use Rattle.world_file.specs.WorldPackages.{is_at}
use Rattle.world_file.specs.declared.world_npm.NpmOutcome.{NpmOutcome}
use Rattle.world_file.specs.declared.world_npm.NpmOutcome.TheVariants.{Resolved, Failed}

-- ---- requirements of packages

-- a name without a scope: not empty, and without `@` and `/`
abbrev pub is_bare_name : List ℕ → Bool
is_bare_name name = nat_lt 0 (length name) && not (list_any ends_name name)

-- `@scope/name`: what stands before the first slash is more than the `@`, and behind it is a name
abbrev pub is_scoped_name : List ℕ → Bool
is_scoped_name name = nat_lt 1 (length (before_first is_slash name)) && is_bare_name (after_first is_slash name)

-- the name of a package of npm, which may have a scope
abbrev pub is_package_name : List ℕ → Bool
is_package_name name = if starts_with nat_eq name (codes "@") then is_scoped_name name else is_bare_name name

-- the requirement that a text is
abbrev pub version_req : List ℕ → Option (List ℕ)
version_req text = if is_requirement text then Some text else None

-- a package's name and the requirement on its version
abbrev pub named_req : List ℕ → List ℕ → Option PackageReq
named_req name text = do
  named ← given (is_package_name name)
  req ← version_req text
  Some (record { name = name; version_req = req })

-- the requirement of a package that a text is: a name before its last `@`, and behind it a requirement
abbrev pub package_req : List ℕ → Option PackageReq
package_req text = named_req (before_last is_at text) (after_last is_at text)

-- the same by the grammars of references and of requirements: a name as in an `npm:` specifier, `@` and a requirement
abbrev pub IsPackageReq : PackageReq → List ℕ → Type 0
IsPackageReq req text = IsName true req.name × IsRequirement req.version_req × (text ≡ req_text req)

-- ---- what npm answers

-- null where all is well, and else the fault
abbrev pub npm_outcome : Form NpmOutcome
npm_outcome d = if is_some (as_null d) then Some Resolved else option_map Failed (fault d)

-- the result of a requirement: a fault is that of resolving it
abbrev pub load_result : NpmOutcome → Result ⊤ NpmLoadError
load_result Resolved = Ok tt
load_result (Failed fault) = Err (PackageReqResolution fault)

-- the result of the graph of all packages
abbrev pub graph_result : NpmOutcome → Result ⊤ Fault
graph_result Resolved = Ok tt
graph_result (Failed fault) = Err fault

-- the results by the requirements that their texts are
abbrev pub package_results : List (List ℕ × NpmOutcome) → Option (List (PackageReq × Result ⊤ NpmLoadError))
package_results [] = Some []
package_results (e ∷ es) = do
  req ← package_req e.0
  results ← package_results es
  Some ((req, load_result e.1) ∷ results)

-- ---- all of it

-- the table: no package where none is told, and no fault of the graph
abbrev pub npm_table : Form NpmTable
npm_table d = do
  known ← given (has_names (codes "packages" ∷ codes "graph" ∷ []) d)
  found ← with_default [] (dictionary npm_outcome) (codes "packages") d
  packages ← package_results found
  graph ← with_default Resolved npm_outcome (codes "graph") d
  Some (record { packages = packages; graph = graph_result graph })

-- the table of a file, which may tell none
abbrev pub npm_of : Form (Option NpmTable)
npm_of d = optional npm_table (codes "npm") d
