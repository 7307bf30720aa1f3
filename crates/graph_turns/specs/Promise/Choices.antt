-- The versions of packages that a graph has, and the runs of a build over the empty graph.
use Rattle.std.specs.Prelude.{◌≡◌, ◌⊎◌, ℕ, List, [], ◌++◌, map, Contains, Option, Some, Result, Ok, Err, Bool, true}
use Rattle.std.specs.FinMap as finite
use Rattle.url.specs.Parts.{Parts}
use Rattle.spec_base.specs.Specifier.{specifier_text}
use Rattle.semver_npm.specs.declared.package.PackageNv.{PackageNv}
use Rattle.semver_npm.specs.declared.package.PackageReq.{PackageReq}
use Rattle.semver_npm.specs.declared.reference.PackageReqReference.{PackageReqReference}
use Rattle.pkg_versions.specs.Choice.{Chosen, choice_of}
use Rattle.version_dates.specs.Dates.{limit_of}
use Rattle.pkg_records.specs.Kept.{versions_of}
use Rattle.version_dates.specs.declared.not_found.JsrPackageReqNotFoundError.{JsrPackageReqNotFoundError}
use Rattle.pkg_versions.specs.declared.package_info.JsrPackageInfo.{JsrPackageInfo}
use Rattle.registry_files.specs.declared.kept_version.KeptVersion.{KeptVersion}
use Rattle.graph_errors.specs.declared.jsr_error.JsrLoadError.TheVariants.{PackageReqNotFound}
use Rattle.graph_core.specs.declared.graph.ModuleGraph.{ModuleGraph}
use Rattle.module_slots.specs.declared.load.LoadContext.{LoadContext}
use Rattle.graph_turns.specs.declared.run.Earlier.{Earlier}
use Rattle.graph_turns.specs.declared.run.Run.TheVariants.{Second}
use Rattle.graph_turns.specs.Machine.Runs.{told_first, told_for}
use Rattle.graph_turns.specs.Promise.Cached.{told_cached}
use Rattle.graph_turns.specs.Promise.Explains.{AllExplained, AreSourceSums}
use Rattle.graph_turns.specs.Promise.Input.{EnteredGraph, Given, fresh_entry}
use Rattle.graph_turns.specs.Promise.Packages.{IsLastFile, IsLookedFor, IsPackageFile}
use Rattle.graph_turns.specs.Promise.Reached.{Reached}
use Rattle.graph_turns.specs.Promise.Slots.{jsr_slot}
use Rattle.graph_turns.specs.Promise.Told.{Told}
use Rattle.graph_turns.specs.Promise.Versions.{told_package, told_version}

-- a requirement picks an answer by a file of its package: with some versions at the front of those that a graph has of that name as existing
-- ones, and those as cached ones whose files a cache holds, where these are preferred
pub record Picks (told : Told) (g : ModuleGraph) (req : PackageReq) (info : JsrPackageInfo) (answer : Result Chosen JsrPackageReqNotFoundError) : Type 0 where
  pub front : List PackageNv
  pub back : List PackageNv
  pub parts : versions_of g.packages req.name ≡ front ++ back
  pub picks : choice_of req info (map (λ nv. nv.version) front) (told_cached told req.name info) (limit_of told.newest req.name) ≡ answer

-- a requirement leads to a version that it picks
pub record IsPicked (told : Told) (g : ModuleGraph) (req : PackageReq) (nv : PackageNv) : Type 0 where
  pub named : nv.name ≡ req.name
  pub info : JsrPackageInfo
  pub file : IsPackageFile told req.name (Ok info)
  pub yanked : Bool
  pub picked : Picks told g req info (Ok (yanked, nv.version))

-- no version meets a requirement, though versions stand in a graph
pub record IsNotMet (told : Told) (g : ModuleGraph) (e : JsrPackageReqNotFoundError) : Type 0 where
  pub info : JsrPackageInfo
  pub file : IsLastFile told e.req.name (Ok info)
  pub picked : Picks told g e.req info (Err e)

-- a slot says that no version meets a requirement
abbrev pub SaysNotMet : ModuleGraph → List ℕ → JsrPackageReqNotFoundError → Type 0
SaysNotMet g k e = (s : Parts) × (c : LoadContext) × (specifier_text s ≡ k) × (finite.get g.slots k ≡ Some (jsr_slot s c (PackageReqNotFound e)))

-- the choices of a graph: each requirement that it didn't lead on at entry leads to a version that it picks, and where a slot says since that
-- none meets one, none does
pub record HasChoices (told : Told) (given : EnteredGraph) (g : ModuleGraph) : Type 0 where
  pub mapped : (req : PackageReq) (nv : PackageNv) → Contains g.packages.package_reqs (req, nv) → Contains given.graph.packages.package_reqs (req, nv) ⊎ IsPicked told g req nv
  pub not_met : (k : List ℕ) (e : JsrPackageReqNotFoundError) → SaysNotMet g k e → SaysNotMet given.graph k e ⊎ IsNotMet told g e

-- a requirement that is reached has no choice in a first run, even where no version stands
pub record Lacks (told : Told) (given : EnteredGraph) : Type 0 where
  pub specifier : Parts
  pub context : LoadContext
  pub reached : Reached told given specifier context
  pub reference : PackageReqReference
  pub looked_for : IsLookedFor told specifier reference
  pub info : JsrPackageInfo
  pub file : told_package told reference.req.name ≡ Ok info
  pub error : JsrPackageReqNotFoundError
  pub none : choice_of reference.req info [] (told_cached told reference.req.name info) (limit_of told.newest reference.req.name) ≡ Err error

-- what a first run may find: sums of sources and of version files that it reaches
pub record IsFoundBy (told : Told) (given : EnteredGraph) (e : Earlier) : Type 0 where
  pub sources : AreSourceSums told given e.sums
  pub manifests : (nv : PackageNv) (sum : List ℕ) → finite.get e.manifests nv ≡ Some sum → (v : KeptVersion) × (told_version told nv ≡ Ok v) × (v.file.checksum ≡ sum)

-- a graph is what one run makes of the empty one: each slot and each redirect is what the world's answers give an import leading to it,
-- and each requirement leads to a version that it picks
pub record IsMadeIn (told : Told) (given : Given) (g : ModuleGraph) : Type 0 where
  pub explained : AllExplained told given g
  pub choices : HasChoices told (fresh_entry told given) g

-- a graph that a build of what is given makes of the empty one: one run does, whose registry files are asked for under Use; or a second
-- one, under Reload, where some requirement that the first one reaches has no choice
pub data IsMade (told : Told) (given : Given) (g : ModuleGraph) : Type 0 where
  at_once : IsMadeIn (told_first told) given g → IsMade told given g
  once_more : {e : Earlier} → Lacks (told_first told) (fresh_entry told given) → IsFoundBy (told_first told) (fresh_entry told given) e → IsMadeIn (told_for told (Second e)) given g → IsMade told given g
