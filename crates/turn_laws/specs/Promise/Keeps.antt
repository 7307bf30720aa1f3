-- What a run of a build keeps, turn by turn, where each answer is the world's.
use Rattle.std.specs.Prelude.{◌≡◌, ◌⊎◌, ℕ, Bool, true, List, map, All, Some, None, Result, Ok, IfSome}
use Rattle.std.specs.FinMap as finite
use Rattle.url.specs.Parts.{Parts}
use Rattle.semver_npm.specs.declared.package.PackageNv.{PackageNv}
use Rattle.semver_npm.specs.declared.reference.PackageReqReference.{PackageReqReference}
use Rattle.pkg_records.specs.Kept.{versions_of}
use Rattle.pkg_versions.specs.declared.package_info.JsrPackageInfo.{JsrPackageInfo}
use Rattle.registry_files.specs.declared.kept_version.KeptVersion.{KeptVersion}
use Rattle.graph_errors.specs.declared.jsr_error.JsrLoadError.{JsrLoadError}
use Rattle.module_slots.specs.declared.load.LoadContext.{LoadContext}
use Rattle.module_slots.specs.declared.slot.ModuleSlot.{ModuleSlot}
use Rattle.module_slots.specs.declared.slot.ModuleSlot.TheVariants.{Pending}
use Rattle.module_slots.specs.declared.npm_load.NpmLoad.{NpmLoad}
use Rattle.graph_turns.specs.declared.passes.Chosen.{Chosen}
use Rattle.graph_turns.specs.declared.passes.Pass.{Pass}
use Rattle.graph_turns.specs.declared.registry.RegistryFile.{RegistryFile}
use Rattle.graph_turns.specs.declared.registry.RegistryFile.TheVariants.{Package, PackageAgain, Version, Probe}
use Rattle.graph_turns.specs.declared.state.State.{State}
use Rattle.graph_turns.specs.declared.waiting.WaitingPackage.{WaitingPackage}
use Rattle.graph_turns.specs.Machine.Runs.{earlier_sums}
use Rattle.graph_turns.specs.Machine.Sums.{sum_in}
use Rattle.graph_turns.specs.Promise.Cached.{FitsUnyanked, is_cached}
use Rattle.graph_turns.specs.Promise.Choices.{HasChoices}
use Rattle.graph_turns.specs.Promise.Explains.{Awaits, IsExplained, IsExplainedRedirect, ComesLater, IsSourceSum}
use Rattle.graph_turns.specs.Promise.Forbidden.{forbidden}
use Rattle.graph_turns.specs.Promise.Input.{EnteredGraph}
use Rattle.graph_turns.specs.Promise.Packages.{Fits, IsListed, IsLookedFor, is_npm, npm_named}
use Rattle.graph_turns.specs.Promise.Reached.{Reached}
use Rattle.graph_turns.specs.Promise.Taken.{is_asked}
use Rattle.graph_turns.specs.Promise.Told.{Told}
use Rattle.graph_turns.specs.Promise.Versions.{told_package, told_package_again, told_version}

-- a `jsr:` specifier that waits is reached, and looked for
pub record IsReachedItem (told : Told) (entry : EnteredGraph) (item : WaitingPackage) : Type 0 where
  pub reached : Reached told entry item.specifier item.context
  pub looked_for : IsLookedFor told item.specifier (record { req = item.req; sub_path = item.sub_path })
  pub allowed : forbidden told.known.flags item.specifier item.context ≡ None

-- an `npm:` specifier that waits for the end is reached, where an npm resolver is there
pub record IsReachedNpm (told : Told) (entry : EnteredGraph) (item : NpmLoad) : Type 0 where
  pub reached : Reached told entry item.specifier item.context
  pub names_npm : is_npm item.specifier ≡ true
  pub resolves : told.known.flags.resolves_npm ≡ true
  pub named : npm_named item.specifier ≡ Ok item.reference
  pub allowed : forbidden told.known.flags item.specifier item.context ≡ None

-- the version that was chosen for it fits
pub record IsReachedChoice (told : Told) (entry : EnteredGraph) (one : Chosen) : Type 0 where
  pub item : IsReachedItem told entry one.item
  pub fits : Fits told entry one.item.req one.nv

pub record IsReachedPass (told : Told) (entry : EnteredGraph) (p : Pass) : Type 0 where
  pub items : All (IsReachedItem told entry) p.items
  pub chosen : All (IsReachedChoice told entry) p.chosen

-- a file that a pass wants is of a reached specifier
pub data IsReachedFile (told : Told) (entry : EnteredGraph) : RegistryFile → Type 0 where
  for_package : {s : Parts} {c : LoadContext} {r : PackageReqReference} → Reached told entry s c → IsLookedFor told s r → IsReachedFile told entry (Package r.req.name)
  for_package_again : {s : Parts} {c : LoadContext} {r : PackageReqReference} → Reached told entry s c → IsLookedFor told s r → told.asks_again ≡ true → IsReachedFile told entry (PackageAgain r.req.name)
  for_version : {s : Parts} {c : LoadContext} {r : PackageReqReference} {nv : PackageNv} → Reached told entry s c → IsLookedFor told s r → Fits told entry r.req nv → IsReachedFile told entry (Version nv)
  for_probe : {s : Parts} {c : LoadContext} {r : PackageReqReference} {nv : PackageNv} → Reached told entry s c → IsLookedFor told s r → told.known.flags.prefers_cached_jsr ≡ true → FitsUnyanked told r.req nv → IsReachedFile told entry (Probe nv)

-- what a run keeps over an entry, where each answer so far was the world's
pub record IsKeptBy (told : Told) (entry : EnteredGraph) (s : State) : Type 0 where
  pub slots : (k : List ℕ) (slot : ModuleSlot) → finite.get s.graph.slots k ≡ Some slot → ((asset : Bool) × (slot ≡ Pending asset)) ⊎ ((finite.get entry.graph.slots k ≡ Some slot) ⊎ (IsExplained told entry k slot ⊎ Awaits told entry s.contents k slot))
  pub redirects : (k : List ℕ) (n : Parts) → finite.get s.graph.redirects k ≡ Some n → (finite.get entry.graph.redirects k ≡ Some n) ⊎ IsExplainedRedirect told entry k n
  -- each sum that this run found is that of the source of a module that was made there
  pub sums : (k sum : List ℕ) → sum_in s.sums k ≡ Some sum → (sum_in (earlier_sums s.run) k ≡ Some sum) ⊎ IsSourceSum told entry k sum
  pub loads : All (λ load. Reached told entry load.specifier load.context × (is_asked told.known.flags load.specifier load.context ≡ true)) s.loads
  pub deferred : All (λ e. Reached told entry e.0 e.1) s.deferred
  pub dynamic : All (λ e. Reached told entry e.1.specifier e.1.context) s.dynamic
  pub waiting : All (IsReachedItem told entry) s.waiting
  pub npm : All (IsReachedNpm told entry) s.npm
  pub passing : IfSome s.pass (IsReachedPass told entry)
  pub wanted : All (IsReachedFile told entry) s.wanted
  -- each file of the registry that was asked about is the world's
  pub files : (nv : PackageNv) (kept : Result KeptVersion JsrLoadError) → finite.get s.files nv ≡ Some kept → kept ≡ told_version told nv
  pub packages : (name : List ℕ) (read : Result JsrPackageInfo JsrLoadError) → finite.get s.packages name ≡ Some read → read ≡ told_package told name
  pub reloaded : (name : List ℕ) (read : Result JsrPackageInfo JsrLoadError) → finite.get s.reloaded name ≡ Some read → (told.asks_again ≡ true) × (read ≡ told_package_again told name)
  pub probed : (nv : PackageNv) (found : Bool) → finite.get s.probed nv ≡ Some found → found ≡ is_cached told nv
  pub contents : All (ComesLater told entry) s.contents
  pub choices : HasChoices told entry s.graph
  pub listed : (name : List ℕ) → All (λ v. IsListed told entry (record { name = name; version = v })) (map (λ x. x.version) (versions_of s.graph.packages name))
