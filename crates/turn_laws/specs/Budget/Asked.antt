-- What a call has asked about when it is through, whoever answered.
use Rattle.std.specs.List.{list_any}
use Rattle.std.specs.Prelude.{◌≡◌, ◌⊎◌, ◌+◌, ℕ, Ok, List, [], ◌∷◌, length, true, is_some, All}
use Rattle.url.specs.Parts.{Parts}
use Rattle.source_io.specs.Tickets.{IsPut}
use Rattle.graph_core.specs.declared.graph.ModuleGraph.{ModuleGraph}
use Rattle.graph_core.specs.Graph.{has_slot, redirect_at}
use Rattle.turn_laws.specs.Budget.Covers.{Counted, counted}
use Rattle.version_dates.specs.Sets.{at_key}
use Rattle.registry_urls.specs.Meaning.{RegistryMeaning}
use Rattle.semver_npm.specs.Orders.{nv_cmp}
use Rattle.semver_npm.specs.declared.package.PackageNv.{PackageNv}
use Rattle.graph_turns.specs.Promise.Packages.{jsr_named}
use Rattle.graph_turns.specs.Promise.Taken.{Job, ForModule, ForContent, ForPackage, ForProbe, ForVersion, PutQuestion}
use Rattle.pkg_records.specs.Kept.{same_nv, versions_of}
use Rattle.semver_npm.specs.declared.reference.PackageReqReference.{PackageReqReference}

-- a graph knows a version of a package
abbrev pub HasPackage : ModuleGraph → PackageNv → Type 0
HasPackage g nv = is_some (at_key nv_cmp g.packages.packages nv) ≡ true

-- a slot or a redirect stands at a specifier
abbrev pub IsKnown : ModuleGraph → Parts → Type 0
IsKnown g s = (has_slot g s ≡ true) ⊎ (is_some (redirect_at g s) ≡ true)

-- a version was chosen for some requirement
abbrev pub IsChosen : ModuleGraph → PackageNv → Type 0
IsChosen g nv = list_any (same_nv nv) (versions_of g.packages nv.name) ≡ true

-- a slot or a redirect stands at a `jsr:` specifier that names a package
abbrev pub NamesKnown : ModuleGraph → List ℕ → Type 0
NamesKnown g name = (s : Parts) × (r : PackageReqReference) × (jsr_named s ≡ Ok r) × (r.req.name ≡ name) × IsKnown g s

-- what a question is about is known: a slot or a redirect stands at its specifier; of the file of a version the graph knows the
-- version, or it was chosen, or an error stands where it lies; of the file of a package, and of that of a version in a cache, a `jsr:`
-- specifier of the package is known
abbrev pub IsAbout : RegistryMeaning → ModuleGraph → Parts → Job → Type 0
IsAbout registry g s ForModule = IsKnown g s
IsAbout registry g s ForContent = IsKnown g s
IsAbout registry g s (ForVersion nv) = HasPackage g nv ⊎ (IsChosen g nv ⊎ IsKnown g (registry.package_url nv))
IsAbout registry g s (ForPackage name) = NamesKnown g name
IsAbout registry g s (ForProbe nv) = NamesKnown g nv.name

-- a question that is counted so is among them
abbrev pub HasCounted : Counted → List PutQuestion → Type 0
HasCounted k [] = ⊥
HasCounted k (q ∷ qs) = (k ≡ counted q) ⊎ HasCounted k qs

-- no two of them are counted alike
abbrev pub OnceCounted : List PutQuestion → Type 0
OnceCounted [] = Unit {0}
OnceCounted (q ∷ qs) = (HasCounted (counted q) qs → ⊥) × OnceCounted qs

-- so many questions were put: no two of them are counted alike, and what each is about is known
pub record AsksAbout (registry : RegistryMeaning) (g : ModuleGraph) (put : ℕ) : Type 0 where
  pub questions : List PutQuestion
  pub once : OnceCounted questions
  pub known : All (λ q. IsAbout registry g q.specifier q.job) questions
  pub count : put ≡ length questions

-- so many questions were put, no two of them counted alike
pub record AsksApart (put : ℕ) : Type 0 where
  pub questions : List PutQuestion
  pub once : OnceCounted questions
  pub count : put ≡ length questions

-- the same of a build that may have begun once more: each run puts no two that are counted alike, and what the last one asks about is known
pub record AsksInRuns (registry : RegistryMeaning) (g : ModuleGraph) (put : ℕ) : Type 0 where
  pub put_before : ℕ
  pub before : AsksApart put_before
  pub put_since : ℕ
  pub since : AsksAbout registry g put_since
  pub count : put ≡ put_before + put_since

-- the same where a count of the questions put rose so meanwhile
abbrev pub AsksOnce : RegistryMeaning → ModuleGraph → ℕ → ℕ → Type 0
AsksOnce registry g before now = (put : ℕ) × AsksInRuns registry g put × IsPut put before now
