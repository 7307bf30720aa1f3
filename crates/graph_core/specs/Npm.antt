-- `npm:` specifiers that wait: what an npm resolver says of them, and the slots that they get at the end of a build.
use Rattle.std.specs.List.{list_any}
use Rattle.std.specs.Prelude.{Bool, Result, Ok, Err, ⊤, if◌then◌else◌, ◌≡◌, not, ◌||◌, true, false, List, [], ◌∷◌, ◌++◌, filter, fold, map, Option, Some, None, is_some, IfSome}
use denote.Bor.{Bor}
use Rattle.url.specs.Parts.{Parts}
use Rattle.spec_base.specs.declared.refusal.Fault.{Fault}
use Rattle.semver_npm.specs.declared.npm_error.NpmLoadError.TheVariants.{PackageReqResolution}
use Rattle.semver_npm.specs.declared.npm_error.NpmLoadError.{NpmLoadError}
use Rattle.semver_npm.specs.declared.package.PackageReq.{PackageReq}
use Rattle.semver_npm.specs.declared.reference.NpmPackageReqReference.{NpmPackageReqReference}
use Rattle.npm_resolver.specs.Results.{listed_result, same_requirement}
use Rattle.npm_resolver.specs.declared.types.NpmTable.{NpmTable}
use Rattle.graph_errors.specs.Errors.{error_of}
use Rattle.graph_errors.specs.declared.errors.ModuleErrorKind.TheVariants.{Load as LoadFails}
use Rattle.graph_errors.specs.declared.errors.ModuleLoadError.TheVariants.{Npm as NpmFails}
use Rattle.module_slots.specs.declared.npm_load.NpmLoad.{NpmLoad}
use Rattle.module_slots.specs.declared.load.LoadContext.{LoadContext}
use Rattle.module_slots.specs.declared.slot.Module.TheVariants.{Npm}
use Rattle.module_slots.specs.declared.slot.ModuleSlot.TheVariants.{Module as Stands, Err as Failed}
use Rattle.module_slots.specs.declared.slot.ModuleSlot.{ModuleSlot}
use Rattle.graph_core.specs.Graph.{has_slot, with_slot}
use Rattle.graph_core.specs.declared.graph.ModuleGraph.{ModuleGraph}

-- ---- what is said of a specifier

-- the result of a requirement
abbrev pub NpmResult : Type 0
NpmResult = Result ⊤ NpmLoadError

-- the same where the graph of all packages counts as well
abbrev pub whole_result : Result ⊤ Fault → NpmResult → NpmResult
whole_result graph (Err e) = Err e
whole_result (Ok u) (Ok v) = Ok v
whole_result (Err fault) (Ok v) = Err (PackageReqResolution fault)

-- what a table says of a requirement: behind a dynamic import its graph of all packages counts as well
abbrev pub npm_result : NpmTable → PackageReq → Bool → NpmResult
npm_result table req dynamic =
    if dynamic then whole_result table.graph (listed_result table.packages req) else listed_result table.packages req

-- what a specifier gets: the module of npm that it names, or the error of its requirement
abbrev pub npm_slot : Parts → LoadContext → NpmPackageReqReference → NpmResult → ModuleSlot
npm_slot s c r (Ok v) = Stands (Npm (record { specifier = s; pkg_req_ref = r }))
npm_slot s c r (Err e) = Failed (error_of (LoadFails s c.range (NpmFails e)))

-- by what a table says
abbrev pub told_npm_slot : NpmTable → Parts → LoadContext → NpmPackageReqReference → ModuleSlot
told_npm_slot table s c r = npm_slot s c r (npm_result table r.inner.req c.is_dynamic)

-- ---- waiting

abbrev pub npm_waiting_at : Parts → NpmPackageReqReference → LoadContext → NpmLoad
npm_waiting_at s r c = record { specifier = s; reference = r; context = c }

-- ---- the end

-- those that aren't met behind a dynamic import, by their questions' flag
abbrev pub static_npm : List NpmLoad → List NpmLoad
static_npm items = filter (λ item. not item.context.is_dynamic) items

-- those that are
abbrev pub dynamic_npm : List NpmLoad → List NpmLoad
dynamic_npm items = filter (λ item. item.context.is_dynamic) items

-- the order in which they get slots
abbrev pub npm_order : List NpmLoad → List NpmLoad
npm_order items = static_npm items ++ dynamic_npm items

abbrev pub is_none : List NpmLoad → Bool
is_none [] = true
is_none (item ∷ items) = false

-- the graph of all packages is asked about, unless only specifiers behind dynamic imports wait
abbrev pub asks_npm_graph : List NpmLoad → Bool
asks_npm_graph items = not (is_none (static_npm items)) || is_none (dynamic_npm items)

-- a specifier gets its slot, where none stands
abbrev pub npm_put : ModuleGraph → NpmLoad × NpmResult → ModuleGraph
npm_put g (item, r) =
    if has_slot g item.specifier then g
    else with_slot g item.specifier (npm_slot item.specifier item.context item.reference r)

-- specifiers get slots in order
abbrev pub npm_put_all : ModuleGraph → List (NpmLoad × NpmResult) → ModuleGraph
npm_put_all g results = fold npm_put g results

-- the result of the graph of all packages is kept, where it was asked about
abbrev pub with_npm_graph : ModuleGraph → Option (Result ⊤ Fault) → ModuleGraph
with_npm_graph g None = g
with_npm_graph g (Some r) = record g { npm_dep_graph_result = r }

-- a graph with what a resolver says of those that wait
abbrev pub npm_settled : ModuleGraph → List (NpmLoad × NpmResult) → Option (Result ⊤ Fault) → ModuleGraph
npm_settled g results graph = npm_put_all (with_npm_graph g graph) results

-- ---- what is asked about

-- requirements with one more, where that isn't among them
abbrev pub with_requirement : List PackageReq → PackageReq → List PackageReq
with_requirement reqs req = if list_any (same_requirement req) reqs then reqs else reqs ++ req ∷ []

-- the requirements of some that wait, each once
abbrev pub npm_requirements : List NpmLoad → List PackageReq
npm_requirements items = fold (λ reqs item. with_requirement reqs item.reference.inner.req) [] items

-- what a table says of those requirements, and of the graph of all packages
pub record IsStaticAnswer (table : NpmTable) (items : List NpmLoad) (results : List (PackageReq × NpmResult)) (graph : Result ⊤ Fault) : Type 0 where
  pub results_are : results ≡ map (λ req. (req, listed_result table.packages req)) (npm_requirements items)
  pub graph_is : graph ≡ table.graph

-- ---- what a resolver says

-- specifiers with what is listed for their requirements
abbrev pub listed_npm : List (PackageReq × NpmResult) → List NpmLoad → List (NpmLoad × NpmResult)
listed_npm results items = map (λ item. (item, listed_result results item.reference.inner.req)) items

-- with what a table says of them
abbrev pub told_npm : NpmTable → Bool → List NpmLoad → List (NpmLoad × NpmResult)
told_npm table dynamic items = map (λ item. (item, npm_result table item.reference.inner.req dynamic)) items

-- specifiers get what some resolver said of them, in order: each of them has a result; where a table is told, it is what that says
pub record ArePut (table : Option NpmTable) (dynamic : Bool) (old : ModuleGraph) (items : List NpmLoad) (new : ModuleGraph) : Type 0 where
  pub results : List (NpmLoad × NpmResult)
  pub each : map (λ e. e.0) results ≡ items
  pub is : new ≡ npm_put_all old results
  pub told : IfSome table (λ t. new ≡ npm_put_all old (told_npm t dynamic items))

-- a graph keeps the result of the graph of all packages, and those that were asked for together get theirs
pub record AreSettledTogether (table : Option NpmTable) (old : ModuleGraph) (items : List NpmLoad) (new : ModuleGraph) : Type 0 where
  pub graph : Result ⊤ Fault
  pub put : ArePut table false (with_npm_graph old (Some graph)) items new
  pub graph_is : IfSome table (λ t. graph ≡ t.graph)

-- what a table says of them, in order
abbrev pub told_npm_results : NpmTable → List NpmLoad → List (NpmLoad × NpmResult)
told_npm_results table items = told_npm table false (static_npm items) ++ told_npm table true (dynamic_npm items)

abbrev pub told_npm_graph : NpmTable → List NpmLoad → Option (Result ⊤ Fault)
told_npm_graph table items = if asks_npm_graph items then Some table.graph else None

-- a graph with what a table says of those that wait
abbrev pub npm_told : NpmTable → List NpmLoad → ModuleGraph → ModuleGraph
npm_told table items g = npm_settled g (told_npm_results table items) (told_npm_graph table items)

-- a graph with what some resolver said of those that wait: each of them has a result, the graph of all packages was asked about where it is,
-- and where a table is told, it is what that says
pub record IsNpmSettled (table : Option NpmTable) (items : List NpmLoad) (old new : ModuleGraph) : Type 0 where
  pub results : List (NpmLoad × NpmResult)
  pub graph : Option (Result ⊤ Fault)
  pub each : map (λ e. e.0) results ≡ npm_order items
  pub asks : is_some graph ≡ asks_npm_graph items
  pub is : new ≡ npm_settled old results graph
  pub told : IfSome table (λ t. new ≡ npm_told t items old)

-- ---- the graph of a build

-- where no resolver is there all is resolved
abbrev pub no_npm : NpmTable
no_npm = record { packages = []; graph = Ok tt }

-- the table of a resolver, where one is there
abbrev pub npm_of : {N : Type 0} → (N → Option NpmTable) → Option (Bor N) → Option NpmTable
npm_of table None = Some no_npm
npm_of table (Some l) = table l.now
