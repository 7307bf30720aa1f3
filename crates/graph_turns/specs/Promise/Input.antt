-- What a build is given, and the contexts in which it begins.
use Rattle.std.specs.Prelude.{◌≡◌, Bool, List, [], ◌++◌, map, fold, is_some, true, false, Option, None, Ok, IfSome, if◌then◌else◌}
use Rattle.std.specs.Map.{lookup}
use Rattle.std.specs.FinMap as finite
use Rattle.indexmap.specs.IndexMap.{insert_entry}
use Rattle.indexmap.specs.IndexSet.{insert_all}
use Rattle.url.specs.Parts.{Parts}
use Rattle.pkg_records.specs.Kept.{no_packages}
use Rattle.spec_base.specs.Specifier.{same_specifier}
use Rattle.import_records.specs.Target.{Resolving}
use Rattle.graph_core.specs.declared.graph.ModuleGraph.{ModuleGraph}
use Rattle.graph_dependencies.specs.declared.graph_import.GraphImport.{GraphImport}
use Rattle.graph_dependencies.specs.declared.graph_kind.GraphKind.{GraphKind}
use Rattle.module_slots.specs.declared.load.Load.{Load}
use Rattle.module_slots.specs.declared.load.LoadContext.{LoadContext}
use Rattle.graph_core.specs.Edges.{import_loads}
use Rattle.import_records.specs.Imports.{graph_import}
use Rattle.graph_dependencies.specs.declared.referrer_imports.ReferrerImports.{ReferrerImports}
use Rattle.graph_turns.specs.Promise.Told.{Told}

-- what a build is to begin with: the kind of the graph, its roots, and the imports that are configured
pub record Given : Type 0 where
  pub kind : GraphKind
  pub roots : List Parts
  pub imports : List ReferrerImports

abbrev pub given_to : GraphKind → List Parts → List ReferrerImports → Given
given_to kind roots imports = record { kind = kind; roots = roots; imports = imports }

-- ---- roots

-- the roots as they are given, each text once
abbrev pub roots_of : List Parts → List Parts
roots_of given = insert_all same_specifier [] given

-- no import names a root, and no redirect led to it; it is in the dynamic phase where the build begins in it
abbrev pub root_context : Bool → LoadContext
root_context dynamic = record {
  attribute = None;
  asset = false;
  source_phase = None;
  range = None;
  in_dynamic_phase = dynamic;
  is_dynamic = dynamic;
  is_root = true;
  hops = 0;
  «package» = None;
}

abbrev pub root_load : Bool → Parts → Load
root_load dynamic s = record { specifier = s; context = root_context dynamic; is_type = false }

-- ---- configured imports

-- the imports of a referrer, resolved
abbrev pub resolved_import : Resolving → ReferrerImports → Parts × GraphImport
resolved_import m i = (i.referrer, graph_import m i.referrer i.imports)

-- the referrers as they are given, each text once
abbrev pub referrers_of : List ReferrerImports → List Parts
referrers_of given = insert_all same_specifier [] (map (λ i. i.referrer) given)

-- resolved imports, where their referrer has none yet
abbrev pub with_import : List (Parts × GraphImport) → Parts × GraphImport → List (Parts × GraphImport)
with_import es e = if is_some (lookup (same_specifier e.0) es) then es else insert_entry same_specifier es e.0 e.1

-- resolved imports by their referrers, behind those that stand; the first ones of a referrer count
abbrev pub imports_with : List (Parts × GraphImport) → List (Parts × GraphImport) → List (Parts × GraphImport)
imports_with old given = fold with_import old given

-- the configured imports by their referrers
abbrev pub imports_of : Resolving → List ReferrerImports → List (Parts × GraphImport)
imports_of m given = imports_with [] (map (resolved_import m) given)

-- ---- the start

-- what a graph begins with: its kind, its roots and its configured imports
pub record Start : Type 0 where
  pub kind : GraphKind
  pub roots : List Parts
  pub imports : List (Parts × GraphImport)

abbrev pub starts : ModuleGraph → Start
starts g = record { kind = g.kind; roots = g.roots; imports = g.imports }

-- the start of a graph from roots and resolved imports
abbrev pub start_with : GraphKind → List Parts → List (Parts × GraphImport) → Start
start_with kind roots imports = record { kind = kind; roots = roots_of roots; imports = imports_with [] imports }

-- what is given, by what texts are resolved by
abbrev pub start_of : Resolving → Given → Start
start_of m given = record { kind = given.kind; roots = roots_of given.roots; imports = imports_of m given.imports }

-- a start is what was given; the imports are those of the referrers, each once, and what they are resolved to, where that is told
pub record Begins (resolver : Option Resolving) (given : Given) (start : Start) : Type 0 where
  pub kind_is : start.kind ≡ given.kind
  pub roots_are : start.roots ≡ roots_of given.roots
  pub referrers_are : map (λ i. i.0) start.imports ≡ referrers_of given.imports
  pub imports_are : IfSome resolver (λ m. start.imports ≡ imports_of m given.imports)

-- the loads of a start: the roots, then the targets of the configured imports
abbrev pub start_loads : Bool → Start → List Load
start_loads dynamic start = map (root_load dynamic) start.roots ++ import_loads dynamic start.imports

-- ---- the entry of a call

-- where a call on a graph begins: the graph once its roots and imports were added and what is to be loaded again was
-- removed, and the loads that enter then
pub record EnteredGraph : Type 0 where
  pub graph : ModuleGraph
  pub loads : List Load

-- the graph that holds its start alone
abbrev pub rooted : Start → ModuleGraph
rooted start = record {
  roots = start.roots;
  imports = start.imports;
  redirects = finite.empty;
  has_node_specifier = false;
  packages = no_packages;
  npm_dep_graph_result = Ok tt;
  kind = start.kind;
  slots = finite.empty;
}

-- the entry of a build of what is given into the empty graph
abbrev pub fresh_entry : Told → Given → EnteredGraph
fresh_entry told given = record { graph = rooted (start_of told.resolving given); loads = start_loads told.known.flags.is_dynamic (start_of told.resolving given) }
