-- Loads that enter: a load is stored as a pending slot, waits, or comes to nothing; and what the answer to a load leaves, whose edges enter.
use Rattle.std.specs.Prelude.{◌≡◌, ⊤, ℕ, ◌+◌, nat_le, ◌||◌, ◌&&◌, not, Bool, true, false, List, [], ◌∷◌, ◌++◌, Option, Some, None, is_some, if◌then◌else◌, Result, Ok, Err}
use Rattle.std.specs.FinMap as finite
use Rattle.std.specs.List.{list_any}
use Rattle.std.specs.Map.{lookup}
use Rattle.indexmap.specs.IndexMap.{insert_entry}
use Rattle.indexmap.specs.IndexSet.{insert_key}
use Rattle.url.specs.Parts.{Parts}
use Rattle.spec_base.specs.Options.{by_option}
use Rattle.spec_base.specs.Specifier.{same_specifier}
use Rattle.semver_npm.specs.declared.package.PackageNv.{PackageNv}
use Rattle.source_sums.specs.Sums.{KnownSums}
use Rattle.graph_errors.specs.Errors.{redirects_error}
use Rattle.graph_errors.specs.declared.errors.ModuleErrorKind.{ModuleErrorKind}
use Rattle.graph_errors.specs.declared.jsr_error.JsrLoadError.TheVariants.{PackageFormat}
use Rattle.graph_dependencies.specs.declared.graph_kind.GraphKind.{GraphKind}
use Rattle.graph_core.specs.declared.graph.ModuleGraph.{ModuleGraph}
use Rattle.module_slots.specs.declared.load.Load.{Load}
use Rattle.module_slots.specs.declared.load.LoadContext.{LoadContext}
use Rattle.module_slots.specs.declared.slot.Module.TheVariants.{Js, Json, Wasm, Npm, Node, External}
use Rattle.module_slots.specs.declared.slot.ModuleSlot.{ModuleSlot}
use Rattle.module_slots.specs.declared.slot.ModuleSlot.TheVariants.{Module as Stands, Err as Failed, Pending}
use Rattle.graph_core.specs.Edges.{loads_of}
use Rattle.graph_core.specs.Graph.{has_slot, slot_at, with_slot}
use Rattle.module_slots.specs.Slots.{is_asset_slot, is_pending, is_pending_asset, failed_slot}
use Rattle.graph_turns.specs.declared.flags.Flags.{Flags}
use Rattle.graph_turns.specs.declared.later_content.LaterContent.{LaterContent}
use Rattle.graph_turns.specs.declared.outcome.Outcome.{Outcome}
use Rattle.graph_turns.specs.declared.outcome.Outcome.TheVariants.{At, To}
use Rattle.graph_turns.specs.declared.state.State.{State}
use Rattle.graph_turns.specs.Promise.Forbidden.{forbidden}
use Rattle.graph_turns.specs.Promise.Input.{EnteredGraph}
use Rattle.graph_turns.specs.Promise.Reached.{in_package}
use Rattle.graph_turns.specs.Promise.Slots.{node_slot, external_slot}
use Rattle.graph_turns.specs.Promise.Taken.{is_built_in}
use Rattle.graph_turns.specs.Machine.Known.{Known}
use Rattle.graph_turns.specs.Machine.Manners.{unsupported}
use Rattle.graph_turns.specs.Machine.Redirects.{is_settled, redirected_end, leads_back, moved, renamed}
use Rattle.graph_turns.specs.Machine.Sums.{sums_with}
use Rattle.semver_npm.specs.declared.npm_error.NpmLoadError.TheVariants.{PackageReqReferenceParse}
use Rattle.semver_npm.specs.declared.npm_error.PackageReqReferenceParseError.{PackageReqReferenceParseError}
use Rattle.semver_npm.specs.declared.reference.NpmPackageReqReference.{NpmPackageReqReference}
use Rattle.semver_npm.specs.declared.reference.PackageReqReference.{PackageReqReference}
use Rattle.graph_errors.specs.declared.errors.ModuleErrorKind.TheVariants.{Load as LoadFails}
use Rattle.graph_errors.specs.declared.errors.ModuleLoadError.TheVariants.{Jsr, Npm}
use Rattle.graph_errors.specs.declared.jsr_error.JsrPackageFormatError.{JsrPackageFormatError}
use Rattle.graph_turns.specs.Promise.Packages.{is_jsr, is_npm, jsr_named, npm_named}
use Rattle.graph_turns.specs.declared.run.Run.TheVariants.{Only}
use Rattle.graph_turns.specs.Machine.Npm.{npm_waiting_with}
use Rattle.graph_core.specs.Npm.{npm_waiting_at}
use Rattle.graph_turns.specs.Machine.Waiting.{noting, waiting_at, waiting_with}

-- ---- entering

-- a module of Node.js is stored at once
abbrev pub with_node : ModuleGraph → Parts → ModuleGraph
with_node g s = record (with_slot g s (node_slot s)) { has_node_specifier = true }

-- a pending slot and an open load
abbrev pub opened : State → LoadContext → Parts → State
opened s c at = record s {
  graph = with_slot s.graph at (Pending c.asset);
  loads = s.loads ++ (record { specifier = at; context = c; is_type = false }) ∷ [];
}

-- a slot stands that isn't asked for again: a module that is at hand alone is, by a load that reads it
abbrev pub is_shut : Option ModuleSlot → LoadContext → Bool
is_shut None c = false
is_shut (Some slot) c = c.asset || not (is_asset_slot slot)

-- a load of an asset is under way there
abbrev pub is_pending_asset_at : Option ModuleSlot → Bool
is_pending_asset_at None = false
is_pending_asset_at (Some slot) = is_pending_asset slot

-- a load is one of an asset at a specifier
abbrev pub opens_asset : Parts → Load → Bool
opens_asset at load = same_specifier at load.specifier && load.context.asset

-- a load that reads the module comes to a pending slot whose load is open, and is one of an asset
abbrev pub waits_for_asset : State → LoadContext → Parts → Bool
waits_for_asset s c at = not c.asset && (is_pending_asset_at (slot_at s.graph at) && list_any (opens_asset at) s.loads)

-- loads that wait, by their specifiers
abbrev pub Waits : Type 0
Waits = List (Parts × LoadContext)

-- the first one of a specifier stays
abbrev pub deferred_with : Waits → Parts → LoadContext → Waits
deferred_with es s c = if is_some (lookup (same_specifier s) es) then es else insert_entry same_specifier es s c

-- the error of a load that is refused, over any slot
abbrev pub refused_at : State → Parts → ModuleErrorKind → State
refused_at s at kind = record s { graph = with_slot s.graph at (failed_slot kind) }

-- a `jsr:` specifier that names a package stands outside of the graph, or waits for the next pass, where it has no slot
abbrev pub package_kept : State → LoadContext → Parts → PackageReqReference → State
package_kept s c at r =
    if s.flags.passthrough_jsr then record s { graph = with_slot s.graph at (external_slot at false) }
    else if has_slot s.graph at then s
    else waiting_with s (waiting_at at r c)

abbrev pub received_jsr : State → LoadContext → Parts → Result PackageReqReference JsrPackageFormatError → State
received_jsr s c at (Ok r) = package_kept (noting s at c) c at r
received_jsr s c at (Err e) = refused_at s at (LoadFails at c.range (Jsr (PackageFormat e)))

-- an `npm:` specifier that names a package waits for the end of the build, or is asked about as a URL is where no npm resolver is there
abbrev pub received_npm : State → LoadContext → Parts → Result NpmPackageReqReference PackageReqReferenceParseError → State
received_npm s c at (Ok r) = if s.flags.resolves_npm then npm_waiting_with (noting s at c) (npm_waiting_at at r c) else opened (noting s at c) c at
received_npm s c at (Err e) = refused_at s at (LoadFails at c.range (Npm (PackageReqReferenceParse e)))

-- where no slot is shut: a module of Node.js is stored, a `jsr:` specifier waits, and else a slot is pending and the load open
abbrev pub admitted : State → LoadContext → Parts → State
admitted s c at =
    if is_built_in at then record s { graph = with_node s.graph at }
    else if is_jsr at then received_jsr s c at (jsr_named at)
    else if is_npm at then received_npm s c at (npm_named at)
    else opened s c at

-- the same, but that a load is refused whose version came along and has its sum in no form that is known
abbrev pub unstopped : State → LoadContext → Parts → State
unstopped s c at = by_option (unsupported (finite.get s.files) at c) (admitted s c at) (refused_at s at)

-- a load that a slot stops: it waits for an asset, or comes to nothing
abbrev pub stopped : State → LoadContext → Parts → State
stopped s c at = if waits_for_asset s c at then record s { deferred = deferred_with s.deferred at c } else s

-- a load of a specifier that isn't refused, at the end of the known redirects
abbrev pub received : State → Parts → LoadContext → Parts → State
received s asked c at = if is_shut (slot_at s.graph at) c then stopped (noting s asked c) c at else unstopped s c at

-- a load of a specifier at the end of the known redirects; the error of an asset that is refused goes over any slot
abbrev pub entered_at : State → Parts → LoadContext → Parts → State
entered_at s asked c at = by_option (forbidden s.flags at c) (received s asked c at) (refused_at s at)

-- a load enters at the end of the known redirects
unfoldable pub enter : State → Load → State
enter s load = entered_at s load.specifier load.context (redirected_end s.graph load.specifier)

-- loads enter in order
unfoldable pub enter_all : State → List Load → State
enter_all s [] = s
enter_all s (load ∷ loads) = enter_all (enter s load) loads

-- a graph with nothing open, deferred or queued; sums are kept where a locker is to be told them
abbrev pub first_state : Bool → Flags → ModuleGraph → State
first_state keeps_sums flags g = record {
  graph = g;
  loads = [];
  deferred = [];
  dynamic = [];
  root_names = [];
  is_dynamic = flags.is_dynamic;
  flags = flags;
  sums = if keeps_sums then Some finite.empty else None;
  files = finite.empty;
  packages = finite.empty;
  reloaded = finite.empty;
  probed = finite.empty;
  waiting = [];
  npm = [];
  pass = None;
  wanted = [];
  notes = [];
  run = Only;
  contents = [];
}

abbrev pub resting_state : Known → ModuleGraph → State
resting_state known g = first_state (is_some known.sums) known.flags g

-- the loads of an entry have entered
abbrev pub begun_at : Known → EnteredGraph → State
begun_at known e = enter_all (resting_state known e.graph) e.loads

-- ---- edges

-- a specifier that a root's answer named counts as a root
abbrev pub with_mark : List Parts → Load → Load
with_mark names load = record load { context = record load.context { is_root = load.context.is_root || list_any (same_specifier load.specifier) names } }

-- dynamic imports that wait, by their targets
abbrev pub Imports : Type 0
Imports = List (Parts × Load)

-- a dynamic import takes the place of another one of its target: one that reads it that of an asset's, and between equals one of a type
abbrev pub goes_before : Load → Load → Bool
goes_before load old = if old.context.asset then (not load.context.asset || load.is_type) else (not load.context.asset && load.is_type)

-- an import stands that stays
abbrev pub stays : Option Load → Load → Bool
stays None load = false
stays (Some old) load = not (goes_before load old)

-- a dynamic import waits, at the place of another one of its target where that doesn't stay
abbrev pub queued : Imports → Load → Imports
queued es load = if stays (lookup (same_specifier load.specifier) es) load then es else insert_entry same_specifier es load.specifier load

-- an edge enters, or waits where it is dynamic and the build isn't yet
unfoldable pub enter_edge : State → Load → State
enter_edge s load =
    if load.context.in_dynamic_phase && not s.is_dynamic then record s { dynamic = queued s.dynamic load }
    else enter s (with_mark s.root_names load)

-- edges enter in order
unfoldable pub enter_edges : State → List Load → State
enter_edges s [] = s
enter_edges s (load ∷ loads) = enter_edges (enter_edge s load) loads

-- ---- storing

-- the followed edges of a slot
abbrev pub edges_from : GraphKind → Bool → ModuleSlot → LoadContext → List Load
edges_from kind skip (Stands m) c = loads_of kind skip m c
edges_from kind skip (Failed e) c = []
edges_from kind skip (Pending asset) c = []

-- a module outside of the graph
abbrev pub is_outside : ModuleSlot → Bool
is_outside (Stands (External m)) = true
is_outside (Stands (Js m)) = false
is_outside (Stands (Json m)) = false
is_outside (Stands (Wasm m)) = false
is_outside (Stands (Npm m)) = false
is_outside (Stands (Node m)) = false
is_outside (Failed e) = false
is_outside (Pending asset) = false

-- a module, and no error
abbrev pub is_module : ModuleSlot → Bool
is_module (Stands m) = true
is_module (Failed e) = false
is_module (Pending asset) = false

-- a module outside of the graph gives way to any slot at its name but a pending one
abbrev pub gives_way : ModuleGraph → Parts → ModuleSlot → Bool
gives_way g name slot = is_outside slot && is_settled (slot_at g name)

-- a slot at its name, unless it gives way
abbrev pub placed : ModuleGraph → Parts → ModuleSlot → ModuleGraph
placed g name slot = if gives_way g name slot then g else with_slot g name slot

-- with the name of a module that a root's answer gave
abbrev pub names_with : List Parts → LoadContext → Parts → ModuleSlot → List Parts
names_with names c name slot = if c.is_root && is_module slot then insert_key same_specifier names name else names

-- the sums with that of a slot, which isn't kept where it counts in a version of a package
abbrev pub sums_by : Option PackageNv → Option KnownSums → Parts → ModuleSlot → Option KnownSums
sums_by None sums name slot = sums_with sums name slot
sums_by (Some nv) sums name slot = sums

-- a slot stands at its name, with the sum of its source; the name is kept where a root's answer gave it
abbrev pub placed_at : State → Load → Option PackageNv → Parts → ModuleSlot → State
placed_at s load held name slot = record s {
  graph = placed (renamed s.graph load.specifier name) name slot;
  root_names = names_with s.root_names load.context name slot;
  sums = sums_by held s.sums name slot;
}

-- a slot is stored at its name, and then the edges from it enter, in the package that it counts in
abbrev pub stored_at : State → Load → Option PackageNv → Parts → ModuleSlot → State
stored_at s load held name slot =
    enter_edges (placed_at s load held name slot) (edges_from s.graph.kind s.flags.skip_dynamic_deps slot (in_package held load.context))

-- one hop more
abbrev pub hop : LoadContext → LoadContext
hop c = record c { hops = c.hops + 1 }

-- the load goes on at another specifier
abbrev pub redirected : State → Load → Parts → State
redirected s load n =
    enter (record s { graph = moved s.graph load.specifier n }) (record { specifier = n; context = hop load.context; is_type = false })

-- redirects end at the asked specifier
abbrev pub redirects_ended : State → Load → State
redirects_ended s load =
    record s { graph = with_slot s.graph load.specifier (Failed (redirects_error load.specifier load.context.range)) }

-- whether a redirect of a load isn't followed: as many were as one load may, or it leads back
abbrev pub is_end : ℕ → State → Load → Parts → Bool
is_end most s load n = nat_le most load.context.hops || leads_back s.graph load.specifier n

-- a content that comes later is kept
abbrev pub with_content : State → Option LaterContent → State
with_content s None = s
with_content s (Some l) = record s { contents = s.contents ++ l ∷ [] }

-- what an answer gives is stored
unfoldable pub stored : ℕ → State → Load → Outcome → State
stored most s load (At name slot held content) = stored_at (with_content s content) load held name slot
stored most s load (To n) = if is_end most s load n then redirects_ended s load else redirected s load n

-- a slot that a load is given is final, and it is at hand alone only at the own specifier of an asset
abbrev pub IsFinal : Load → Outcome → Type 0
IsFinal load (At name slot held content) = (is_pending slot ≡ false) × (is_asset_slot slot ≡ true → (name ≡ load.specifier) × (load.context.asset ≡ true))
IsFinal load (To name) = ⊤
