-- The walk: what is seen, what waits, what each specifier adds, and the entries in order. Specifiers are their texts.
use Rattle.std.specs.Prelude.{ℕ, suc, zero, ◌+◌, ◌-◌, Bool, true, false, not, ◌&&◌, ◌||◌, if◌then◌else◌, bytes_eq, List, [], ◌∷◌, ◌++◌, length, map, flat_map, sum_by, Option, Some, None}
use Rattle.std.specs.List.{list_any}
use Rattle.std.specs.FinMap as finite
use Rattle.url.specs.Parts.{Parts}
use Rattle.spec_base.specs.Specifier.{specifier_text}
use Rattle.module_slots.specs.Modules.{dependencies_prefer_fast_check}
use Rattle.graph_dependencies.specs.Kinds.{include_types}
use Rattle.graph_dependencies.specs.declared.dependency.Dependency.{Dependency}
use Rattle.graph_dependencies.specs.declared.dependency.TypesDependency.{TypesDependency}
use Rattle.graph_errors.specs.declared.errors.ModuleError.{ModuleError}
use Rattle.graph_core.specs.declared.graph.ModuleGraph.{ModuleGraph}
use Rattle.graph_dependencies.specs.declared.graph_import.GraphImport.{GraphImport}
use Rattle.graph_errors.specs.declared.resolution.Resolution.{Resolution}
use Rattle.graph_errors.specs.declared.resolution.Resolution.TheVariants.{None as Nowhere, Ok as Leads, Err as Fails}
use Rattle.module_slots.specs.declared.slot.JsModule.{JsModule}
use Rattle.module_slots.specs.declared.slot.Module.{Module}
use Rattle.module_slots.specs.declared.slot.Module.TheVariants.{Js, Json, Wasm, Npm, Node, External}
use Rattle.module_slots.specs.declared.slot.ModuleSlot.{ModuleSlot}
use Rattle.module_slots.specs.declared.slot.ModuleSlot.TheVariants.{Module as Stands, Err as Failed, Pending}
use Rattle.graph_walk.specs.Lists.{Text}
use Rattle.graph_walk.specs.Options.{How, is_types_only, is_checkable}

-- ---- waiting specifiers

-- the specifiers that were seen, in the order in which they were, and those of them that wait, the front first
pub record Waiting : Type 0 where
  pub seen : List Text
  pub waiting : List Text

-- a text was seen
abbrev pub is_seen : List Text → Text → Bool
is_seen seen s = list_any (bytes_eq s) seen

-- a specifier that wasn't seen is put at the front
abbrev pub offer : Waiting → Text → Waiting
offer f s = if is_seen f.seen s then f else record { seen = f.seen ++ s ∷ []; waiting = s ∷ f.waiting }

-- texts are offered one after the other: each that wasn't seen goes to the front
unfoldable pub offered : Waiting → List Text → Waiting
offered f [] = f
offered f (s ∷ ss) = offered (offer f s) ss

-- a specifier that wasn't seen is put at the end
abbrev pub queue : Waiting → Text → Waiting
queue f s = if is_seen f.seen s then f else record { seen = f.seen ++ s ∷ []; waiting = f.waiting ++ s ∷ [] }

-- texts are queued one after the other: each that wasn't seen goes to the end
unfoldable pub queued : Waiting → List Text → Waiting
queued f [] = f
queued f (s ∷ ss) = queued (queue f s) ss

-- ---- what a specifier adds

-- where a resolution leads
abbrev pub target_in : Resolution → Option Text
target_in Nowhere = None
target_in (Leads r) = Some (specifier_text r.specifier)
target_in (Fails e) = None

-- a text as a list of at most one
abbrev pub option_list : Option Text → List Text
option_list None = []
option_list (Some s) = s ∷ []

-- a text of imports with what they make
abbrev pub Named : Type 0
Named = Text × Dependency

-- the targets of a dependency: code, and then the type where types are included
abbrev pub targets_of : How → Named → List Text
targets_of o d = option_list (target_in d.1.maybe_code) ++ (if include_types o.kind then option_list (target_in d.1.maybe_type) else [])

-- dynamic dependencies are followed where the options say so
abbrev pub follows : How → Named → Bool
follows o d = not d.1.is_dynamic || o.follow_dynamic

-- where a dependency leads, if the walk follows it
abbrev pub followed_targets : How → Named → List Text
followed_targets o d = if follows o d then targets_of o d else []

-- the targets of the followed dependencies, from the last to the first, so that the first comes to the front
unfoldable pub targets_back : How → List Named → List Text
targets_back o [] = []
targets_back o (d ∷ ds) = targets_back o ds ++ followed_targets o d

-- the targets of configured imports, from the first on
unfoldable pub import_targets : How → List Named → List Text
import_targets o [] = []
import_targets o (d ∷ ds) = targets_of o d ++ import_targets o ds

-- the dependencies of all configured imports
abbrev pub imported : List (Parts × GraphImport) → List Named
imported es = flat_map (λ e. e.1.dependencies) es

-- where the types of a module stand, where that was resolved
abbrev pub types_target : Option TypesDependency → Option Text
types_target None = None
types_target (Some t) = target_in t.dependency

-- there is a target
abbrev pub has_target : Option Text → Bool
has_target None = false
has_target (Some t) = true

-- a walk over types alone passes over a module whose types stand elsewhere, and over one that isn't checkable
abbrev pub is_passed_over : How → JsModule → Bool
is_passed_over o m = is_types_only o.kind && (has_target (types_target m.maybe_types_dependency) || not (is_checkable o m.specifier m.media_type))

-- the dependencies that a walk takes of a script: with the option those of the module that a fast check found, where types are taken of it
unfoldable pub walked : How → JsModule → List Named
walked o m =
    if o.prefers_fast_check && (include_types o.kind && is_checkable o m.specifier m.media_type) then dependencies_prefer_fast_check m
    else m.dependencies

-- the dependencies that a walk takes of a module of any kind: none of one that it passes over
abbrev pub walked_dependencies : How → Module → List Named
walked_dependencies o (Js m) = if is_passed_over o m then [] else walked o m
walked_dependencies o (Json m) = []
walked_dependencies o (Wasm m) = m.dependencies
walked_dependencies o (Npm m) = []
walked_dependencies o (Node m) = []
walked_dependencies o (External m) = []

-- ---- what a walk gives

-- what a walk gives at a specifier: a module, an error, or where it is redirected
pub data Entry : Type 0 where
  OfModule : Module → Entry
  OfError : ModuleError → Entry
  Redirected : Parts → Entry

-- the entry of a slot; a pending one and a module that is passed over have none
abbrev pub entry_at_slot : How → ModuleSlot → Option Entry
entry_at_slot o (Stands (Js m)) = if is_passed_over o m then None else Some (OfModule (Js m))
entry_at_slot o (Stands (Json m)) = Some (OfModule (Json m))
entry_at_slot o (Stands (Wasm m)) = Some (OfModule (Wasm m))
entry_at_slot o (Stands (Npm m)) = Some (OfModule (Npm m))
entry_at_slot o (Stands (Node m)) = Some (OfModule (Node m))
entry_at_slot o (Stands (External m)) = Some (OfModule (External m))
entry_at_slot o (Failed e) = Some (OfError e)
entry_at_slot o (Pending is_asset) = None

-- the entry of a redirect
abbrev pub entry_at_redirect : Option Parts → Option Entry
entry_at_redirect None = None
entry_at_redirect (Some t) = Some (Redirected t)

-- a specifier is looked up among slots first and redirects second; without either it gives nothing
abbrev pub entry_of : How → Option ModuleSlot → Option Parts → Option Entry
entry_of o None r = entry_at_redirect r
entry_of o (Some slot) r = entry_at_slot o slot

-- the slot at a text
abbrev pub slot_of : ModuleGraph → Text → Option ModuleSlot
slot_of g s = finite.get g.slots s

-- the redirect at a text
abbrev pub redirect_of : ModuleGraph → Text → Option Parts
redirect_of g s = finite.get g.redirects s

-- the entry at a text: by its slot, else by its redirect
unfoldable pub entry_at : ModuleGraph → How → Text → Option Entry
entry_at g o s = entry_of o (slot_of g s) (redirect_of g s)

-- what a specifier adds at once
abbrev pub types_at_slot : How → ModuleSlot → List Text
types_at_slot o (Stands (Js m)) = if include_types o.kind then option_list (types_target m.maybe_types_dependency) else []
types_at_slot o (Stands (Json m)) = []
types_at_slot o (Stands (Wasm m)) = []
types_at_slot o (Stands (Npm m)) = []
types_at_slot o (Stands (Node m)) = []
types_at_slot o (Stands (External m)) = []
types_at_slot o (Failed e) = []
types_at_slot o (Pending is_asset) = []

-- the types of what a slot has, which are entered first
abbrev pub types_of : How → Option ModuleSlot → List Text
types_of o None = []
types_of o (Some slot) = types_at_slot o slot

-- what is offered before a specifier's entry: the types of its module
unfoldable pub early : ModuleGraph → How → Text → List Text
early g o s = types_of o (slot_of g s)

-- what it adds after its entry
abbrev pub late_at_slot : How → ModuleSlot → List Text
late_at_slot o (Stands (Js m)) = if is_passed_over o m then [] else targets_back o (walked o m)
late_at_slot o (Stands (Json m)) = []
late_at_slot o (Stands (Wasm m)) = targets_back o m.dependencies
late_at_slot o (Stands (Npm m)) = []
late_at_slot o (Stands (Node m)) = []
late_at_slot o (Stands (External m)) = []
late_at_slot o (Failed e) = []
late_at_slot o (Pending is_asset) = []

-- the text of a redirect's target
abbrev pub redirect_text : Option Parts → Option Text
redirect_text None = None
redirect_text (Some t) = Some (specifier_text t)

-- what is entered behind an entry: a slot's targets, or else a redirect's
abbrev pub late_of : How → Option ModuleSlot → Option Parts → List Text
late_of o None r = option_list (redirect_text r)
late_of o (Some slot) r = late_at_slot o slot

-- what is entered behind the entry at a text
unfoldable pub late : ModuleGraph → How → Text → List Text
late g o s = late_of o (slot_of g s) (redirect_of g s)

-- all that s adds, where nothing is skipped
abbrev pub adds : ModuleGraph → How → Text → List Text
adds g o s = early g o s ++ late g o s

-- ---- the order

-- the specifiers in the order in which they are taken from the front, n of them at most, by what each adds
unfoldable pub taken : (Text → List Text) → ℕ → List Text → List Text → List Text
taken more zero seen waiting = []
taken more (suc n) seen [] = []
taken more (suc n) seen (s ∷ rest) =
    let f = offered (record { seen = seen; waiting = rest }) (more s) in
    s ∷ taken more n f.seen f.waiting

-- an entry of a text, before the others
abbrev pub with_entry : Text → Option Entry → List (Text × Entry) → List (Text × Entry)
with_entry s None es = es
with_entry s (Some e) es = (s, e) ∷ es

-- what the walk gives at each
unfoldable pub entries_at : ModuleGraph → How → List Text → List (Text × Entry)
entries_at g o [] = []
entries_at g o (s ∷ ss) = with_entry s (entry_at g o s) (entries_at g o ss)

-- the texts of specifiers
abbrev pub texts : List Parts → List Text
texts ss = map (λ s. specifier_text s) ss

-- nothing is seen and nothing waits
abbrev pub blank : Waiting
blank = record { seen = []; waiting = [] }

-- the distinct roots in order, with the configured imports' targets put before them
abbrev pub begun : ModuleGraph → How → List Text → Waiting
begun g o roots = offered (queued blank roots) (import_targets o (imported g.imports))

-- the entries from a state on, where no more than `bound` specifiers come to be seen
unfoldable pub left : ℕ → ModuleGraph → How → Waiting → List (Text × Entry)
left bound g o f = entries_at g o (taken (adds g o) (bound - length f.seen + length f.waiting) f.seen f.waiting)

-- how many specifiers a slot may add
abbrev pub slot_room : How → ModuleSlot → ℕ
slot_room o (Stands (Js m)) = length (walked o m) + length (walked o m) + 1
slot_room o (Stands (Json m)) = 0
slot_room o (Stands (Wasm m)) = length m.dependencies + length m.dependencies
slot_room o (Stands (Npm m)) = 0
slot_room o (Stands (Node m)) = 0
slot_room o (Stands (External m)) = 0
slot_room o (Failed e) = 0
slot_room o (Pending is_asset) = 0

-- how many specifiers the imports of one referrer may add
abbrev pub import_room : Parts × GraphImport → ℕ
import_room e = length e.1.dependencies + length e.1.dependencies

-- as many specifiers as a walk of the graph from these roots can come to
abbrev pub room : ModuleGraph → How → List Text → ℕ
room g o roots =
    length roots
    + (sum_by import_room g.imports + (finite.len g.redirects + sum_by (λ e. slot_room o e.1) (finite.entries g.slots)))

-- what a walk gives, in order
abbrev pub walk_order : ModuleGraph → How → List Text → List (Text × Entry)
walk_order g o roots = left (room g o roots) g o (begun g o roots)

-- ---- a walk that goes on

-- a front and the number of specifiers for which it has room
pub record FrontView : Type 0 where
  pub front : Waiting
  pub bound : ℕ

-- a walk: its last entry may still add
pub record WalkView (O : Type 0) : Type 0 where
  pub graph : ModuleGraph
  pub options : O
  pub front : FrontView
  pub last : Option Text

-- what the entry that the walk remembers has yet to add
abbrev pub pending_adds : ModuleGraph → How → Option Text → List Text
pending_adds g o None = []
pending_adds g o (Some s) = late g o s

-- how many specifiers a front may still give, of those for which it has room
abbrev pub front_left : FrontView → ℕ
front_left f = f.bound - length f.front.seen + length f.front.waiting

-- how many entries a walk may still give at most, whatever its last entry adds
abbrev pub steps_left : {O : Type 0} → WalkView O → ℕ
steps_left w = front_left w.front

-- what is left of a walk
abbrev pub rest : {O : Type 0} → (O → How) → WalkView O → List (Text × Entry)
rest as_how w = left w.front.bound w.graph (as_how w.options) (offered w.front.front (pending_adds w.graph (as_how w.options) w.last))
