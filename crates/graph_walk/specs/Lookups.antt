-- What stands where texts of imports lead, with a wish for types.
use Rattle.std.specs.Prelude.{List, Bool, Option, Some, None, Result, Ok, Err, bytes_eq, is_some, if◌then◌else◌}
use Rattle.std.specs.Map.{lookup}
use Rattle.url.specs.Parts.{Parts}
use Rattle.spec_base.specs.Options.{by_option}
use Rattle.spec_base.specs.Specifier.{same_specifier}
use Rattle.graph_errors.specs.Resolutions.{specifier_in}
use Rattle.graph_errors.specs.declared.errors.ModuleError.{ModuleError}
use Rattle.graph_dependencies.specs.declared.dependency.Dependency.{Dependency}
use Rattle.graph_dependencies.specs.declared.dependency.TypesDependency.{TypesDependency}
use Rattle.graph_core.specs.Graph.{resolved}
use Rattle.graph_core.specs.Lookup.{slot_behind, module_in, tried}
use Rattle.module_slots.specs.Modules.{module_dependencies, module_types}
use Rattle.graph_core.specs.declared.graph.ModuleGraph.{ModuleGraph}
use Rattle.module_slots.specs.declared.slot.Module.{Module}
use Rattle.graph_walk.specs.Lists.{Text}

-- the first of two that is there
abbrev pub either_of : Option Parts → Option Parts → Option Parts
either_of None second = second
either_of (Some s) second = Some s

-- ---- modules and their types

-- where the types of a module stand, where that is resolved
abbrev pub types_specifier : Option TypesDependency → Option Parts
types_specifier None = None
types_specifier (Some t) = specifier_in t.dependency

-- where the types of a module stand, where that was resolved
abbrev pub resolved_types : Module → Option Parts
resolved_types m = types_specifier (module_types m)

-- where the types of a found module stand elsewhere, what stands there
abbrev pub preferring_types : ModuleGraph → Result (Option Module) ModuleError → Result (Option Module) ModuleError
preferring_types g (Err e) = Err e
preferring_types g (Ok None) = Ok None
preferring_types g (Ok (Some m)) = by_option (resolved_types m) (Ok (Some m)) (λ t. tried (slot_behind g t))

-- the module where a specifier leads, or its types, or the error in their place
abbrev pub tried_types : ModuleGraph → Parts → Result (Option Module) ModuleError
tried_types g s = preferring_types g (tried (slot_behind g s))

-- ---- where a dependency leads

-- where a specifier leads along redirects, where a module stands there
abbrev pub module_place : ModuleGraph → Parts → Option Parts
module_place g s = if is_some (module_in (slot_behind g s)) then Some (resolved g s) else None

-- where the types of a module lead, where a module stands there
abbrev pub types_place : ModuleGraph → Module → Option Parts
types_place g m = by_option (resolved_types m) None (λ t. module_place g t)

-- where a target leads, where a module stands there: with a wish for types at first where the types of that module do
abbrev pub target_place : ModuleGraph → Bool → Parts → Option Parts
target_place g types s = by_option (module_in (slot_behind g s)) None
    (λ m. either_of (if types then types_place g m else None) (Some (resolved g s)))

-- the target of a dependency's code or type, whichever is wished for, else the other
abbrev pub wished_target : Bool → Dependency → Option Parts
wished_target types d =
    if types then either_of (specifier_in d.maybe_type) (specifier_in d.maybe_code)
    else either_of (specifier_in d.maybe_code) (specifier_in d.maybe_type)

-- where a dependency leads: by types or by code, whichever is wished for
abbrev pub dependency_place : ModuleGraph → Bool → Dependency → Option Parts
dependency_place g types d = by_option (wished_target types d) None (λ s. target_place g types s)

-- ---- where a text of an import leads

-- where the dependency of this text leads
abbrev pub place_among : ModuleGraph → Bool → Text → List (Text × Dependency) → Option Parts
place_among g types text ds = by_option (lookup (bytes_eq text) ds) None (λ d. dependency_place g types d)

-- where a text of a module leads, where the module has dependencies
abbrev pub place_from_module : ModuleGraph → Bool → Text → Module → Option Parts
place_from_module g types text m = by_option (module_dependencies m) None (λ ds. place_among g types text ds)

-- by the configured imports of a referrer
abbrev pub place_from_imports : ModuleGraph → Bool → Text → Parts → Option Parts
place_from_imports g types text referrer = by_option (lookup (same_specifier referrer) g.imports) None (λ i. place_among g types text i.dependencies)

-- by the module where the referrer leads, else by the imports that are configured there
abbrev pub place_from : ModuleGraph → Bool → Text → Parts → Option Parts
place_from g types text referrer = by_option (module_in (slot_behind g referrer)) (place_from_imports g types text (resolved g referrer)) (λ m. place_from_module g types text m)
