-- The modules and the errors of a graph, and how much it knows.
use Rattle.std.specs.Prelude.{ℕ, ◌+◌, List, [], ◌∷◌, length}
use Rattle.std.specs.FinMap as finite
use Rattle.graph_errors.specs.declared.errors.ModuleError.{ModuleError}
use Rattle.graph_core.specs.declared.graph.ModuleGraph.{ModuleGraph}
use Rattle.module_slots.specs.declared.slot.Module.{Module}
use Rattle.module_slots.specs.declared.slot.ModuleSlot.{ModuleSlot}
use Rattle.module_slots.specs.declared.slot.ModuleSlot.TheVariants.{Module as Stands, Err as Failed, Pending}
use Rattle.graph_walk.specs.Lists.{Text}

-- the module of a slot, before the rest
abbrev pub with_module : ModuleSlot → List Module → List Module
with_module (Stands m) rest = m ∷ rest
with_module (Failed e) rest = rest
with_module (Pending is_asset) rest = rest

-- the error of a slot, before the rest
abbrev pub with_error : ModuleSlot → List ModuleError → List ModuleError
with_error (Stands m) rest = rest
with_error (Failed e) rest = e ∷ rest
with_error (Pending is_asset) rest = rest

-- the modules of slots, in order
unfoldable pub modules_in : List (Text × ModuleSlot) → List Module
modules_in [] = []
modules_in (e ∷ es) = with_module e.1 (modules_in es)

-- the errors of slots, in order
unfoldable pub errors_in : List (Text × ModuleSlot) → List ModuleError
errors_in [] = []
errors_in (e ∷ es) = with_error e.1 (errors_in es)

-- the modules of a graph, in the order of their specifiers
abbrev pub modules_of : ModuleGraph → List Module
modules_of g = modules_in (finite.entries g.slots)

-- the errors that stand in the place of modules, in the order of their specifiers
abbrev pub errors_at : ModuleGraph → List ModuleError
errors_at g = errors_in (finite.entries g.slots)

-- slots, redirects and configured imports
abbrev pub known_count : ModuleGraph → ℕ
known_count g = finite.len g.slots + finite.len g.redirects + length g.imports
