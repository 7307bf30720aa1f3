-- All that a graph knows, in the order of its maps.
use Rattle.std.specs.Prelude.{List, [], ◌∷◌, ◌++◌, Option, Some, None, Result, Ok, Err}
use Rattle.std.specs.FinMap as finite
use Rattle.url.specs.Parts.{Parts}
use Rattle.graph_core.specs.Graph.{slot_at}
use Rattle.graph_errors.specs.declared.errors.ModuleError.{ModuleError}
use Rattle.graph_core.specs.declared.graph.ModuleGraph.{ModuleGraph}
use Rattle.module_slots.specs.declared.slot.Module.{Module}
use Rattle.module_slots.specs.declared.slot.ModuleSlot.{ModuleSlot}
use Rattle.module_slots.specs.declared.slot.ModuleSlot.TheVariants.{Module as Stands, Err as Failed, Pending}
use Rattle.graph_walk.specs.Lists.{Text}

-- the module of a slot, or its error; none while a load is under way
abbrev pub stands_in : Option ModuleSlot → Option (Result Module ModuleError)
stands_in None = None
stands_in (Some (Stands m)) = Some (Ok m)
stands_in (Some (Failed e)) = Some (Err e)
stands_in (Some (Pending is_asset)) = None

-- an entry for a specifier whose slot stands, before the rest
abbrev pub with_known : Text → Option (Result Module ModuleError) → List (Text × Result Module ModuleError) → List (Text × Result Module ModuleError)
with_known s None rest = rest
with_known s (Some r) rest = (s, r) ∷ rest

-- the modules and errors of slots, with their specifiers
unfoldable pub known_slots : List (Text × ModuleSlot) → List (Text × Result Module ModuleError)
known_slots [] = []
known_slots (e ∷ es) = with_known e.0 (stands_in (Some e.1)) (known_slots es)

-- the modules and errors that redirected specifiers lead to
unfoldable pub known_redirects : ModuleGraph → List (Text × Parts) → List (Text × Result Module ModuleError)
known_redirects g [] = []
known_redirects g (e ∷ es) = with_known e.0 (stands_in (slot_at g e.1)) (known_redirects g es)

-- all specifiers with the module or error that they lead to: slots, then redirects
abbrev pub known : ModuleGraph → List (Text × Result Module ModuleError)
known g = known_slots (finite.entries g.slots) ++ known_redirects g (finite.entries g.redirects)
