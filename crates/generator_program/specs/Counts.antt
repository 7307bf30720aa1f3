-- What is counted of a graph.
use Rattle.std.specs.Prelude.{ℕ, ◌+◌, List, length, fold, Option, Some, None}
use Rattle.std.specs.FinMap as finite
use Rattle.spec_base.specs.Options.{by_option}
use Rattle.graph_core.specs.Lookup.{module_in}
use Rattle.module_slots.specs.Modules.{module_dependencies}
use Rattle.graph_core.specs.declared.graph.ModuleGraph.{ModuleGraph}
use Rattle.module_slots.specs.declared.slot.Module.{Module}
use Rattle.module_slots.specs.declared.slot.ModuleSlot.{ModuleSlot}
use Rattle.generator_program.specs.declared.counts.Counts.{Counts}

-- nothing
abbrev pub none : Counts
none = record { modules = 0; edges = 0 }

-- how many dependencies a module has
abbrev pub dependency_count : Module → ℕ
dependency_count m = by_option (module_dependencies m) 0 length

-- with a module, and with what stands in a slot
abbrev pub with_module : Counts → Module → Counts
with_module counts m = record { modules = counts.modules + 1; edges = counts.edges + dependency_count m }

abbrev pub with_slot : Counts → ModuleSlot → Counts
with_slot counts slot = by_option (module_in (Some slot)) counts (with_module counts)

-- with those of a list of slots
abbrev pub with_slots : Counts → List (List ℕ × ModuleSlot) → Counts
with_slots counts slots = fold (λ counted e. with_slot counted e.1) counts slots

-- the modules of a graph, and their dependencies
abbrev pub counts_of : ModuleGraph → Counts
counts_of g = with_slots none (finite.entries g.slots)
