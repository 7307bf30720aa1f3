-- What is left of the modules and the errors of a graph.
use Rattle.std.specs.Prelude.{List}
use Rattle.std.specs.Borrow.{Bor}
use Rattle.spec_base.specs.Specifier.{by_text}
use Rattle.graph_errors.specs.declared.errors.ModuleError.{ModuleError}
use Rattle.module_slots.specs.declared.slot.Module.{Module}
use Rattle.graph_walk.specs.Members.{modules_in, errors_in}
use Rattle.graph_walk.specs.declared.members.Modules.{Modules}
use Rattle.graph_walk.specs.declared.members.ModuleErrors.{ModuleErrors}

-- the modules that are left
abbrev pub modules_left : Modules → List Module
modules_left m = modules_in (by_text m.slots)

-- the errors that are left
abbrev pub errors_left_of : ModuleErrors → List ModuleError
errors_left_of e = errors_in (by_text e.slots)

-- the module that is lent
abbrev pub lent_module : Bor Module → Module
lent_module m = m.now

-- the error that is lent
abbrev pub lent_error : Bor ModuleError → ModuleError
lent_error e = e.now
