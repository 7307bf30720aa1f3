-- What is left of all that a graph knows.
use Rattle.std.specs.Prelude.{List, ◌++◌, Option, Some, None, Result, Ok, Err}
use Rattle.std.specs.Borrow.{Bor}
use Rattle.url.specs.Parts.{Parts}
use Rattle.spec_base.specs.Specifier.{specifier_text, by_text}
use Rattle.graph_errors.specs.declared.errors.ModuleError.{ModuleError}
use Rattle.module_slots.specs.declared.slot.Module.{Module}
use Rattle.graph_walk.specs.Known.{known_slots, known_redirects}
use Rattle.graph_walk.specs.Lists.{Text}
use Rattle.graph_walk.specs.declared.specifiers.Specifiers.{Specifiers}

-- what is left of a list of specifiers
abbrev pub left_of : Specifiers → List (Text × Result Module ModuleError)
left_of s = known_slots (by_text s.slots) ++ known_redirects s.graph.now (by_text s.redirects)

-- the module or error that a lent one shows
abbrev pub lent_result : Result (Bor Module) (Bor ModuleError) → Result Module ModuleError
lent_result (Ok m) = Ok m.now
lent_result (Err e) = Err e.now

-- the same with its specifier's text
abbrev pub lent_pair : Bor Parts × Result (Bor Module) (Bor ModuleError) → Text × Result Module ModuleError
lent_pair p = (specifier_text p.0.now, lent_result p.1)

-- the same where there is one
abbrev pub lent_option : Option (Result (Bor Module) (Bor ModuleError)) → Option (Result Module ModuleError)
lent_option None = None
lent_option (Some r) = Some (lent_result r)
