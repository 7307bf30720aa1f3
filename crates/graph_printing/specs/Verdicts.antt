-- Whether a graph is valid, as a truth value.
use Rattle.std.specs.Prelude.{◌≡◌, Bool, true, false, Result, Ok, Err}
use Rattle.graph_errors.specs.declared.errors.ModuleGraphError.{ModuleGraphError}

-- the truth value says whether there is an error
abbrev pub IsVerdict : Result (Unit {0}) ModuleGraphError → Bool → Type 0
IsVerdict found true = found ≡ Ok tt
IsVerdict found false = (e : ModuleGraphError) × (found ≡ Err e)
