-- The limits that were made are those of the entries passed.
use Rattle.std.proofs.Common.{◌≡◌, List, ◌++◌, map, ℤ, String, Global}
use Rattle.spec_base.specs.Shown.{shown}
use Rattle.world_file.specs.WorldRegistry.{dated}
use Rattle.world_file.proofs.world_registry.limits.Given as goal

abbrev pub invariant-loop-key : goal.invariant-loop-key
invariant-loop-key l =
    (done : List (String Global × ℤ)) × (l.initial.key-iterator ≡ done ++ l.key-iterator) × (map dated l.found ≡ shown done)
