-- What is left decides.
use Rattle.std.proofs.Common.{◌≡◌}
use Rattle.std.specs.List.{list_all}
use Rattle.spec_base.specs.Shown.{shown}
use Rattle.world_answers.specs.WorldModules.{is_lower_case}
use Rattle.world_answers.proofs.world_modules.are_lower_case.Given as goal

abbrev pub invariant-loop-name : goal.invariant-loop-name
invariant-loop-name l = list_all (λ h. is_lower_case h.0) l.headers ≡ list_all (λ h. is_lower_case h.0) (shown l.name-iterator)
