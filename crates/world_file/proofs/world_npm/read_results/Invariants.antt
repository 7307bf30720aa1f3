-- What is read so far, and what is left to read, are the whole.
use Rattle.std.proofs.Common.{◌≡◌, ◌++◌, option_map}
use Rattle.spec_base.specs.Shown.{shown}
use Rattle.world_file.specs.WorldNpm.{package_results}
use Rattle.world_file.proofs.world_npm.read_results.Given as goal

abbrev pub invariant-loop-text : goal.invariant-loop-text
invariant-loop-text l = package_results l.found ≡ option_map (λ results. l.results ++ results) (package_results (shown l.text-iterator))
