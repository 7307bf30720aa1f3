-- What is read so far, and what is left to read, are the whole.
use Rattle.std.proofs.Common.{◌≡◌, ◌++◌, option_map}
use Rattle.spec_base.specs.Shown.{shown}
use Rattle.world_file.specs.WorldPackages.{package_sums}
use Rattle.world_file.proofs.world_packages.read_sums.Given as goal

abbrev pub invariant-loop-text : goal.invariant-loop-text
invariant-loop-text l = package_sums l.found ≡ option_map (λ sums. l.sums ++ sums) (package_sums (shown l.text-iterator))
