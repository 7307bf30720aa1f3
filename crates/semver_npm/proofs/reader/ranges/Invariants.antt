-- The ranges so far and those of the rest are those of the text.
use Rattle.std.proofs.Common.{◌≡◌, ◌-◌, length}
use Rattle.semver_npm.specs.Reader.{ranges_from}
use Rattle.semver_npm.proofs.Loops.{with_ranges}
use Rattle.semver_npm.proofs.reader.ranges.Given as goal

abbrev pub invariant-loop : goal.invariant-loop
invariant-loop l = with_ranges l.ranges (ranges_from (length l.text - l.counter) l.rest) ≡ ranges_from (length l.text) l.text
