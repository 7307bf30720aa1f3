-- The simples so far and those of the rest are those of all bytes.
use Rattle.std.proofs.Common.{◌≡◌, ◌-◌, length}
use Rattle.semver_npm.specs.Reader.{simples_from}
use Rattle.semver_npm.proofs.Loops.{with_simples}
use Rattle.semver_npm.proofs.reader.simples.Given as goal

abbrev pub invariant-loop : goal.invariant-loop
invariant-loop l = with_simples l.simples (simples_from (length l.bytes - l.counter) l.rest) ≡ simples_from (length l.bytes) l.bytes
