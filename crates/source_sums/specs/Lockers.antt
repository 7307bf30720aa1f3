-- Lockers in memory.
use Rattle.std.specs.FinMap as finite
use Rattle.source_sums.specs.declared.hash_map_locker.HashMapLocker.{HashMapLocker}

-- no sum is known
abbrev pub empty_locker : HashMapLocker
empty_locker = record { remote = finite.empty; manifests = finite.empty }
