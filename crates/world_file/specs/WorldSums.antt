-- What a world file says of sums: whether the loader tests sources by them, and those that a locker knows.
use Rattle.std.specs.Prelude.{[], ◌∷◌, false, codes, unwrap_or, Some}
use Rattle.json_forms.specs.Form.{Form, text, flag, given, ◌>>=◌}
use Rattle.json_forms.specs.Keyed.{keyed_or_empty}
use Rattle.json_forms.specs.Member.{has_names, optional, with_default}
use Rattle.world_file.specs.WorldPackages.{packages_of}
use Rattle.world_file.specs.declared.world_sums.LockerSums.{LockerSums}
use Rattle.world_file.specs.declared.world_sums.WorldSums.{WorldSums}

-- the sums that a locker knows: of sources from the network, and of packages' manifests
abbrev pub locker_sums : Form LockerSums
locker_sums d = do
  known ← given (has_names (codes "remote" ∷ codes "packages" ∷ []) d)
  remote ← keyed_or_empty text (codes "remote") d
  packages ← packages_of d
  Some (record { remote = remote; packages = packages })

-- whether sums are tested, and those of the locker, where there is one
abbrev pub sums_of : Form WorldSums
sums_of d = do
  verifies ← with_default false flag (codes "verify") d
  locker ← optional locker_sums (codes "locker") d
  Some (record { verifies = verifies; locker = locker })

-- no sum is known
abbrev pub no_sums : LockerSums
no_sums = record { remote = []; packages = [] }

-- the sums that are known, none where there is no locker
abbrev pub known_in : WorldSums → LockerSums
known_in sums = unwrap_or sums.locker no_sums
