use Rattle.std.proofs.Common.{◌≡◌, drop}
use Rattle.std.specs.List.{list_any}
use Rattle.pkg_records.specs.Kept.{same_nv}
use Rattle.pkg_records.proofs.version_lists.has.Given as goal

-- what is left decides
abbrev pub invariant-loop-known : goal.invariant-loop-known
invariant-loop-known l = list_any (same_nv l.nv) (drop l.known-index l.list) ≡ list_any (same_nv l.nv) l.list
