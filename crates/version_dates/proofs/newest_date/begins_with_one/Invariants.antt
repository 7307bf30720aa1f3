use Rattle.std.proofs.Common.{◌≡◌, drop, nat_eq}
use Rattle.std.specs.List.{list_any, starts_with}
use Rattle.version_dates.proofs.newest_date.begins_with_one.Given as goal

-- what is left decides
abbrev pub invariant-loop-prefix : goal.invariant-loop-prefix
invariant-loop-prefix l = list_any (starts_with nat_eq l.name) (drop l.prefix-index l.prefixes) ≡ list_any (starts_with nat_eq l.name) l.prefixes
