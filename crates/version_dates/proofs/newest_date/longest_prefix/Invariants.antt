use Rattle.std.proofs.Common.{◌≡◌, drop, fold, None, option_copied}
use Rattle.version_dates.specs.Dates.{with_longer}
use Rattle.version_dates.proofs.newest_date.longest_prefix.Given as goal

-- what was found and what is left decide
abbrev pub invariant-loop-date : goal.invariant-loop-date
invariant-loop-date l = fold (with_longer l.name) None l.dates ≡ fold (with_longer l.name) (option_copied l.found) (drop l.date-index l.dates)
