use Rattle.std.proofs.Common.{◌≡◌, None, map, option_copied}
use Rattle.std.specs.List.{filter}
use Rattle.pkg_versions.specs.Choice.{is_match}
use Rattle.pkg_versions.specs.Greater.{greatest_after}
use Rattle.pkg_versions.proofs.resolver.greatest_match.Given as goal

-- the greatest match so far
abbrev pub invariant-loop-version : goal.invariant-loop-version
invariant-loop-version g l = option_copied l.best ≡ greatest_after None (filter (is_match l.req l.all_pre) (map (λ v. v.now) l.yielded))
