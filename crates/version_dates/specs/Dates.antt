-- Dates: the limits that a version's date must be below, and whom they bind.
use Rattle.std.specs.Prelude.{ℕ, ℤ, int_lt, Bool, true, ◌&&◌, ◌||◌, List, fold, length, nat_eq, nat_lt, Option, Some, None, if◌then◌else◌}
use Rattle.std.specs.List.{list_any, starts_with}
use Rattle.spec_base.specs.Options.{by_option}
use Rattle.spec_base.specs.Shown.{text_cmp}
use Rattle.version_dates.specs.Sets.{has}
use Rattle.version_dates.specs.declared.newest_date.NewestDependencyDate.{NewestDependencyDate}
use Rattle.version_dates.specs.declared.newest_date.NewestDependencyDateOptions.{NewestDependencyDateOptions}
use Rattle.version_dates.specs.declared.newest_date.PrefixDate.{PrefixDate}

-- a date is strictly below the limit
abbrev pub is_below : NewestDependencyDate → ℤ → Bool
is_below limit date = int_lt date limit.0

-- a date fits where it is below the limit; no date fits
abbrev pub is_in_time : NewestDependencyDate → Option ℤ → Bool
is_in_time limit None = true
is_in_time limit (Some date) = is_below limit date

-- a name is one of the excluded ones, or begins with an excluded prefix
abbrev pub is_excluded : NewestDependencyDateOptions → List ℕ → Bool
is_excluded options name =
    has text_cmp options.exclude_jsr_pkgs name || list_any (starts_with nat_eq name) options.exclude_jsr_pkg_prefixes

-- a prefix is longer than the one that was found, where one was
abbrev pub is_longer : Option PrefixDate → List ℕ → Bool
is_longer None prefix = true
is_longer (Some found) prefix = nat_lt (length found.prefix) (length prefix)

-- the longer one of what was found and the next one, where that begins the name
abbrev pub with_longer : List ℕ → Option PrefixDate → PrefixDate → Option PrefixDate
with_longer name found next = if starts_with nat_eq name next.prefix && is_longer found next.prefix then Some next else found

-- the longest prefix that begins a name, the first of equal ones
abbrev pub longest_prefix : List ℕ → List PrefixDate → Option PrefixDate
longest_prefix name dates = fold (with_longer name) None dates

-- the date limit of a package that isn't excluded: that of the longest prefix, else the one that binds each package
abbrev pub date_for : NewestDependencyDateOptions → List ℕ → Option NewestDependencyDate
date_for options name = by_option (longest_prefix name options.prefix_dates) options.date (λ longest. Some longest.date)

-- the date limit of a package
abbrev pub limit_of : NewestDependencyDateOptions → List ℕ → Option NewestDependencyDate
limit_of options name = if is_excluded options name then None else date_for options name
