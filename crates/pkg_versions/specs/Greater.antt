-- The greatest version so far, one version after another, and the classes in which the code looks for it.
use Rattle.std.specs.Prelude.{Bool, not, ◌&&◌, List, [], ◌∷◌, Option, Some, None, if◌then◌else◌}
use Rattle.std.specs.Ordering.{is_lt}
use Rattle.semver_npm.specs.Versions.{Ver, ver_cmp}
use Rattle.pkg_versions.specs.Choice.{Listed}
use Rattle.version_dates.specs.Sets.{has}
use Rattle.pkg_versions.specs.declared.resolver.Class.{Class}
use Rattle.pkg_versions.specs.declared.resolver.Class.TheVariants.{CachedUnyanked, Unyanked, Yanked}

-- the greater of a version and the greatest so far
abbrev pub greater : Option Ver → Ver → Option Ver
greater None v = Some v
greater (Some best) v = if is_lt (ver_cmp v best) then Some best else Some v

-- the greatest of the greatest so far and of more versions
unfoldable pub greatest_after : Option Ver → List Ver → Option Ver
greatest_after best [] = best
greatest_after best (v ∷ vs) = greatest_after (greater best v) vs

-- a listed version is of a class
abbrev pub is_of_class : List Ver → Class → Listed → Bool
is_of_class cached CachedUnyanked e = not e.1.yanked && has ver_cmp cached e.0
is_of_class cached Unyanked e = not e.1.yanked
is_of_class cached Yanked e = e.1.yanked
