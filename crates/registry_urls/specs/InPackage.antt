-- What lies in a version of a package.
use Rattle.std.specs.Prelude.{ℕ, ◌-◌, Bool, List, take, length, nat_eq, codes, Option, is_some, if◌then◌else◌}
use Rattle.std.specs.List.{ends_with}
use Rattle.url.specs.Parts.{Parts, serialize}
use Rattle.registry_urls.specs.Prefix.{after_prefix}

-- a text without the slash at its end, where one stands there
abbrev pub without_end_slash : List ℕ → List ℕ
without_end_slash text = if ends_with nat_eq text (codes "/") then take (length text - 1) text else text

-- the text of a package's URL without the slash at its end
abbrev pub package_root : Parts → List ℕ
package_root package_url = without_end_slash (serialize package_url)

-- the sub path of a specifier in a package: its text begins with the package's root, and the rest is the sub path
abbrev pub sub_path_in : Parts → Parts → Option (List ℕ)
sub_path_in package_url specifier = after_prefix (package_root package_url) (serialize specifier)

-- whether a specifier is in a package
abbrev pub is_in : Parts → Parts → Bool
is_in package_url specifier = is_some (sub_path_in package_url specifier)
