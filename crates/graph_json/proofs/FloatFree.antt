-- What the packages of a graph print has no float, so that its text is settled.
use Rattle.std.proofs.Common.{List, [], ◌∷◌, map, Bool, true, false, None, Some, if◌then◌else◌, length, ◌==◌, refl}
use Rattle.json_forms.specs.Rows.{object_of, IsFree, AllFree}
use Rattle.json_forms.proofs.NoFloats.{object_no_float}
use Rattle.semver_npm.specs.declared.package.PackageNv.{PackageNv}
use Rattle.semver_npm.specs.declared.package.PackageReq.{PackageReq}
use Rattle.graph_json.specs.GraphJson.{package_row, packages_json}

packages_free : (es : List (PackageReq × PackageNv)) → AllFree (map package_row es)
packages_free [] = tt
packages_free (e ∷ es) = (refl, packages_free es)

mappings_free : (none : Bool) (es : List (PackageReq × PackageNv)) → IsFree (if none then None else Some (object_of (map package_row es)))
mappings_free true es = tt
mappings_free false es = object_no_float (map package_row es) (packages_free es)

pub package_rows_free : (es : List (PackageReq × PackageNv)) → IsFree (packages_json es)
package_rows_free es = mappings_free (length es == 0) es
