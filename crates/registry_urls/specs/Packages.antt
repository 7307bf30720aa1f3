-- Where the files and the versions of packages lie in a registry.
use Rattle.std.specs.Prelude.{ℕ, List, ◌++◌, codes}
use Rattle.semver.specs.Identifiers.{parts_text}
use Rattle.semver_npm.specs.declared.package.PackageNv.{PackageNv}
use Rattle.url.specs.Parts.{Parts}
use Rattle.registry_urls.specs.Registry.{url_in}

-- `name/version/`, where the modules of a version lie
abbrev pub package_path : PackageNv → List ℕ
package_path nv = nv.name ++ codes "/" ++ parts_text nv.version ++ codes "/"

-- `name/meta.json`, the file of a package
abbrev pub package_file_path : List ℕ → List ℕ
package_file_path name = name ++ codes "/meta.json"

-- `name/version_meta.json`, the file of a version
abbrev pub version_file_path : PackageNv → List ℕ
version_file_path nv = nv.name ++ codes "/" ++ parts_text nv.version ++ codes "_meta.json"

-- the URL of a version of a package
abbrev pub package_url : Parts → PackageNv → Parts
package_url registry nv = url_in registry (package_path nv)

-- the URL of the file of a package
abbrev pub package_file_url : Parts → List ℕ → Parts
package_file_url registry name = url_in registry (package_file_path name)

-- the URL of the file of a version
abbrev pub version_file_url : Parts → PackageNv → Parts
version_file_url registry nv = url_in registry (version_file_path nv)
