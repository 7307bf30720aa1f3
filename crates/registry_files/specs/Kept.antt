-- The files of versions that a build keeps.
use Rattle.std.specs.Prelude.{ℕ, List, [], option_and_then, Option, Some, None, Result, Ok, Err, if◌then◌else◌}
use Rattle.std.specs.FinMap as finite
use Rattle.std.specs.Result.{result_ok}
use Rattle.url.specs.Parts.{Parts}
use Rattle.spec_base.specs.Options.{by_option}
use Rattle.semver_npm.specs.Orders.{nv_cmp}
use Rattle.semver_npm.specs.declared.package.PackageNv.{PackageNv}
use Rattle.graph_errors.specs.declared.jsr_error.JsrLoadError.{JsrLoadError}
use Rattle.registry_urls.specs.InPackage.{is_in, sub_path_in}
use Rattle.registry_files.specs.declared.kept_version.KeptVersion.{KeptVersion}

-- the sub path of a specifier in a version; empty where it isn't in it
abbrev pub path_at : Parts → Parts → List ℕ
path_at url s = by_option (sub_path_in url s) [] (λ path. path)

-- what was answered about version files: what they say, or the error that comes of it
abbrev pub Versions : Type 0
Versions = finite.FinMap nv_cmp (Result KeptVersion JsrLoadError)

-- the file of a version that was read
abbrev pub read_of : Option (Result KeptVersion JsrLoadError) → Option KeptVersion
read_of None = None
read_of (Some (Ok v)) = Some v
read_of (Some (Err e)) = None

-- a version in which a specifier is
abbrev pub holding : Parts → Option KeptVersion → Option KeptVersion
holding s None = None
holding s (Some v) = if is_in v.url s then Some v else None

-- what is known of the file of each version, where anything is
abbrev pub FilesAt : Type 0
FilesAt = PackageNv → Option (Result KeptVersion JsrLoadError)

-- the version of a load, where its file was read and the specifier is in it
abbrev pub held_in : FilesAt → Parts → Option PackageNv → Option KeptVersion
held_in files s None = None
held_in files s (Some nv) = holding s (read_of (files nv))
