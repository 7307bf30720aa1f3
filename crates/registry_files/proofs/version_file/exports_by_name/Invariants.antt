use Rattle.std.proofs.Common.{◌≡◌, [], fold}
use Rattle.pkg_versions.specs.Exports.{exports_of}
use Rattle.pkg_versions.specs.FileViews.{file_of}
use Rattle.registry_files.specs.VersionFiles.{with_export}
use Rattle.registry_files.proofs.version_file.exports_by_name.Given as goal

-- the exports so far and what is left lead to all
abbrev pub invariant-loop-name : goal.invariant-loop-name
invariant-loop-name l = fold with_export l.exports l.name-iterator ≡ fold with_export [] (exports_of (file_of l.info).exports)
