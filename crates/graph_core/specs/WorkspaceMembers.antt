-- The members of a workspace as versions of packages.
use Rattle.std.specs.Prelude.{[], Option, Some, None}
use Rattle.semver_npm.specs.Versions.{Ver}
use Rattle.semver_npm.specs.declared.package.PackageNv.{PackageNv}
use Rattle.graph_core.specs.declared.workspace_member.WorkspaceMember.{WorkspaceMember}

-- a version, or 0.0.0 where there is none
abbrev pub version_or_zero : Option Ver → Ver
version_or_zero None = (0, 0, 0, [], [])
version_or_zero (Some version) = version

-- the version of a package that a member is
abbrev pub nv_of_member : WorkspaceMember → PackageNv
nv_of_member member = record { name = member.name; version = version_or_zero member.version }
