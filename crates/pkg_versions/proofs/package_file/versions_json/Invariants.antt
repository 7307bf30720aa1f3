use Rattle.std.proofs.Common.{◌≡◌, map}
use Rattle.std.specs.List.{AllByRecursion}
use Rattle.serde_json.specs.Data.{no_members}
use Rattle.serde_json.specs.View.{members_view}
use Rattle.json_forms.specs.Rows.{members_from}
use Rattle.pkg_versions.specs.ReadBack.{IsReadBack}
use Rattle.pkg_versions.specs.RegistryFiles.{version_row}
use Rattle.pkg_versions.proofs.package_file.versions_json.Given as goal

-- the members so far and what is left lead to all; where what is left is read back, all is
abbrev pub invariant-loop-version : goal.invariant-loop-version
invariant-loop-version l = record {
  made : members_from (members_view l.members.entries) (map version_row l.version-iterator) ≡ members_from no_members (map version_row l.versions);
  read_back : AllByRecursion IsReadBack l.version-iterator → AllByRecursion IsReadBack l.versions;
}
