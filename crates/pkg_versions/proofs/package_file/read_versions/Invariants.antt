use Rattle.std.proofs.Common.{◌≡◌, []}
use Rattle.json_documents.specs.Documents.{named}
use Rattle.pkg_versions.specs.RegistryFiles.{versions_from}
use Rattle.pkg_versions.proofs.package_file.read_versions.Given as goal

-- the versions so far and what is left lead to all
abbrev pub invariant-loop-key : goal.invariant-loop-key
invariant-loop-key l = versions_from l.found (named l.key-iterator) ≡ versions_from [] (named l.members.entries)
