use Rattle.std.proofs.Common.{◌≡◌, [], fold}
use Rattle.json_documents.specs.Documents.{named}
use Rattle.pkg_versions.specs.Exports.{text_members}
use Rattle.registry_files.specs.VersionFiles.{with_export}
use Rattle.registry_files.proofs.version_reading.texts_among.Given as goal

-- the texts so far and what is left lead to all
abbrev pub invariant-loop-name : goal.invariant-loop-name
invariant-loop-name l = fold with_export l.found (text_members (named l.name-iterator)) ≡ fold with_export [] (text_members (named l.members.entries))
