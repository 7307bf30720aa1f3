use Rattle.std.proofs.Common.{◌≡◌, []}
use Rattle.json_documents.specs.Documents.{named}
use Rattle.registry_files.specs.VersionFiles.{infos_from}
use Rattle.registry_files.proofs.version_reading.infos_among.Given as goal

-- the infos so far and what is left lead to all
abbrev pub invariant-loop-file : goal.invariant-loop-file
invariant-loop-file l = infos_from l.infos (named l.file-iterator) ≡ infos_from [] (named l.members.entries)
