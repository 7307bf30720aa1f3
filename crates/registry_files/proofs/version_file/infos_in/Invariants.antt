use Rattle.std.proofs.Common.{◌≡◌, []}
use Rattle.serde_json.specs.View.{members_view}
use Rattle.registry_files.specs.VersionFiles.{infos_from}
use Rattle.registry_files.proofs.version_file.infos_in.Given as goal

-- the infos so far and what is left lead to all
abbrev pub invariant-loop-file : goal.invariant-loop-file
invariant-loop-file l = infos_from l.infos (members_view l.file-iterator) ≡ infos_from [] (members_view l.members.entries)
