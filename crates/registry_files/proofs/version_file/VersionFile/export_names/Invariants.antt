use Rattle.std.proofs.Common.{◌≡◌, ◌++◌, map}
use Rattle.spec_base.specs.Shown.{shown}
use Rattle.registry_files.specs.VersionFiles.{export_names}
use Rattle.registry_files.proofs.version_file.VersionFile.export_names.Given as goal

-- the names so far and those of what is left are all
abbrev pub invariant-loop-name : goal.invariant-loop-name
invariant-loop-name l = l.names ++ map (λ e. e.0) (shown l.name-iterator) ≡ export_names l.self
