-- What was answered about the files of versions.
use Rattle.std.specs.Prelude.{Result, Ok, Err}
use Rattle.semver_npm.specs.declared.package.PackageNv.{PackageNv}
use Rattle.metadata_store.specs.Store.{with_answer}
use Rattle.pkg_records.specs.Kept.{with_package}
use Rattle.graph_errors.specs.declared.jsr_error.JsrLoadError.{JsrLoadError}
use Rattle.registry_files.specs.declared.kept_version.KeptVersion.{KeptVersion}
use Rattle.graph_core.specs.declared.graph.ModuleGraph.{ModuleGraph}
use Rattle.graph_turns.specs.declared.state.State.{State}

-- a graph knows a version whose file was read
abbrev pub noted : ModuleGraph → Result KeptVersion JsrLoadError → ModuleGraph
noted g (Ok v) = record g { packages = with_package g.packages v.nv }
noted g (Err e) = g

-- what was answered about the file of a version is kept
abbrev pub file_kept : State → PackageNv → Result KeptVersion JsrLoadError → State
file_kept s nv kept = record s { graph = noted s.graph kept; files = with_answer s.files nv kept }
