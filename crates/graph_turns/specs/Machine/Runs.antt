-- The runs of a build: which one may begin once more, what serves the registry's files in it, and what it knows.
use Rattle.std.specs.Prelude.{ℕ, ◌==◌, ◌&&◌, not, Bool, true, false, List, fold, length, Option, Some, None, option_map, Result, Ok, Err, if◌then◌else◌}
use Rattle.std.specs.Option.{option_and_then}
use Rattle.url.specs.Parts.{Parts}
use Rattle.spec_base.specs.Options.{by_option}
use Rattle.spec_base.specs.Specifier.{specifier_text}
use Rattle.semver_npm.specs.declared.package.PackageNv.{PackageNv}
use Rattle.source_sums.specs.Manifests.{KnownManifests}
use Rattle.source_sums.specs.Sums.{KnownSums}
use Rattle.spec_base.specs.Places.{with_first}
use Rattle.metadata_store.specs.Store.{with_answer}
use Rattle.metadata_store.specs.declared.store.JsrMetadataStore.{JsrMetadataStore}
use Rattle.source_io.specs.declared.types.CacheSetting.{CacheSetting}
use Rattle.source_io.specs.declared.types.CacheSetting.TheVariants.{Use, Reload}
use Rattle.registry_files.specs.Kept.{Versions}
use Rattle.registry_files.specs.declared.kept_version.KeptVersion.{KeptVersion}
use Rattle.graph_errors.specs.declared.jsr_error.JsrLoadError.{JsrLoadError}
use Rattle.graph_core.specs.Graph.{new_graph}
use Rattle.graph_core.specs.declared.graph.ModuleGraph.{ModuleGraph}
use Rattle.graph_turns.specs.declared.run.Earlier.{Earlier}
use Rattle.graph_turns.specs.declared.run.Run.{Run}
use Rattle.graph_turns.specs.declared.run.Run.TheVariants.{Only, First, Due, Second}
use Rattle.graph_turns.specs.declared.starting.ResolvedStart.{ResolvedStart}
use Rattle.graph_turns.specs.declared.state.State.{State}
use Rattle.graph_turns.specs.Promise.Told.{Told}
use Rattle.graph_turns.specs.Machine.Entering.{first_state, resting_state}
use Rattle.graph_turns.specs.Machine.Known.{Known}
use Rattle.graph_turns.specs.Machine.Starting.{start_entered}
use Rattle.std.specs.FinMap as finite

-- ---- what a first run found

-- the sum of a version file that was read; the first one counts
abbrev pub with_read : KnownManifests → PackageNv × Result KeptVersion JsrLoadError → KnownManifests
with_read found (nv, Ok v) = with_answer found nv v.file.checksum
with_read found (nv, Err e) = found

-- the sums of the version files that were read
abbrev pub manifests_read : Versions → KnownManifests
manifests_read files = fold with_read finite.empty (finite.entries files)

abbrev pub found_by : State → Earlier
found_by s = record { sums = s.sums; manifests = manifests_read s.files }

-- ---- what a run knows

abbrev pub is_second : Run → Bool
is_second Only = false
is_second (First start) = false
is_second (Due start) = false
is_second (Second e) = true

-- the sums of version files that the run before read
abbrev pub earlier_manifests : Run → Option KnownManifests
earlier_manifests Only = None
earlier_manifests (First start) = None
earlier_manifests (Due start) = None
earlier_manifests (Second e) = Some e.manifests

-- the sums of sources that it found
abbrev pub earlier_sums : Run → Option KnownSums
earlier_sums Only = None
earlier_sums (First start) = None
earlier_sums (Due start) = None
earlier_sums (Second e) = e.sums

-- that of one source
abbrev pub earlier_sum : Run → Parts → Option (List ℕ)
earlier_sum Only s = None
earlier_sum (First start) s = None
earlier_sum (Due start) s = None
earlier_sum (Second e) s = option_and_then (λ sums. finite.get sums (specifier_text s)) e.sums

-- some sums, and behind them others of texts that have none
abbrev pub joined_sums : KnownSums → KnownSums → KnownSums
joined_sums sums others = fold (λ m e. with_first m e.0 e.1) sums (finite.entries others)

abbrev pub joined_manifests : KnownManifests → KnownManifests → KnownManifests
joined_manifests sums others = fold (λ m e. with_answer m e.0 e.1) sums (finite.entries others)

-- what is known in a run: in a second one, where there is a locker, as if that knew what the first run found too
abbrev pub sums_for : Option KnownSums → Run → Option KnownSums
sums_for sums Only = sums
sums_for sums (First start) = sums
sums_for sums (Due start) = sums
sums_for sums (Second e) = option_map (λ own. by_option e.sums own (joined_sums own)) sums

abbrev pub manifests_for : Option KnownManifests → Run → Option KnownManifests
manifests_for sums Only = sums
manifests_for sums (First start) = sums
manifests_for sums (Due start) = sums
manifests_for sums (Second e) = option_map (λ own. joined_manifests own e.manifests) sums

-- a given store doesn't count in a second run
abbrev pub store_for : Option JsrMetadataStore → Run → Option JsrMetadataStore
store_for store Only = store
store_for store (First start) = store
store_for store (Due start) = store
store_for store (Second e) = None

-- what a build knows in a run
abbrev pub known_for : Known → Run → Known
known_for known run = record known { sums = sums_for known.sums run; manifests = manifests_for known.manifests run; store = store_for known.store run }

-- the setting that serves the registry's files in a run
abbrev pub setting_for : Run → CacheSetting
setting_for Only = Use
setting_for (First start) = Use
setting_for (Due start) = Use
setting_for (Second e) = Reload

-- a run asks for the file of a package once more where no version meets a requirement: one that can't begin once more, and isn't the second
abbrev pub asks_packages_again : Run → Bool
asks_packages_again Only = true
asks_packages_again (First start) = false
asks_packages_again (Due start) = false
asks_packages_again (Second e) = false

-- what is told to a run
abbrev pub told_for : Told → Run → Told
told_for told run = record told {
  known = known_for told.known run;
  metadata = setting_for run;
  asks_again = asks_packages_again run;
}

-- what is told to a run that may begin once more
abbrev pub told_first : Told → Told
told_first told = record told { metadata = Use; asks_again = false }

-- ---- beginning once more

abbrev pub is_due : Run → Bool
is_due Only = false
is_due (First start) = false
is_due (Due start) = true
is_due (Second e) = false

-- a run is to begin once more, where it may
abbrev pub wanted_again : Run → Run
wanted_again Only = Only
wanted_again (First start) = Due start
wanted_again (Due start) = Due start
wanted_again (Second e) = Second e

-- a build of what is given over a graph without roots may begin once more
abbrev pub begins_anew : {I : Type 0} → ModuleGraph → List Parts → List I → Bool
begins_anew g roots imports = length g.roots == 0 && not (length roots == 0 && length imports == 0)

-- what a build begins with has entered
abbrev pub run_begun : State → ResolvedStart → State
run_begun s start = start_entered (if begins_anew s.graph start.roots start.imports then record s { run = First start } else s) start

-- the state in which turns over a graph begin
abbrev pub begun_over : Known → ModuleGraph → ResolvedStart → State
begun_over known g start = run_begun (resting_state known g) start

-- all is gone but how the build began, and the sums that it found
abbrev pub cleared : State → State
cleared s = record (first_state false s.flags (new_graph s.graph.kind)) { sums = s.sums; run = Second (found_by s) }

abbrev pub begun_again : State → Run → State
begun_again s Only = s
begun_again s (First start) = s
begun_again s (Due start) = start_entered (cleared s) start
begun_again s (Second e) = s

-- a build begins once more over the empty graph, where that is due
abbrev pub restarted : State → State
restarted s = begun_again s s.run
