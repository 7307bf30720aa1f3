-- What a build over an input goes by: the sums with which its locker begins, and its flags.
use Rattle.std.specs.Prelude.{ℕ, List, fold, Option, Some, None, is_some, if◌then◌else◌, Bool}
use Rattle.url.specs.Parts.{Parts}
use Rattle.spec_base.specs.Places.{with_first}
use Rattle.spec_base.specs.Specifier.{specifier_text}
use Rattle.semver_npm.specs.declared.package.PackageNv.{PackageNv}
use Rattle.source_sums.specs.Manifests.{KnownManifests}
use Rattle.source_sums.specs.Sums.{KnownSums}
use Rattle.graph_turns.specs.Machine.Known.{Known}
use Rattle.graph_turns.specs.declared.flags.Flags.{Flags}
use Rattle.world_file.specs.declared.settings.Settings.{Settings}
use Rattle.world_file.specs.declared.input.Input.{Input}
use Rattle.std.specs.FinMap as finite

-- some sums, and those of a list where none stands at their specifiers; the first one of a specifier counts
abbrev pub sums_with : KnownSums → List (Parts × List ℕ) → KnownSums
sums_with sums es = fold (λ known e. with_first known (specifier_text e.0) e.1) sums es

-- those of a list
abbrev pub sums_of : List (Parts × List ℕ) → KnownSums
sums_of es = sums_with finite.empty es

-- those that the locker of an input knows, where there is one
abbrev pub locker_sums : Input → Option KnownSums
locker_sums input = if input.settings.locker then Some (sums_of input.world.remote_sums) else None

-- the sum of a manifest, where none stands at its version
abbrev pub with_first_manifest : KnownManifests → PackageNv → List ℕ → KnownManifests
with_first_manifest sums nv sum = if finite.contains_key sums nv then sums else finite.insert sums nv sum

-- some sums of manifests, and those of a list where none stands at their versions; the first one of a version counts
abbrev pub manifests_with : KnownManifests → List (PackageNv × List ℕ) → KnownManifests
manifests_with sums es = fold (λ known e. with_first_manifest known e.0 e.1) sums es

-- those that the locker of an input knows, where there is one
abbrev pub locker_manifests : Input → Option KnownManifests
locker_manifests input = if input.settings.locker then Some (manifests_with finite.empty input.world.package_sums) else None

-- the flags of a build by some settings, in which `jsr:` specifiers stand outside of the graph or not, and `npm:` specifiers wait for an npm
-- resolver or not
abbrev pub flags_by : Settings → Bool → Bool → Flags
flags_by settings passthrough resolves = record {
  is_dynamic = settings.is_dynamic;
  skip_dynamic_deps = settings.skip_dynamic_deps;
  bytes = settings.unstable_bytes_imports;
  css = settings.unstable_css_imports;
  config = settings.unstable_config_imports;
  passthrough_jsr = passthrough;
  resolves_npm = resolves;
  prefers_cached_jsr = settings.prefer_cached_jsr_versions;
}

-- those of an input
abbrev pub flags_in : Input → Flags
flags_in input = flags_by input.settings input.registry.passthrough_jsr (is_some input.npm)

-- what a build over an input goes by, to which no store is given
abbrev pub known_of : Input → Known
known_of input = record { sums = locker_sums input; manifests = locker_manifests input; store = None; flags = flags_in input }
