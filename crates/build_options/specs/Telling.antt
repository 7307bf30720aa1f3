-- What the objects in the options of a build tell, and what it goes by.
use Rattle.version_dates.specs.declared.newest_date.NewestDependencyDateOptions.{NewestDependencyDateOptions}
use Rattle.std.specs.Prelude.{◌≡◌, Bool, Option, Some, None, is_some}
use Rattle.source_sums.specs.Manifests.{KnownManifests}
use Rattle.source_sums.specs.Sums.{KnownSums}
use Rattle.registry_urls.specs.Meaning.{RegistryMeaning}
use Rattle.source_io.specs.Resolvers.{ResolverMeaning}
use Rattle.source_io.specs.declared.types.World.{World}
use Rattle.graph_dependencies.specs.declared.graph_kind.GraphKind.{GraphKind}
use Rattle.module_info.specs.Infos.{Infos}
use Rattle.slot_making.specs.Made.{Making, Paths, told_making}
use Rattle.import_records.specs.Target.{Resolving, told_resolving}
use Rattle.npm_resolver.specs.declared.types.NpmTable.{NpmTable}
use Rattle.graph_turns.specs.Machine.Known.{Known}
use Rattle.graph_core.specs.Npm.{npm_of}
use Rattle.graph_turns.specs.Machine.Sums.{known_by}
use Rattle.graph_turns.specs.Promise.Told.{Told}
use Rattle.graph_turns.specs.declared.flags.Flags.{Flags}
use Rattle.build_options.specs.declared.options.BuildOptions.{BuildOptions}

-- what the objects in the options of a build tell, each where it does
pub record Telling : Type 0 where
  pub infos : Option Infos
  pub paths : Paths
  pub resolving : Option Resolving
  pub registry : RegistryMeaning
  pub newest : NewestDependencyDateOptions

-- what some options tell
abbrev pub telling_of : {S L T U A R N C Q : Type 0} → (A → Option Infos) → (T → Paths) → (U → RegistryMeaning) → (R → Bool) → (R → ResolverMeaning) → BuildOptions S L T U A R N C Q → Telling
telling_of infos paths registry is_told meaning options = record {
  infos = infos options.module_analyzer.now;
  paths = paths options.file_system.now;
  resolving = told_resolving (registry options.jsr_url_provider.now).nv_of is_told meaning options.resolver;
  registry = registry options.jsr_url_provider.now;
  newest = options.jsr_version_resolver.now.newest_dependency_date_options;
}

-- the table that the npm resolver in some options answers by, where it tells one; without a resolver all is resolved
abbrev pub npm_in : {S L T U A R N C Q : Type 0} → (N → Option NpmTable) → BuildOptions S L T U A R N C Q → Option NpmTable
npm_in table options = npm_of table options.npm_resolver

-- the sums that the locker in some options knows, where one is given
abbrev pub sums_in : {S L T U A R N C Q : Type 0} → (L → KnownSums) → BuildOptions S L T U A R N C Q → Option KnownSums
sums_in remote options = known_by remote options.locker

-- the flags in some options
abbrev pub flags_of : {S L T U A R N C Q : Type 0} → BuildOptions S L T U A R N C Q → Flags
flags_of options = record {
  is_dynamic = options.is_dynamic;
  skip_dynamic_deps = options.skip_dynamic_deps;
  bytes = options.unstable_bytes_imports;
  css = options.unstable_css_imports;
  config = options.unstable_config_imports;
  passthrough_jsr = options.passthrough_jsr_specifiers;
  resolves_npm = is_some options.npm_resolver;
  prefers_cached_jsr = options.prefer_cached_jsr_versions;
}

-- the sums of manifests that it knows
abbrev pub manifests_in : {S L T U A R N C Q : Type 0} → (L → KnownManifests) → BuildOptions S L T U A R N C Q → Option KnownManifests
manifests_in manifests options = known_by manifests options.locker

-- what a build with some options goes by
abbrev pub known_in : {S L T U A R N C Q : Type 0} → (L → KnownSums) → (L → KnownManifests) → BuildOptions S L T U A R N C Q → Known
known_in remote manifests options = record { sums = sums_in remote options; manifests = manifests_in manifests options; store = options.jsr_metadata_store; flags = flags_of options }

-- the options beside the locker and the store
abbrev pub without_locker : {S L T U A R N C Q : Type 0} → BuildOptions S L T U A R N C Q → BuildOptions S L T U A R N C Q
without_locker options = record options { locker = None; jsr_metadata_store = None }

-- loader and options tell all of it
pub record Tells (loader : Option World) (telling : Telling) (known : Known) (t : Told) : Type 0 where
  pub answers : loader ≡ Some t.world
  pub known_is : known ≡ t.known
  pub infos : telling.infos ≡ Some t.infos
  pub paths : telling.paths ≡ t.paths
  pub resolving : telling.resolving ≡ Some t.resolving
  pub registry : telling.registry ≡ t.registry
  pub newest : telling.newest ≡ t.newest

-- what slots of a graph of a kind are made by, where it is told
abbrev pub making_by : Telling → Flags → GraphKind → Option Making
making_by telling flags kind = told_making telling.infos telling.paths telling.resolving kind flags.skip_dynamic_deps flags.config
