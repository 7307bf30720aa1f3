-- What makes the slots of a build, and what says where texts lead and where packages are.
use Rattle.std.specs.Prelude.{Bool, Option}
use Rattle.registry_urls.specs.Meaning.{RegistryMeaning}
use Rattle.source_io.specs.Resolvers.{ResolverMeaning}
use Rattle.module_info.specs.Infos.{Infos}
use Rattle.slot_making.specs.Made.{Paths}
use Rattle.import_records.specs.Target.{Resolving, told_resolving}
use Rattle.graph_dependencies.specs.declared.graph_kind.GraphKind.{GraphKind}
use Rattle.graph_turns.specs.declared.maker.Maker.{Maker}
use Rattle.graph_turns.specs.Machine.Makers.{made_by}
use Rattle.graph_turns.specs.declared.flags.Flags.{Flags}
use Rattle.build_options.specs.declared.options.BuildOptions.{BuildOptions}
use Rattle.graph_builder.specs.Calls.Steps.{BuildState}
use Rattle.build_options.specs.Telling.{Telling, flags_of, making_by, telling_of}
use Rattle.open_loads.specs.Order.Means.{Directions, Means}

-- what slots are made by, and where packages are, by what some options tell
abbrev pub means_by : Telling → Flags → GraphKind → Means
means_by telling flags kind = record { registry = telling.registry; newest = telling.newest; making = making_by telling flags kind }

-- the same of a build
abbrev pub means_in : {S L T U A R N C Q : Type 0} → (A → Option Infos) → (T → Paths) → (U → RegistryMeaning) → (R → Bool) → (R → ResolverMeaning) → BuildState (BuildOptions S L T U A R N C Q) → Means
means_in infos paths registry is_told meaning b = means_by (telling_of infos paths registry is_told meaning b.options) (flags_of b.options) b.kind

-- what the texts of a build are resolved by, where its resolver tells that
abbrev pub resolving_in : {S L T U A R N C Q : Type 0} → (U → RegistryMeaning) → (R → Bool) → (R → ResolverMeaning) → BuildState (BuildOptions S L T U A R N C Q) → Option Resolving
resolving_in registry is_told meaning b = told_resolving (registry b.options.jsr_url_provider.now).nv_of is_told meaning b.options.resolver

-- and where its packages are
abbrev pub directions_in : {S L T U A R N C Q : Type 0} → (U → RegistryMeaning) → (R → Bool) → (R → ResolverMeaning) → BuildState (BuildOptions S L T U A R N C Q) → Directions
directions_in registry is_told meaning b = record { registry = registry b.options.jsr_url_provider.now; newest = b.options.jsr_version_resolver.now.newest_dependency_date_options; resolving = resolving_in registry is_told meaning b }
