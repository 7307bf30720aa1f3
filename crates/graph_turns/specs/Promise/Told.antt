-- What the objects that are handed to a build tell.
use Rattle.std.specs.Prelude.{Bool, false}
use Rattle.source_io.specs.Resolvers.{meaning_of}
use Rattle.source_io.specs.declared.types.World.{World}
use Rattle.graph_dependencies.specs.declared.graph_kind.GraphKind.{GraphKind}
use Rattle.module_info.specs.Infos.{Infos, infos_by}
use Rattle.slot_making.specs.Made.{Making, Paths}
use Rattle.import_records.specs.Target.{Resolving}
use Rattle.registry_urls.specs.Meaning.{RegistryMeaning}
use Rattle.version_dates.specs.declared.newest_date.NewestDependencyDateOptions.{NewestDependencyDateOptions}
use Rattle.npm_resolver.specs.declared.types.NpmTable.{NpmTable}
use Rattle.source_io.specs.declared.types.CacheSetting.{CacheSetting}
use Rattle.source_io.specs.declared.types.CacheSetting.TheVariants.{Use}
use Rattle.graph_turns.specs.Machine.Known.{Known}

-- all that a build is told: the answers of the loader are those of a world, and beside them stand the infos of the analyzer,
-- the files of the tree, what texts are resolved by, where the packages of a registry are, which versions are too new, and what the build
-- goes by, each for itself; then what an npm resolver answers by, where the flags say that there is one, the setting that serves the registry's files, and whether the file of a package is asked for once more
-- where no version meets a requirement
pub record Told : Type 0 where
  pub world : World
  pub infos : Infos
  pub paths : Paths
  pub resolving : Resolving
  pub registry : RegistryMeaning
  pub newest : NewestDependencyDateOptions
  pub known : Known
  pub npm : NpmTable
  pub metadata : CacheSetting
  pub asks_again : Bool

-- a world tells all of it but where the packages of a registry are, which versions are too new, what an npm resolver answers by, and what the
-- build goes by; a first run that may begin once more is told so
abbrev pub told_of : World → RegistryMeaning → NewestDependencyDateOptions → NpmTable → Known → Told
told_of w registry newest npm known = record {
  world = w;
  infos = infos_by w.infos;
  paths = w.tree;
  resolving = record { resolver = meaning_of w; nv_of = registry.nv_of };
  registry = registry;
  newest = newest;
  known = known;
  npm = npm;
  metadata = Use;
  asks_again = false;
}

-- what slots of a graph of a kind are made by
abbrev pub making_of : Told → GraphKind → Making
making_of t kind = record {
  infos = t.infos;
  paths = t.paths;
  resolving = t.resolving;
  kind = kind;
  skip_dynamic_deps = t.known.flags.skip_dynamic_deps;
  config = t.known.flags.config;
}
