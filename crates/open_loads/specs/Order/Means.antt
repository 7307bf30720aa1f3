-- What the turns of a build go by beside answers.
use Rattle.std.specs.Prelude.{◌≡◌, Bool, Option, None, Some}
use Rattle.source_io.specs.declared.types.World.{World}
use Rattle.version_dates.specs.declared.newest_date.NewestDependencyDateOptions.{NewestDependencyDateOptions}
use Rattle.registry_urls.specs.Meaning.{RegistryMeaning}
use Rattle.source_io.specs.Resolvers.{ResolverMeaning}
use Rattle.module_info.specs.Infos.{Infos}
use Rattle.import_records.specs.Target.{Resolving}
use Rattle.graph_dependencies.specs.declared.graph_kind.GraphKind.{GraphKind}
use Rattle.slot_making.specs.Made.{Making, Paths}
use Rattle.graph_turns.specs.declared.maker.Maker.{Maker}
use Rattle.graph_turns.specs.Machine.Makers.{made_by}
use Rattle.graph_turns.specs.Promise.Told.{Told, making_of}

-- where the packages of a registry are, which versions are too new, and what slots are made by, where that is told
pub record Means : Type 0 where
  pub registry : RegistryMeaning
  pub newest : NewestDependencyDateOptions
  pub making : Option Making

-- where the packages of a registry are, which versions are too new, and what texts are resolved by, where that is told
pub record Directions : Type 0 where
  pub registry : RegistryMeaning
  pub newest : NewestDependencyDateOptions
  pub resolving : Option Resolving

-- what a maker makes slots by, where that is told, and where its packages are
abbrev pub means_of : {S L T U A R N C Q : Type 0} → (A → Option Infos) → (T → Paths) → (U → RegistryMeaning) → (R → Bool) → (R → ResolverMeaning) → Maker S L T U A R N C Q → Means
means_of infos paths registry is_told meaning m = record { registry = registry m.urls.now; newest = m.versions.now.newest_dependency_date_options; making = made_by infos paths registry is_told meaning m }

-- whatever slots are made by
abbrev pub untold : RegistryMeaning → NewestDependencyDateOptions → Means
untold registry newest = record { registry = registry; newest = newest; making = None }

-- a graph of a kind is built by all that is told
pub record IsMeant (means : Means) (t : Told) (kind : GraphKind) : Type 0 where
  pub registry_is : means.registry ≡ t.registry
  pub newest_is : means.newest ≡ t.newest
  pub making_is : means.making ≡ Some (making_of t kind)

-- and the loader's answers are those of its world
pub record IsTold (loader : Option World) (means : Means) (t : Told) (kind : GraphKind) : Type 0 where
  pub answers : loader ≡ Some t.world
  pub meant : IsMeant means t kind
