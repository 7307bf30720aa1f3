-- What a build goes by where all is told.
pub use Rattle.graph_builder.proofs.Order.Drives.{told_means}
use Rattle.std.proofs.Common.{◌≡◌, ◌∙◌, Bool, ap, Option, None, Some, refl}
use Rattle.source_io.specs.declared.types.World.{World}
use Rattle.import_records.specs.Target.{Resolving}
use Rattle.graph_dependencies.specs.declared.graph_kind.GraphKind.{GraphKind}
use Rattle.version_dates.specs.declared.newest_date.NewestDependencyDateOptions.{NewestDependencyDateOptions}
use Rattle.registry_urls.specs.Meaning.{RegistryMeaning}
use Rattle.module_info.specs.Infos.{Infos}
use Rattle.slot_making.specs.Made.{Making, Paths, told_making}
use Rattle.graph_turns.specs.Machine.Known.{Known}
use Rattle.graph_turns.specs.Promise.Told.{Told, making_of}
use Rattle.graph_builder.specs.Calls.Makers.{means_by}
use Rattle.build_options.specs.Telling.{Telling, Tells}
use Rattle.open_loads.specs.Order.Means.{Directions, IsMeant, IsTold, Means}

-- what texts are resolved by where all is told
abbrev pub told_directions : Told → Directions
told_directions w = record { registry = w.registry; newest = w.newest; resolving = Some w.resolving }

pub means_are : (means : Means) (w : Told) (kind : GraphKind) → IsMeant means w kind → means ≡ told_means w kind
means_are means w kind meant =
    ap (λ (r : RegistryMeaning). record { registry = r; newest = means.newest; making = means.making }) meant.registry_is
    ∙ ap (λ (n : NewestDependencyDateOptions). record { registry = w.registry; newest = n; making = means.making }) meant.newest_is
    ∙ ap (λ (m : Option Making). record { registry = w.registry; newest = w.newest; making = m }) meant.making_is

pub meant_itself : (w : Told) (kind : GraphKind) → IsMeant (told_means w kind) w kind
meant_itself w kind = record { registry_is = refl; newest_is = refl; making_is = refl }

pub told_itself : (w : Told) (kind : GraphKind) → IsTold (Some w.world) (told_means w kind) w kind
told_itself w kind = record { answers = refl; meant = meant_itself w kind }

-- what is given to a build tells what its slots are made by
pub is_told_of : (loader : Option World) (telling : Telling) (known : Known) (w : Told) (kind : GraphKind) → Tells loader telling known w → IsTold loader (means_by telling known.flags kind) w kind
is_told_of loader telling known w kind tells = record {
  answers = tells.answers;
  meant = record {
    registry_is = tells.registry;
    newest_is = tells.newest;
    making_is = ap (λ i. told_making i telling.paths telling.resolving kind known.flags.skip_dynamic_deps known.flags.config) tells.infos
        ∙ ap (λ p. told_making (Some w.infos) p telling.resolving kind known.flags.skip_dynamic_deps known.flags.config) tells.paths
        ∙ ap (λ r. told_making (Some w.infos) w.paths r kind known.flags.skip_dynamic_deps known.flags.config) tells.resolving
        ∙ ap (λ (k : Known). told_making (Some w.infos) w.paths (Some w.resolving) kind k.flags.skip_dynamic_deps k.flags.config) tells.known_is;
  };
}

-- where slots are made by a world, texts lead where its resolver says
pub resolver_told : (infos : Option Infos) (paths : Paths) (resolver : Option Resolving) (kind : GraphKind) (skip config : Bool) (w : Told) (given : GraphKind) → told_making infos paths resolver kind skip config ≡ Some (making_of w given) → resolver ≡ Some w.resolving
resolver_told None paths resolver kind skip config w given e = cc
resolver_told (Some infos) paths None kind skip config w given e = cc
resolver_told (Some infos) paths (Some m) kind skip config w given e =
    let same : record { infos = infos; paths = paths; resolving = m; kind = kind; skip_dynamic_deps = skip; config = config } ≡ making_of w given = cc in ap (λ (x : Making). Some x.resolving) same

-- so what such a build goes by are the directions that are told
pub directions_told : (infos : Option Infos) (paths : Paths) (directions : Directions) (kind : GraphKind) (skip config : Bool) (w : Told) (given : GraphKind) → IsMeant (record { registry = directions.registry; newest = directions.newest; making = told_making infos paths directions.resolving kind skip config }) w given → directions ≡ told_directions w
directions_told infos paths directions kind skip config w given meant =
    ap (λ (r : RegistryMeaning). record { registry = r; newest = directions.newest; resolving = directions.resolving }) meant.registry_is
    ∙ ap (λ (n : NewestDependencyDateOptions). record { registry = w.registry; newest = n; resolving = directions.resolving }) meant.newest_is
    ∙ ap (λ (o : Option Resolving). record { registry = w.registry; newest = w.newest; resolving = o }) (resolver_told infos paths directions.resolving kind skip config w given meant.making_is)
