-- What the sources of a world make.
use Rattle.std.specs.Prelude.{◌≡◌, Bool, Option, Some, None, Ok}
use Rattle.url.specs.Parts.{Parts}
use Rattle.file_tree.specs.Written.{written_answer}
use Rattle.module_info.specs.Infos.{info_in, infos_by}
use Rattle.source_io.specs.Resolvers.{ResolverMeaning}
use Rattle.source_io.specs.declared.types.Answer.TheVariants.{Load}
use Rattle.source_io.specs.declared.types.LoadResponse.TheVariants.{Module as Sourced}
use Rattle.source_io.specs.declared.types.Purpose.{Purpose}
use Rattle.source_io.specs.declared.types.World.{World}
use Rattle.import_records.specs.Target.{NvOf}
use Rattle.graph_dependencies.specs.declared.graph_kind.GraphKind.{GraphKind}
use Rattle.slot_making.specs.Made.{Making}
use Rattle.slot_making.specs.declared.source.Source.{Source}
use Rattle.mapped_world.specs.Leads.{IsAmong}

-- what makes modules in a world, by a resolver
abbrev pub making_by : World → ResolverMeaning → NvOf → GraphKind → Bool → Bool → Making
making_by w meaning nv_of kind skip config = record {
  infos = infos_by w.infos;
  paths = w.tree;
  resolving = record { resolver = meaning; nv_of = nv_of };
  kind = kind;
  skip_dynamic_deps = skip;
  config = config;
}

-- no template in its infos means a file of its tree
abbrev pub HasNoTemplates : World → Type 0
HasNoTemplates w = (s : Parts) → written_answer w.tree s (info_in w.infos s) ≡ info_in w.infos s

-- a source is what a world answers to some question, and no version of a package tells its info
pub record IsSourceOf (w : World) (source : Source) : Type 0 where
  pub specifier : Parts
  pub purpose : Purpose
  pub answered : IsAmong (specifier, purpose, Load (Ok (Some (Sourced source.content source.mtime source.name source.headers)))) w.answers
  pub no_info : source.info ≡ None
