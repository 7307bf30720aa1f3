-- Where the texts of a module lead in a world with a map, and by the map itself.
use Rattle.std.specs.Prelude.{◌≡◌, ◌⊎◌, ⊤, ℕ, Bool, List, [], ◌∷◌, Option, Some, None, Ok, Err, bytes_eq, codes}
use Rattle.std.specs.List.{AllByRecursion}
use Rattle.std.specs.Map.{lookup}
use Rattle.url.specs.Parser.{parse_url}
use Rattle.url.specs.Parts.{Parts, serialize}
use Rattle.media_types.specs.declared.media.MediaType.{MediaType}
use Rattle.module_info.specs.Infos.{empty_info}
use Rattle.module_info.specs.declared.types.ModuleInfo.{ModuleInfo}
use Rattle.source_io.specs.Resolvers.{ResolverMeaning, meaning_of}
use Rattle.source_io.specs.declared.types.Answer.{Answer}
use Rattle.source_io.specs.declared.types.Answer.TheVariants.{Load, Ensure}
use Rattle.source_io.specs.declared.types.LoadResponse.TheVariants as response_is
use Rattle.source_io.specs.declared.types.Purpose.{Purpose}
use Rattle.source_io.specs.declared.types.World.{World}
use Rattle.import_records.specs.Dependencies.{dependencies_of}
use Rattle.import_records.specs.Importing.{Importing}
use Rattle.import_records.specs.SourceMap.{source_map_of}
use Rattle.import_records.specs.Target.{NvOf, Resolving}
use Rattle.import_records.specs.TypesDependency.{types_dependency_of}
use Rattle.graph_dependencies.specs.declared.referrer_imports.ReferrerImports.{ReferrerImports}
use Rattle.import_map.specs.Lookup.{meaning_by}
use Rattle.import_map.specs.declared.map.ImportMap.{ImportMap}
use Rattle.mapped_world.specs.Mapped.{with_map}

-- ---- the world's URLs

-- the URL that its text is read as
abbrev pub IsOwnUrl : Parts → Type 0
IsOwnUrl s = parse_url None (serialize s) ≡ Ok s

-- the name of an answered module is
abbrev pub NamesOwn : Answer → Type 0
NamesOwn (Load (Ok (Some (response_is.Module content mtime name headers)))) = IsOwnUrl name
NamesOwn (Load (Ok (Some (response_is.External name)))) = ⊤
NamesOwn (Load (Ok (Some (response_is.Redirect name)))) = ⊤
NamesOwn (Load (Ok None)) = ⊤
NamesOwn (Load (Err e)) = ⊤
NamesOwn (Ensure result) = ⊤

-- the URLs of what is analyzed, of answered modules and of configurations are
pub record HasOwnUrls (w : World) (imports : List ReferrerImports) : Type 0 where
  pub infos : AllByRecursion (λ e. IsOwnUrl e.0) w.infos
  pub answers : AllByRecursion (λ e. NamesOwn e.2) w.answers
  pub configured : AllByRecursion (λ i. IsOwnUrl i.referrer) imports

-- ---- modules

-- it is one of a list
abbrev pub IsAmong : {A : Type 0} → A → List A → Type 0
IsAmong x [] = ⊥
IsAmong x (y ∷ ys) = (x ≡ y) ⊎ IsAmong x ys

-- a world answers a module of this name with these headers, and its info is listed, or the empty one
pub record IsModuleOf (w : World) (here : Parts) (headers : Option (List (List ℕ × List ℕ))) (info : ModuleInfo) : Type 0 where
  pub specifier : Parts
  pub purpose : Purpose
  pub content : List ℕ
  pub mtime : Option ℕ
  pub answered : IsAmong (specifier, purpose, Load (Ok (Some (response_is.Module content mtime here headers)))) w.answers
  pub analyzed : IsAmong (here, Ok info) w.infos ⊎ (info ≡ empty_info)

-- the text of the header that names its types
abbrev pub types_header : Option (List (List ℕ × List ℕ)) → Option (List ℕ)
types_header None = None
types_header (Some headers) = lookup (bytes_eq (codes "x-typescript-types")) headers

-- ---- two resolvers

-- that of a world with the resolutions of a map
abbrev pub mapped_meaning : World → List ReferrerImports → ImportMap → ResolverMeaning
mapped_meaning w imports m = meaning_of (record w { resolutions = with_map w imports m })

-- where texts lead as the map says, and all else is as the world says
abbrev pub map_meaning : World → ImportMap → ResolverMeaning
map_meaning w m = record (meaning_of w) { resolve = (meaning_by m).resolve; by_attribute = (meaning_by m).by_attribute }

-- what a module's dependencies depend on, by a resolver
abbrev pub importing_by : ResolverMeaning → NvOf → MediaType → Bool → Parts → Importing
importing_by meaning nv_of media with_types here = record { resolving = record { resolver = meaning; nv_of = nv_of }; media = media; with_types = with_types; here = here }

-- all that a module imports leads by both to the same: its dependencies, its types, and its source map
pub record LeadsAlike (a b : Importing) (info : ModuleInfo) (header : Option (List ℕ)) : Type 0 where
  pub dependencies : dependencies_of a info ≡ dependencies_of b info
  pub types : types_dependency_of a info header ≡ types_dependency_of b info header
  pub source_map : source_map_of a info ≡ source_map_of b info
