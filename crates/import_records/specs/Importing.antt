-- What the dependencies of a module depend on besides its info.
use Rattle.std.specs.Prelude.{Bool}
use Rattle.url.specs.Parts.{Parts}
use Rattle.media_types.specs.declared.media.MediaType.{MediaType}
use Rattle.registry_urls.specs.Meaning.{RegistryMeaning}
use Rattle.source_io.specs.Resolvers.{ResolverMeaning}
use Rattle.import_records.specs.declared.importer.Importer.{Importer}
use Rattle.import_records.specs.Target.{Resolving, resolving, is_told_resolver}

-- what resolves its texts, its media type, whether types are wanted, and its specifier
pub record Importing : Type 0 where
  pub resolving : Resolving
  pub media : MediaType
  pub with_types : Bool
  pub here : Parts

abbrev pub importing : {U R : Type 0} → (U → RegistryMeaning) → (R → ResolverMeaning) → Importer U R → Importing
importing registry meaning importer = record {
  resolving = resolving registry meaning importer.targets;
  media = importer.media;
  with_types = importer.with_types;
  here = importer.specifier.now;
}

-- whether it is told what resolves its texts
abbrev pub is_told_importer : {U R : Type 0} → (R → Bool) → Importer U R → Bool
is_told_importer is_told importer = is_told_resolver is_told importer.targets.resolver
