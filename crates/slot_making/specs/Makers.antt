-- What makes slots, where it is told.
use Rattle.std.specs.Prelude.{◌≡◌, Bool, true, Option, IfSome}
use Rattle.url.specs.Parts.{Parts}
use Rattle.media_types.specs.declared.media.MediaType.{MediaType}
use Rattle.registry_urls.specs.Meaning.{RegistryMeaning}
use Rattle.source_io.specs.Resolvers.{ResolverMeaning}
use Rattle.import_records.specs.Importing.{Importing}
use Rattle.graph_dependencies.specs.Kinds.{include_types}
use Rattle.import_records.specs.Target.{Resolving, meant, is_told_resolver, told_resolving}
use Rattle.slot_making.specs.declared.make.MakeInput.{MakeInput}
use Rattle.slot_making.specs.declared.slot_maker.SlotMaker.{SlotMaker}
use Rattle.slot_making.specs.declared.source.Source.{Source}
use Rattle.module_info.specs.Infos.{Infos}
use Rattle.slot_making.specs.Made.{Making, Paths, told_making}

-- what texts are resolved by, by what makes slots
abbrev pub resolving_by : {S L T U A R N C Q : Type 0} → (U → RegistryMeaning) → (R → ResolverMeaning) → SlotMaker S L T U A R N C Q → Resolving
resolving_by registry meaning m = record { resolver = meant meaning m.resolver; nv_of = (registry m.urls.now).nv_of }

-- what makes slots by this analyzer and resolver, where the infos are told
abbrev pub making_by : {S L T U A R N C Q : Type 0} → (T → Paths) → (U → RegistryMeaning) → (R → ResolverMeaning) → SlotMaker S L T U A R N C Q → Infos → Making
making_by paths registry meaning m listed = record {
  infos = listed;
  paths = paths m.tree.now;
  resolving = resolving_by registry meaning m;
  kind = m.kind;
  skip_dynamic_deps = m.skip_dynamic_deps;
  config = m.unstable_config_imports;
}

-- what the dependencies of a module depend on besides its info, by what makes its slot
abbrev pub importing_by : {S L T U A R N C Q : Type 0} → (U → RegistryMeaning) → (R → ResolverMeaning) → SlotMaker S L T U A R N C Q → Parts → MediaType → Importing
importing_by registry meaning m s media = record { resolving = resolving_by registry meaning m; media = media; with_types = include_types m.kind; here = s }

-- what holds where the resolver is told, of each making that the analyzer tells
abbrev pub WhereMade : {S L T U A R N C Q : Type 0} → (A → Option Infos) → (T → Paths) → (U → RegistryMeaning) → (R → Bool) → (R → ResolverMeaning) → SlotMaker S L T U A R N C Q → (Making → Type 0) → Type 0
WhereMade infos paths registry is_told meaning m P = is_told_resolver is_told m.resolver ≡ true → IfSome (infos m.analyzer.now) (λ listed. P (making_by paths registry meaning m listed))

-- what makes the slot of a source, where the analyzer and the resolver are told
abbrev pub making_of : {S L T U A R N C Q : Type 0} → (A → Option Infos) → (T → Paths) → (U → RegistryMeaning) → (R → Bool) → (R → ResolverMeaning) → MakeInput S L T U A R N C Q → Option Making
making_of infos paths registry is_told meaning input =
    told_making (infos input.analyzer.now) (paths input.tree.now) (told_resolving (registry input.urls.now).nv_of is_told meaning input.resolver)
    input.kind input.skip_dynamic_deps input.unstable_config_imports

-- the source among what a slot is made of
abbrev pub source_of : {S L T U A R N C Q : Type 0} → MakeInput S L T U A R N C Q → Source
source_of input = record { name = input.specifier; content = input.content; headers = input.maybe_headers; mtime = input.mtime; info = input.info }
