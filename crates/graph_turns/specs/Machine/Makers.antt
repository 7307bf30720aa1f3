-- What a maker makes slots by.
use Rattle.std.specs.Prelude.{Bool, Option}
use Rattle.registry_urls.specs.Meaning.{RegistryMeaning}
use Rattle.source_io.specs.Resolvers.{ResolverMeaning}
use Rattle.module_info.specs.Infos.{Infos}
use Rattle.slot_making.specs.Made.{Making, Paths, told_making}
use Rattle.import_records.specs.Target.{told_resolving}
use Rattle.graph_turns.specs.declared.maker.Maker.{Maker}

-- what a maker makes slots by, where its analyzer and its resolver tell it
abbrev pub made_by : {S L T U A R N C Q : Type 0} → (A → Option Infos) → (T → Paths) → (U → RegistryMeaning) → (R → Bool) → (R → ResolverMeaning) → Maker S L T U A R N C Q → Option Making
made_by infos paths registry is_told meaning m =
    told_making (infos m.analyzer.now) (paths m.tree.now) (told_resolving (registry m.urls.now).nv_of is_told meaning m.resolver) m.kind m.flags.skip_dynamic_deps m.flags.config
