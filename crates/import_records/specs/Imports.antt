-- Imports that are configured beside those that modules have.
use Rattle.std.specs.Prelude.{ℕ, List, [], false, None, map, bytes_eq}
use Rattle.url.specs.Parts.{Parts}
use Rattle.seen_pending.specs.Once.{each_once}
use Rattle.spec_base.specs.declared.position.ResolutionKind.TheVariants.{Types}
use Rattle.graph_dependencies.specs.declared.dependency.Dependency.{Dependency}
use Rattle.graph_dependencies.specs.declared.graph_import.GraphImport.{GraphImport}
use Rattle.graph_errors.specs.declared.resolution.Resolution.TheVariants.{None as Nowhere}
use Rattle.import_records.specs.Target.{Resolving, target_of}
use Rattle.import_records.specs.TypesDependency.{beginning}

-- what a configured text makes: its types alone, resolved at the beginning of the referrer
abbrev pub imported_types : Resolving → Parts → List ℕ → Dependency
imported_types m referrer text = record {
  maybe_code = Nowhere;
  maybe_type = target_of m text (beginning referrer) Types None;
  maybe_deno_types_specifier = None;
  is_dynamic = false;
  maybe_attribute_type = None;
  imports = [];
}

-- the imports of a referrer: each text once, in order
abbrev pub graph_import : Resolving → Parts → List (List ℕ) → GraphImport
graph_import m referrer texts = record {
  dependencies = map (λ text. (text, imported_types m referrer text)) (each_once bytes_eq texts);
}
