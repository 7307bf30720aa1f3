-- The JSON of a module's info.
use Rattle.std.specs.Prelude.{ℕ, List, [], ◌∷◌, false, codes, Option, Some, None, is_some, option_map, Result, Ok, Err}
use Rattle.serde_json.specs.Data.{Data}
use Rattle.serde_json.specs.Find.{as_object}
use Rattle.json_forms.specs.Form.{flag, list_of, given}
use Rattle.json_forms.specs.Member.{optional, with_default}
use Rattle.json_forms.specs.Infos.Descriptor.{descriptor, descriptor_json}
use Rattle.json_forms.specs.Infos.References.{specifier_with_range, reference, jsdoc_import, specifier_json, reference_json, jsdoc_json}
use Rattle.json_forms.specs.Rows.{Rows, object_of, if_true, if_any}
use Rattle.module_info.specs.declared.types.ModuleInfo.{ModuleInfo}
use Rattle.json_forms.specs.declared.infos.info.InfoFault.{InfoFault}

-- one member after another, up to the first fault
infixl 10 ◌>>=◌
abbrev pub ◌>>=◌ : {A B : Type 0} → Result A InfoFault → (A → Result B InfoFault) → Result B InfoFault
Ok a >>= f = f a
Err e >>= f = Err e

-- what is read of a member, or the fault that names it
abbrev pub named : {A : Type 0} → List ℕ → Option A → Result A InfoFault
named k None = Err (record { member = k })
named k (Some a) = Ok a

-- the members in the order of their keys, so that the fault names the first that hasn't its form;
-- members with other names are passed over
abbrev pub info_of : Data → Result ModuleInfo InfoFault
info_of d = do
  object ← named [] (given (is_some (as_object d)))
  dependencies ← named (codes "dependencies") (with_default [] (list_of descriptor) (codes "dependencies") d)
  jsdoc_imports ← named (codes "jsdocImports") (with_default [] (list_of jsdoc_import) (codes "jsdocImports") d)
  jsx_import_source ← named (codes "jsxImportSource") (optional specifier_with_range (codes "jsxImportSource") d)
  jsx_import_source_types ← named (codes "jsxImportSourceTypes") (optional specifier_with_range (codes "jsxImportSourceTypes") d)
  is_script ← named (codes "script") (with_default false flag (codes "script") d)
  self_types_specifier ← named (codes "selfTypesSpecifier") (optional specifier_with_range (codes "selfTypesSpecifier") d)
  source_map_url ← named (codes "sourceMapUrl") (optional specifier_with_range (codes "sourceMapUrl") d)
  ts_references ← named (codes "tsReferences") (with_default [] (list_of reference) (codes "tsReferences") d)
  Ok (record {
    is_script = is_script;
    dependencies = dependencies;
    ts_references = ts_references;
    self_types_specifier = self_types_specifier;
    jsx_import_source = jsx_import_source;
    jsx_import_source_types = jsx_import_source_types;
    source_map_url = source_map_url;
    jsdoc_imports = jsdoc_imports;
  })

-- the members of an info, each where it isn't empty
abbrev pub info_rows : ModuleInfo → Rows
info_rows i =
    (codes "dependencies", if_any descriptor_json i.dependencies)
    ∷ (codes "jsdocImports", if_any jsdoc_json i.jsdoc_imports)
    ∷ (codes "jsxImportSource", option_map specifier_json i.jsx_import_source)
    ∷ (codes "jsxImportSourceTypes", option_map specifier_json i.jsx_import_source_types)
    ∷ (codes "script", if_true i.is_script)
    ∷ (codes "selfTypesSpecifier", option_map specifier_json i.self_types_specifier)
    ∷ (codes "sourceMapUrl", option_map specifier_json i.source_map_url)
    ∷ (codes "tsReferences", if_any reference_json i.ts_references)
    ∷ []

abbrev pub info_json : ModuleInfo → Data
info_json i = object_of (info_rows i)
