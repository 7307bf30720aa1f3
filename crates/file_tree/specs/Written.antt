-- Infos whose templates are written out: a dynamic import of a template stands for one of each text that the template
-- stands for.
use Rattle.std.specs.Prelude.{ℕ, Bool, true, false, List, [], ◌∷◌, map, flat_map, codes, Option, Result, Ok, Err}
use Rattle.url.specs.Parts.{Parts}
use Rattle.spec_base.specs.declared.refusal.Fault.{Fault}
use Rattle.module_info.specs.Attributes.{attribute_text}
use Rattle.module_info.specs.declared.argument.DynamicArgument.{DynamicArgument}
use Rattle.module_info.specs.declared.argument.DynamicArgument.TheVariants.{Expr, String as Text, Template}
use Rattle.module_info.specs.declared.types.DependencyDescriptor.{DependencyDescriptor}
use Rattle.module_info.specs.declared.types.DependencyDescriptor.TheVariants.{Static, Dynamic}
use Rattle.module_info.specs.declared.types.DynamicDependencyDescriptor.{DynamicDependencyDescriptor}
use Rattle.module_info.specs.declared.types.ModuleInfo.{ModuleInfo}
use Rattle.file_tree.specs.Template.{template_texts}

-- the import of a text in the place of its template
abbrev pub with_text : DynamicDependencyDescriptor → List ℕ → DependencyDescriptor
with_text d text = Dynamic (record d { argument = Text text })

-- the attribute `type` of a dynamic import
abbrev pub type_of : DynamicDependencyDescriptor → Option (List ℕ)
type_of d = attribute_text d.import_attributes (codes "type")

-- a dynamic import by its argument: of a template, one of each of its texts
abbrev pub written_argument : List (List ℕ) → Parts → DynamicDependencyDescriptor → DynamicArgument → List DependencyDescriptor
written_argument paths referrer d (Template parts) = map (with_text d) (template_texts paths referrer parts (type_of d))
written_argument paths referrer d (Text text) = Dynamic d ∷ []
written_argument paths referrer d Expr = Dynamic d ∷ []

-- what a descriptor stands for over a tree
unfoldable pub written : List (List ℕ) → Parts → DependencyDescriptor → List DependencyDescriptor
written paths referrer (Static d) = Static d ∷ []
written paths referrer (Dynamic d) = written_argument paths referrer d d.argument

-- the info of a module with its templates written out, each in its place
abbrev pub written_out : List (List ℕ) → Parts → ModuleInfo → ModuleInfo
written_out paths referrer info = record info { dependencies = flat_map (written paths referrer) info.dependencies }

-- an answered info with its templates written out, or the fault
abbrev pub written_answer : List (List ℕ) → Parts → Result ModuleInfo Fault → Result ModuleInfo Fault
written_answer paths referrer (Ok info) = Ok (written_out paths referrer info)
written_answer paths referrer (Err fault) = Err fault

-- ---- which descriptors have templates

abbrev pub is_template : DynamicArgument → Bool
is_template (Template parts) = true
is_template (Text text) = false
is_template Expr = false

abbrev pub has_template : DependencyDescriptor → Bool
has_template (Static d) = false
has_template (Dynamic d) = is_template d.argument
