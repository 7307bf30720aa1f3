-- The modules of a generated world, by number: where they are, and what is answered about them.
use Rattle.std.specs.Prelude.{ℕ, ◌%◌, Bool, true, false, List, [], ◌∷◌, ◌++◌, ◌==◌, codes, decimal, Option, Some, None, Result, Ok, if◌then◌else◌}
use Rattle.url.specs.Parts.{Parts}
use Rattle.url.specs.declared.host.Host.TheVariants.{Domain}
use Rattle.spec_base.specs.declared.refusal.Fault.{Fault}
use Rattle.module_info.specs.Infos.{empty_info}
use Rattle.module_info.specs.declared.attributes.ImportAttributes.TheVariants.{None as NoAttributes}
use Rattle.module_info.specs.declared.types.DependencyDescriptor.{DependencyDescriptor}
use Rattle.module_info.specs.declared.types.DependencyDescriptor.TheVariants.{Static}
use Rattle.module_info.specs.declared.types.ModuleInfo.{ModuleInfo}
use Rattle.module_info.specs.declared.types.StaticDependencyKind.TheVariants.{Import}
use Rattle.source_io.specs.declared.types.Answer.{Answer}
use Rattle.source_io.specs.declared.types.Answer.TheVariants.{Load}
use Rattle.source_io.specs.declared.types.LoadResponse.TheVariants.{Redirect, Module}
use Rattle.source_io.specs.declared.types.Purpose.{Purpose}
use Rattle.source_io.specs.declared.types.Purpose.TheVariants.{LoadUse}

-- ---- where they are

-- the URL of a file, by its path
abbrev pub file_url : List ℕ → Parts
file_url path = record {
  scheme = codes "file";
  username = [];
  password = [];
  host = Some (Domain []);
  port = None;
  path = path;
  query = None;
  fragment = None;
}

-- `file:///m/N.js`, where the module of a number is asked for
abbrev pub module_url : ℕ → Parts
module_url number = file_url (codes "/m/" ++ decimal number ++ codes ".js")

-- `file:///m/rN.js`, where it is, if it is redirected to
abbrev pub renamed_url : ℕ → Parts
renamed_url number = file_url (codes "/m/r" ++ decimal number ++ codes ".js")

-- each seventh module is redirected to
abbrev pub is_renamed : ℕ → Bool
is_renamed number = number % 7 == 3

-- the name of a module
abbrev pub name_of : ℕ → Parts
name_of number = if is_renamed number then renamed_url number else module_url number

-- ---- what is answered

-- the text by which the module of a number is imported
abbrev pub import_text : ℕ → List ℕ
import_text number = codes "./" ++ decimal number ++ codes ".js"

-- an import of it that stands on a line
abbrev pub import_at : ℕ → ℕ → DependencyDescriptor
import_at line number = Static (record {
  kind = Import;
  types_specifier = None;
  specifier = import_text number;
  specifier_range = record {
    start = record { line = line; character = 0 };
    end = record { line = line; character = 1 };
  };
  import_attributes = NoAttributes;
  is_side_effect = false;
})

-- the info of a module that has these imports
abbrev pub info_of : List DependencyDescriptor → ModuleInfo
info_of imports = record empty_info { dependencies = imports }

-- the module of a number, whose text is its number, under a name
abbrev pub module_answer : ℕ → Parts → Answer
module_answer number name = Load (Ok (Some (Module (decimal number) None name None)))

-- that a load goes on at a specifier
abbrev pub redirect_answer : Parts → Answer
redirect_answer target = Load (Ok (Some (Redirect target)))

-- the redirect to a module, if there is one
abbrev pub redirects_of : ℕ → List (Parts × Purpose × Answer)
redirects_of number = if is_renamed number then (module_url number, LoadUse, redirect_answer (renamed_url number)) ∷ [] else []

-- what is answered about a module
abbrev pub answers_of : ℕ → List (Parts × Purpose × Answer)
answers_of number = redirects_of number ++ (name_of number, LoadUse, module_answer number (name_of number)) ∷ []
