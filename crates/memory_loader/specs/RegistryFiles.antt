-- The files of the registry JSR, as they are kept at their URLs.
use Rattle.std.specs.Prelude.{◌≡◌, ◌≤◌, ℕ, List, ◌++◌, codes, false, Some, Ok}
use Rattle.url.specs.Parts.{Parts}
use Rattle.serde_json.specs.Data.{Data, depth}
use Rattle.serde_json.specs.Read.{read, max_depth}
use Rattle.serde_json.specs.Written.{IsInOrder, compact_text, has_float}
use Rattle.registry_urls.specs.Default.{default_registry}
use Rattle.registry_urls.specs.Packages.{package_file_url}
use Rattle.registry_urls.specs.Registry.{url_in}
use Rattle.source_io.specs.declared.types.Answer.TheVariants.{Load}
use Rattle.memory_loader.specs.declared.memory_loader.MemoryLoader.{MemoryLoader}
use Rattle.memory_loader.specs.Loaders.{answers_in}
use Rattle.memory_loader.specs.Sources.{bare_module, with_answer}

-- a text is JSON of some data without spaces: where the data has no float it is settled, and it reads as the data
pub record IsWritten (d : Data) (text : List ℕ) : Type 0 where
  pub settled : has_float d ≡ false → text ≡ compact_text d
  pub in_order : IsInOrder text d
  pub reads_back : depth d ≤ max_depth → read text ≡ Some d

-- `https://jsr.io/name/meta.json`, the file of a package
abbrev pub package_url : List ℕ → Parts
package_url name = package_file_url default_registry name

-- `https://jsr.io/name/version_meta.json`, the file of a version, by the version's text
abbrev pub version_path : List ℕ → List ℕ → List ℕ
version_path name version = name ++ codes "/" ++ version ++ codes "_meta.json"

abbrev pub version_url : List ℕ → List ℕ → Parts
version_url name version = url_in default_registry (version_path name version)

-- a module that is named by its URL stands there, with a text of some JSON, and all other answers are as they were
abbrev pub KeepsFile : Parts → Data → MemoryLoader → MemoryLoader → Type 0
KeepsFile url d old new = (text : List ℕ) × IsWritten d text × (answers_in new ≡ with_answer (answers_in old) url (Load (Ok (Some (bare_module text url)))))
