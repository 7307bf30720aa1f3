-- What sources answer, and the answers that are kept at their keys.
use Rattle.std.specs.Prelude.{ℕ, List, [], ◌∷◌, String, string_bytes, Vec, Option, Some, None, Result, Ok, Err}
use Rattle.std.specs.declared.alloc.Global.{Global}
use Rattle.indexmap.specs.IndexMap.{insert_entry}
use Rattle.url.specs.Parts.{Parts}
use Rattle.spec_base.specs.Specifier.{same_specifier}
use Rattle.spec_base.specs.declared.load_error.LoadError.TheVariants.{Other}
use Rattle.source_io.specs.declared.types.Answer.{Answer}
use Rattle.source_io.specs.declared.types.Answer.TheVariants.{Load}
use Rattle.source_io.specs.declared.types.LoadResponse.{LoadResponse}
use Rattle.source_io.specs.declared.types.LoadResponse.TheVariants.{External, Redirect, Module as Sourced}
use Rattle.memory_loader.specs.declared.invalid_specifier.InvalidSpecifier.{InvalidSpecifier}
use Rattle.memory_loader.specs.declared.source.Source.{Source}
use Rattle.memory_loader.specs.declared.source.Source.TheVariants.{Module as GivenModule, Redirect as GivenRedirect, External as GivenExternal, Err as GivenFault}
use Rattle.memory_loader.specs.Results.{and_then}
use Rattle.memory_loader.specs.Specifiers.{specifier_of}
use Rattle.memory_loader.specs.Headers.{maybe_headers_of}

-- a source as it is given, and one with its key
abbrev pub GivenSource : Type 0
GivenSource = Source (String Global) (Vec ℕ Global)

abbrev pub KeyedSource : Type 0
KeyedSource = String Global × GivenSource

-- a module of a name, with its headers where some are given
abbrev pub module_response : List ℕ → Option (List (List ℕ × List ℕ)) → Parts → LoadResponse
module_response content headers name = Sourced content None name headers

-- a module of a name, without headers
abbrev pub bare_module : List ℕ → Parts → LoadResponse
bare_module content name = module_response content None name

-- what is loaded under the specifier that a text is
abbrev pub response_at : List ℕ → (Parts → LoadResponse) → Result Answer InvalidSpecifier
response_at text respond = and_then (specifier_of text) (λ s. Ok (Load (Ok (Some (respond s)))))

-- what a source answers
abbrev pub source_answer : GivenSource → Result Answer InvalidSpecifier
source_answer (GivenModule name headers content) =
    response_at (string_bytes name) (module_response content.items (maybe_headers_of headers))
source_answer (GivenRedirect target) = response_at (string_bytes target) Redirect
source_answer (GivenExternal name) = response_at (string_bytes name) External
source_answer (GivenFault fault) = Ok (Load (Err (Other fault)))

-- the answers with one at a key: at its place where the key stands, else at the end
abbrev pub with_answer : List (Parts × Answer) → Parts → Answer → List (Parts × Answer)
with_answer kept key answer = insert_entry same_specifier kept key answer

-- the answers with that of one more source
abbrev pub with_source : List (Parts × Answer) → List ℕ → GivenSource → Result (List (Parts × Answer)) InvalidSpecifier
with_source kept key source = and_then (specifier_of key) (λ s. and_then (source_answer source) (λ answer. Ok (with_answer kept s answer)))

-- the answers with those of more sources, in their order
abbrev pub with_sources : List (Parts × Answer) → List KeyedSource → Result (List (Parts × Answer)) InvalidSpecifier
with_sources kept [] = Ok kept
with_sources kept (given ∷ more) = and_then (with_source kept (string_bytes given.0) given.1) (λ now. with_sources now more)

-- the answers with a response of the key's own name
abbrev pub with_response : List (Parts × Answer) → List ℕ → (Parts → LoadResponse) → Result (List (Parts × Answer)) InvalidSpecifier
with_response kept key respond = and_then (specifier_of key) (λ s. Ok (with_answer kept s (Load (Ok (Some (respond s))))))
