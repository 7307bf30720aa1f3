-- The last source that is given for a specifier, which counts.
use Rattle.std.specs.Prelude.{List, [], ◌∷◌, ℕ, string_bytes, Option, Some, None, Result, Ok, Err, if◌then◌else◌}
use Rattle.std.specs.Option.{option_or}
use Rattle.url.specs.Parts.{Parts}
use Rattle.spec_base.specs.Specifier.{same_specifier}
use Rattle.source_io.specs.declared.types.Answer.{Answer}
use Rattle.memory_loader.specs.declared.invalid_specifier.InvalidSpecifier.{InvalidSpecifier}
use Rattle.memory_loader.specs.Specifiers.{specifier_of}
use Rattle.memory_loader.specs.Sources.{GivenSource, KeyedSource, source_answer}

-- an answer at a specifier that is its key
abbrev pub answer_at_key : Parts → Result Parts InvalidSpecifier → Result Answer InvalidSpecifier → Option Answer
answer_at_key s (Ok key) (Ok answer) = if same_specifier s key then Some answer else None
answer_at_key s (Ok key) (Err _) = None
answer_at_key s (Err _) answer = None

-- what a source answers at a specifier: nothing where its key is another one
abbrev pub given_at : Parts → List ℕ → GivenSource → Option Answer
given_at s key source = answer_at_key s (specifier_of key) (source_answer source)

-- what the last of the sources for a specifier answers
abbrev pub last_at : Parts → List KeyedSource → Option Answer
last_at s [] = None
last_at s (given ∷ more) = option_or (last_at s more) (given_at s (string_bytes given.0) given.1)
