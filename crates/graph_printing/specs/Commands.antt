-- The commands, by the words after the program's name.
use Rattle.std.specs.Prelude.{ℕ, Bool, List, [], ◌∷◌, bytes_eq, codes, Option, Some, None, option_map, is_some, if◌then◌else◌}
use Rattle.graph_dependencies.specs.declared.graph_kind.GraphKind.{GraphKind}
use Rattle.graph_dependencies.specs.declared.graph_kind.GraphKind.TheVariants.{All, CodeOnly, TypesOnly}
use Rattle.graph_printing.specs.declared.command_words.Command.{Command}
use Rattle.graph_printing.specs.declared.command_words.Command.TheVariants.{Build, Walk}

-- the part of the modules that a word names
abbrev pub kind_of : List ℕ → Option GraphKind
kind_of word =
    if bytes_eq word (codes "all") then Some All
    else (if bytes_eq word (codes "code") then Some CodeOnly
    else (if bytes_eq word (codes "types") then Some TypesOnly else None))

-- the walk over the part that a word names
abbrev pub walk_command : List ℕ → Option Command
walk_command word = option_map Walk (kind_of word)

-- the command of some words
abbrev pub command_of : List (List ℕ) → Option Command
command_of [] = None
command_of (word ∷ []) = if bytes_eq word (codes "build") then Some Build else None
command_of (word ∷ kind ∷ []) = if bytes_eq word (codes "walk") then walk_command kind else None
command_of (word ∷ kind ∷ more ∷ words) = None

-- whether words are those of a command
abbrev pub is_command : List (List ℕ) → Bool
is_command words = is_some (command_of words)
