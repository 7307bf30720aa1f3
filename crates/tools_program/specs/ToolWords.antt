-- The tools, by the words after the program's name.
use Rattle.std.specs.Prelude.{ℕ, Bool, true, false, ◌&&◌, List, [], ◌∷◌, bytes_eq, codes, Option, Some, None, is_some, if◌then◌else◌}
use Rattle.tools_program.specs.declared.tool_command.ToolCommand.{ToolCommand}
use Rattle.tools_program.specs.declared.tool_command.ToolCommand.TheVariants.{Lock, Policy, Map, Store, Replay}

-- the tool that a word alone names
abbrev pub tool_alone : List ℕ → Option ToolCommand
tool_alone word =
    if bytes_eq word (codes "lock") then Some (Lock false)
    else (if bytes_eq word (codes "policy") then Some Policy
    else (if bytes_eq word (codes "map") then Some Map
    else (if bytes_eq word (codes "store") then Some Store
    else (if bytes_eq word (codes "replay") then Some Replay else None))))

-- the tool that a word and a flag name
abbrev pub tool_with : List ℕ → List ℕ → Option ToolCommand
tool_with word flag = if bytes_eq word (codes "lock") && bytes_eq flag (codes "--strict") then Some (Lock true) else None

-- the tool of some words
abbrev pub tool_of : List (List ℕ) → Option ToolCommand
tool_of [] = None
tool_of (word ∷ []) = tool_alone word
tool_of (word ∷ flag ∷ []) = tool_with word flag
tool_of (word ∷ flag ∷ more ∷ words) = None

-- whether words are those of a tool
abbrev pub is_tool : List (List ℕ) → Bool
is_tool words = is_some (tool_of words)
