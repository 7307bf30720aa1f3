-- The files below a directory.
use Rattle.std.specs.Prelude.{ℕ, Bool, false, not, ◌&&◌, ◌||◌, ◌==◌, nat_eq, List, [], ◌∷◌, length, codes, bytes_eq, filter, flat_map, unwrap_or, if◌then◌else◌}
use Rattle.std.specs.List.{starts_with, list_any}
use Rattle.spec_base.specs.Options.{by_option}
use Rattle.file_tree.specs.declared.tree.TreeEntry.{TreeEntry}
use Rattle.file_tree.specs.Tree.{below, names, is_directory, entry_path, entries_of}

-- directories that are passed over: hidden ones, and those of code from elsewhere
unfoldable pub is_passed_over : List ℕ → Bool
is_passed_over name =
    starts_with nat_eq name (codes ".") || bytes_eq name (codes "node_modules") || bytes_eq name (codes "vendor")

-- the names lead to a file through directories of which none is passed over
unfoldable pub leads : List (List ℕ) → Bool
leads [] = false
leads (name ∷ []) = not (length name == 0)
leads (name ∷ next ∷ others) = not (length name == 0) && not (is_passed_over name) && leads (next ∷ others)

-- the path is a file, and no directory between is passed over; what is a directory too is no file
unfoldable pub is_reached : List (List ℕ) → List ℕ → List ℕ → Bool
is_reached paths directory path =
    not (is_directory paths path) && by_option (below directory path) false (λ part. leads (names part))

-- the files below a directory, without those in directories that are passed over
abbrev pub files_below : List (List ℕ) → List ℕ → List (List ℕ)
files_below paths directory = filter (is_reached paths directory) paths

-- ---- one directory

-- whether a path is among others
abbrev pub has_path : List (List ℕ) → List ℕ → Bool
has_path paths path = list_any (bytes_eq path) paths

-- the file that an entry is
abbrev pub file_at : List ℕ → TreeEntry → List (List ℕ)
file_at directory entry = if entry.is_dir then [] else entry_path directory entry.name ∷ []

-- the directory that an entry is, unless it is passed over
abbrev pub directory_at : List ℕ → TreeEntry → List (List ℕ)
directory_at directory entry =
    if entry.is_dir && not (is_passed_over entry.name) then entry_path directory entry.name ∷ [] else []

-- the files that a directory has as entries
unfoldable pub files_in : List (List ℕ) → List ℕ → List (List ℕ)
files_in paths directory = flat_map (file_at directory) (unwrap_or (entries_of paths directory) [])

-- the directories that it has, without those that are passed over
unfoldable pub directories_in : List (List ℕ) → List ℕ → List (List ℕ)
directories_in paths directory = flat_map (directory_at directory) (unwrap_or (entries_of paths directory) [])
