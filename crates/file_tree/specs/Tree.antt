-- Trees of files, told as the list of their files' absolute paths. A directory's path is written without a
-- slash at its end, so that the root's is empty.
use Rattle.std.specs.Prelude.{ℕ, ◌+◌, Bool, ◌==◌, nat_eq, List, [], ◌∷◌, ◌++◌, length, map, drop, codes, fold, filter_map, Option, Some, None, is_some, if◌then◌else◌}
use Rattle.std.specs.List.{starts_with, slice_split, list_any}
use Rattle.std.specs.BTreeSet.{insert_key}
use Rattle.spec_base.specs.Options.{then_by}
use Rattle.spec_base.specs.Shown.{text_cmp}
use Rattle.file_tree.specs.declared.tree.TreeEntry.{TreeEntry}

-- the distinct texts, in ascending order of their bytes
unfoldable pub ascending : List (List ℕ) → List (List ℕ)
ascending texts = fold (insert_key text_cmp) [] texts

-- the path of a directory's entry
abbrev pub entry_path : List ℕ → List ℕ → List ℕ
entry_path directory name = directory ++ 47 ∷ name

-- what stands after a directory and a slash, where the path lies under the directory
unfoldable pub below : List ℕ → List ℕ → Option (List ℕ)
below directory path =
    if starts_with nat_eq path (directory ++ codes "/") then Some (drop (length directory + 1) path) else None

-- the names that slashes separate
abbrev pub names : List ℕ → List (List ℕ)
names part = slice_split (λ b. b == 47) part

-- the first name, unless it is empty
abbrev pub leading : List (List ℕ) → Option (List ℕ)
leading [] = None
leading (name ∷ others) = if length name == 0 then None else Some name

-- the name of the directory's entry that is the path or leads to it
unfoldable pub name_towards : List ℕ → List ℕ → Option (List ℕ)
name_towards directory path = then_by (below directory path) (λ part. leading (names part))

-- a directory is what a path lies under, also where another path ends at it
unfoldable pub is_directory : List (List ℕ) → List ℕ → Bool
is_directory paths directory = list_any (λ path. is_some (below directory path)) paths

-- the names of a directory's entries, each once, in ascending order of their bytes
abbrev pub names_in : List (List ℕ) → List ℕ → List (List ℕ)
names_in paths directory = ascending (filter_map (name_towards directory) paths)

-- the entry of a name
abbrev pub entry_of : List (List ℕ) → List ℕ → List ℕ → TreeEntry
entry_of paths directory name = record { name = name; is_dir = is_directory paths (entry_path directory name) }

-- the entries of a directory; None where no path lies under it
unfoldable pub entries_of : List (List ℕ) → List ℕ → Option (List TreeEntry)
entries_of paths directory =
    if is_directory paths directory then Some (map (entry_of paths directory) (names_in paths directory)) else None
