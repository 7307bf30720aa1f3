-- The entries of a directory, from the names that a slash follows and those that none follows.
use Rattle.std.specs.Prelude.{ℕ, List, [], ◌∷◌, filter_map, Option, Some, None}
use Rattle.spec_base.specs.Options.{then_by}
use Rattle.file_tree.specs.declared.tree.TreeEntry.{TreeEntry}
use Rattle.file_tree.specs.Tree.{ascending, below, names}
use Rattle.file_tree.specs.Walk.{has_path}

-- the first name, where another follows
abbrev pub followed : List (List ℕ) → Option (List ℕ)
followed [] = None
followed (name ∷ []) = None
followed (name ∷ next ∷ others) = Some name

-- the name in the directory of a directory that the path lies under
unfoldable pub directory_towards : List ℕ → List ℕ → Option (List ℕ)
directory_towards directory path = then_by (below directory path) (λ part. followed (names part))

-- the names in the directory that another name follows, each once, in ascending order of their bytes
abbrev pub followed_in : List (List ℕ) → List ℕ → List (List ℕ)
followed_in paths directory = ascending (filter_map (directory_towards directory) paths)

-- the entry of a name, which is a directory where it is among these
abbrev pub listed : List (List ℕ) → List ℕ → TreeEntry
listed directories name = record { name = name; is_dir = has_path directories name }
