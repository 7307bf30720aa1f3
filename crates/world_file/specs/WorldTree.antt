-- The tree of files that a world file tells.
use Rattle.std.specs.Prelude.{ℕ, Bool, nat_eq, List, codes, Some}
use Rattle.std.specs.List.{list_all, starts_with}
use Rattle.json_forms.specs.Form.{Form, text, given, ◌>>=◌}
use Rattle.json_forms.specs.Member.{or_empty}

-- a path that leads from the root
abbrev pub is_absolute : List ℕ → Bool
is_absolute path = starts_with nat_eq path (codes "/")

-- the paths of the files, each from the root on; none where they are absent
abbrev pub tree_of : Form (List (List ℕ))
tree_of d = do
  paths ← or_empty text (codes "tree") d
  absolute ← given (list_all is_absolute paths)
  Some paths
