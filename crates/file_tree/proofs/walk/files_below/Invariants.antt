-- What was found and what is found below the level make the whole.
use Rattle.std.proofs.Common.{◌≡◌, ℕ, ◌||◌, List}
use Rattle.std.specs.List.{list_any}
use Rattle.file_tree.specs.Walk.{files_below, has_path}
use Rattle.file_tree.proofs.WalkLemmas.{found, longest, reach}
use Rattle.file_tree.proofs.walk.files_below.Given as goal

abbrev pub invariant-levels : goal.invariant-levels
invariant-levels g l =
    (path : List ℕ)
    → (has_path l.files.items path || list_any (λ d. found (g.T.FileTree.paths l.tree) d path) l.level.items)
    ≡ has_path (files_below (g.T.FileTree.paths l.tree) l.directory) path

abbrev pub decreases-levels : goal.decreases-levels
decreases-levels g l = reach (longest (g.T.FileTree.paths l.tree)) l.level.items
