-- What the directories so far have.
use Rattle.std.proofs.Common.{◌≡◌, ◌++◌, take, flat_map}
use Rattle.file_tree.specs.Walk.{files_in, directories_in}
use Rattle.file_tree.proofs.walk.next_level.Given as goal

abbrev pub invariant-loop-directory : goal.invariant-loop-directory
invariant-loop-directory g l = record {
  found : l.files.items ≡ l.fn.files.items ++ flat_map (files_in (g.T.FileTree.paths l.tree)) (take l.directory-index l.level);
  next : l.next.items ≡ flat_map (directories_in (g.T.FileTree.paths l.tree)) (take l.directory-index l.level);
}
