-- None of the paths so far lies under the directory.
use Rattle.std.proofs.Common.{◌≡◌, false, string_bytes, take}
use Rattle.std.specs.Prelude.{is_some}
use Rattle.std.specs.List.{list_any}
use Rattle.file_tree.specs.Tree.{below}
use Rattle.file_tree.proofs.memory_tree.is_directory.Given as goal

abbrev pub invariant-loop-path : goal.invariant-loop-path
invariant-loop-path l =
    list_any (λ path. is_some (below l.directory (string_bytes path))) (take l.path-index l.paths) ≡ false
