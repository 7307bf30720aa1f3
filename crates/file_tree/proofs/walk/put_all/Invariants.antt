-- What the entries so far are.
use Rattle.std.proofs.Common.{◌≡◌, ◌++◌, take, flat_map}
use Rattle.file_tree.specs.Walk.{file_at, directory_at}
use Rattle.file_tree.proofs.walk.put_all.Given as goal

abbrev pub invariant-loop-entry : goal.invariant-loop-entry
invariant-loop-entry l = record {
  found : l.files.items ≡ l.fn.files.items ++ flat_map (file_at l.directory) (take l.entry-index l.entries);
  next : l.next.items ≡ l.fn.next.items ++ flat_map (directory_at l.directory) (take l.entry-index l.entries);
}
