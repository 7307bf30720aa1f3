-- What the descriptors so far stand for.
use Rattle.std.proofs.Common.{◌≡◌, take, flat_map}
use Rattle.file_tree.specs.Written.{written}
use Rattle.file_tree.proofs.written.all_written.Given as goal

abbrev pub invariant-loop-descriptor : goal.invariant-loop-descriptor
invariant-loop-descriptor g l =
    l.all ≡ flat_map (written (g.T.FileTree.paths l.tree) l.referrer) (take l.descriptor-index l.descriptors)
