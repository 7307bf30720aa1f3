-- The imports of the texts so far.
use Rattle.std.proofs.Common.{◌≡◌, ◌++◌, take, map}
use Rattle.file_tree.specs.Written.{with_text}
use Rattle.file_tree.proofs.written.put_texts.Given as goal

abbrev pub invariant-loop-text : goal.invariant-loop-text
invariant-loop-text l = l.all ≡ l.fn.all ++ map (with_text l.dynamic) (take l.text-index l.texts)
