-- What stands after the part is the same in what is left of the text.
use Rattle.std.proofs.Common.{◌≡◌, length}
use Rattle.file_tree.specs.Template.{after_part}
use Rattle.file_tree.proofs.form.after_part.Given as goal

abbrev pub invariant-loop-left : goal.invariant-loop-left
invariant-loop-left l = after_part l.part l.left ≡ after_part l.part l.fn.text

abbrev pub decreases-loop-left : goal.decreases-loop-left
decreases-loop-left l = length l.left
