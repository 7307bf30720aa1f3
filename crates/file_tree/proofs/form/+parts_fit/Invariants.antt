use Rattle.std.proofs.Common.{length}
use Rattle.file_tree.proofs.form.+parts_fit.Given as goal

abbrev pub decreases-parts_fit : goal.decreases-parts_fit
decreases-parts_fit l = length l.parts.now
