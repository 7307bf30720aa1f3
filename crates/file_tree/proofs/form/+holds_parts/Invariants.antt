use Rattle.std.proofs.Common.{length}
use Rattle.file_tree.proofs.form.+holds_parts.Given as goal

abbrev pub decreases-holds_parts : goal.decreases-holds_parts
decreases-holds_parts l = length l.parts.now
