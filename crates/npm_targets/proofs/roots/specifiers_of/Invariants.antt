-- What was put and what is left are all.
use Rattle.std.proofs.Common.{◌≡◌}
use Rattle.std.specs.Prelude.{fold}
use Rattle.indexmap.specs.IndexSet.{insert_key}
use Rattle.spec_base.specs.Specifier.{same_specifier}
use Rattle.npm_targets.proofs.roots.specifiers_of.Given as goal

abbrev pub invariant-loop-specifier : goal.invariant-loop-specifier
invariant-loop-specifier l = fold (insert_key same_specifier) l.specifiers l.specifier-iterator ≡ fold (insert_key same_specifier) l.initial.specifiers l.fn.set.keys
