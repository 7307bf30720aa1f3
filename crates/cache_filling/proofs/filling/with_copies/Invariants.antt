-- Those that were found and those of what is left are those of all.
use Rattle.std.proofs.Common.{◌≡◌, ◌++◌, map}
use Rattle.std.specs.FinMap as finite
use Rattle.spec_base.specs.Specifier.{by_text, specifier_text}
use Rattle.cache_filling.specs.Copies.{with_copies}
use Rattle.cache_filling.proofs.filling.with_copies.Given as goal

abbrev pub invariant-loop-specifier : goal.invariant-loop-specifier
invariant-loop-specifier l =
    map specifier_text l.found.items ++ with_copies (by_text l.specifier-iterator) ≡ with_copies (finite.entries l.graph.slots)
