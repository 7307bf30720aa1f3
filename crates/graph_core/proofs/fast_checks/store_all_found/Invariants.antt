-- What is done and what is left are all.
use Rattle.std.proofs.Common.{◌≡◌, ℕ, List}
use Rattle.std.specs.Prelude.{option_map}
use Rattle.std.specs.Vec.Iter.{into_iter_items}
use Rattle.graph_core.specs.FastChecks.{last_found, with_found}
use Rattle.graph_core.proofs.FastCheckLemmas.{slots_of}
use Rattle.graph_core.proofs.fast_checks.store_all_found.Given as goal

abbrev pub invariant-loop-specifier : goal.invariant-loop-specifier
invariant-loop-specifier l = (t : List ℕ)
    → option_map (with_found (last_found l.fn.modules.items t)) (slots_of l.initial.map.entries t) ≡ option_map (with_found (last_found (into_iter_items l.specifier-iterator) t)) (slots_of l.map.entries t)
