-- The slots so far are filled, and those that are left are as they were.
use Rattle.std.proofs.Common.{◌≡◌, map}
use Rattle.std.specs.Vec.Iter.{into_iter_items}
use Rattle.spec_base.specs.Specifier.{specifier_text}
use Rattle.graph_core.proofs.StepLemmas.{AreApart, IsWalked}
use Rattle.cache_filling.specs.Filled.{IsFilledAt}
use Rattle.cache_filling.proofs.filling.fill_all.Given as goal

abbrev pub invariant-loop-specifier : goal.invariant-loop-specifier
invariant-loop-specifier g l =
    let left = map specifier_text (into_iter_items l.specifier-iterator) in
    record {
      apart : AreApart left;
      rest : l.graph ≡ record l.fn.graph { slots = l.graph.slots };
      slots : IsWalked (IsFilledAt (g.L.LoaderCore.world l.loader)) left l.fn.graph.slots l.graph.slots;
    }
