-- The slots so far were resolved again, and those that are left are as they were.
use Rattle.std.proofs.Common.{◌≡◌, ◌++◌, true, map}
use Rattle.std.specs.Prelude.{flat_map, option_and_then}
use Rattle.std.specs.FinMap as finite
use Rattle.std.specs.Vec.Iter.{into_iter_items}
use Rattle.spec_base.specs.Specifier.{specifier_text}
use Rattle.import_records.specs.Target.{is_told_resolver}
use Rattle.npm_targets.specs.Edges.{repointing}
use Rattle.npm_targets.specs.Graphs.{IsLeftAs, KeepsOutset, repointed_slot, slot_loads}
use Rattle.graph_core.proofs.StepLemmas.{AreApart, IsWalked, told_at}
use Rattle.npm_targets.proofs.repointing.Repointing.repoint_slots.Given as goal

abbrev pub invariant-loop-specifier : goal.invariant-loop-specifier
invariant-loop-specifier g l =
    let how = repointing g.U.JsrUrlProvider.meaning g.R.Resolver.meaning l.self in
    let left = map specifier_text (into_iter_items l.specifier-iterator) in
    record {
      apart : AreApart left;
      rest : l.graph ≡ record l.fn.graph { slots = l.graph.slots };
      slots : is_told_resolver g.R.Resolver.is_told l.self.targets.resolver ≡ true
          → IsWalked (λ o n. n ≡ option_and_then (repointed_slot how) o) left l.fn.graph.slots l.graph.slots;
      loads : is_told_resolver g.R.Resolver.is_told l.self.targets.resolver ≡ true
          → l.loads.items ++ told_at (slot_loads how) l.fn.graph.slots left ≡ l.fn.loads.items ++ flat_map (λ e. slot_loads how e.1) (finite.entries l.fn.graph.slots);
      left : IsWalked IsLeftAs left l.fn.graph.slots l.graph.slots;
      outset : KeepsOutset l.fn.loads.items l.loads.items;
    }
