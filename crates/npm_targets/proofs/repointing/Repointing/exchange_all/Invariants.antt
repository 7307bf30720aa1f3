-- The roots so far were exchanged, and those that are left are to be.
use Rattle.std.proofs.Common.{◌≡◌, ◌++◌, true, drop}
use Rattle.std.specs.Prelude.{flat_map, fold}
use Rattle.import_records.specs.Target.{is_told_resolver}
use Rattle.npm_targets.specs.Edges.{repointing}
use Rattle.npm_targets.specs.Graphs.{KeepsOutset, exchanged, root_loads}
use Rattle.npm_targets.proofs.repointing.Repointing.exchange_all.Given as goal

abbrev pub invariant-loop-root : goal.invariant-loop-root
invariant-loop-root g l =
    let how = repointing g.U.JsrUrlProvider.meaning g.R.Resolver.meaning l.self in
    record {
      set : is_told_resolver g.R.Resolver.is_told l.self.targets.resolver ≡ true
          → fold (exchanged how l.range) l.set.keys (drop l.root-index l.roots) ≡ fold (exchanged how l.range) l.fn.set.keys l.roots;
      loads : is_told_resolver g.R.Resolver.is_told l.self.targets.resolver ≡ true
          → l.loads.items ++ flat_map (root_loads how l.range) (drop l.root-index l.roots) ≡ l.fn.loads.items ++ flat_map (root_loads how l.range) l.roots;
      outset : KeepsOutset l.fn.loads.items l.loads.items;
    }
