-- The dependencies before the place were resolved again, and those from it on are left.
use Rattle.std.proofs.Common.{◌≡◌, ◌++◌, true, length, map}
use Rattle.std.specs.Prelude.{flat_map}
use Rattle.import_records.specs.Target.{is_told_resolver}
use Rattle.npm_targets.specs.Edges.{repointing}
use Rattle.npm_targets.specs.Graphs.{KeepsOutset}
use Rattle.npm_targets.proofs.EntryLemmas.{changed_from, told_from}
use Rattle.npm_targets.proofs.EntryWords.{entry_again, entry_loads}
use Rattle.npm_targets.proofs.repointing.Repointing.repoint_entries.Given as goal

abbrev pub invariant-loop-at : goal.invariant-loop-at
invariant-loop-at g l =
    let how = repointing g.U.JsrUrlProvider.meaning g.R.Resolver.meaning l.self in
    record {
      end : l.at-end ≡ length l.entries.entries;
      entries : is_told_resolver g.R.Resolver.is_told l.self.targets.resolver ≡ true
          → changed_from (entry_again how) (entry_loads how) l.at l.entries.entries ≡ map (λ e. (e.0, entry_again how e.0 e.1)) l.fn.entries.entries;
      loads : is_told_resolver g.R.Resolver.is_told l.self.targets.resolver ≡ true
          → l.loads.items ++ told_from (entry_again how) (entry_loads how) l.at l.entries.entries ≡ l.fn.loads.items ++ flat_map (λ e. entry_loads how e.0 e.1) l.fn.entries.entries;
      outset : KeepsOutset l.fn.loads.items l.loads.items;
    }
