-- The imports before the place were resolved again, and those from it on are left.
use Rattle.std.proofs.Common.{◌≡◌, ◌++◌, true, length}
use Rattle.std.specs.Prelude.{flat_map}
use Rattle.import_records.specs.Target.{is_told_resolver}
use Rattle.npm_targets.specs.Edges.{all_loads_again, repointing}
use Rattle.npm_targets.specs.Graphs.{KeepsOutset, repointed_imports}
use Rattle.npm_targets.proofs.EntryLemmas.{changed_from, told_from}
use Rattle.npm_targets.proofs.EntryWords.{import_again, import_loads_again}
use Rattle.npm_targets.proofs.repointing.Repointing.repoint_all_imports.Given as goal

abbrev pub invariant-loop-at : goal.invariant-loop-at
invariant-loop-at g l =
    let how = repointing g.U.JsrUrlProvider.meaning g.R.Resolver.meaning l.self in
    record {
      end : l.at-end ≡ length l.imports.entries;
      imports : is_told_resolver g.R.Resolver.is_told l.self.targets.resolver ≡ true
          → changed_from (import_again how) (import_loads_again how) l.at l.imports.entries ≡ repointed_imports how l.fn.imports.entries;
      loads : is_told_resolver g.R.Resolver.is_told l.self.targets.resolver ≡ true
          → l.loads.items ++ told_from (import_again how) (import_loads_again how) l.at l.imports.entries ≡ l.fn.loads.items ++ flat_map (λ e. all_loads_again how e.1.dependencies) l.fn.imports.entries;
      outset : KeepsOutset l.fn.loads.items l.loads.items;
    }
