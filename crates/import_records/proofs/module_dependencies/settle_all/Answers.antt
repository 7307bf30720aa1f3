use Rattle.std.proofs.Common.{rules}
use Rattle.import_records.proofs.EntryLemmas.{changed_and_kept}
use Rattle.import_records.proofs.module_dependencies.settle_all.Goals as goal

pub returns : goal.returns
returns c = changed_and_kept _ _ _ _ (λ k v b w g call. search rules) _ _ c.retain.ensures.filtered
