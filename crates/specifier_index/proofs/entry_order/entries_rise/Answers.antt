use Rattle.std.proofs.Common.{◌≡◌, rules}
use Rattle.std.proofs.lemmas.Fn.{always_returns_same}
use Rattle.std.specs.Ordering.{is_lt}
use Rattle.specifier_index.specs.EntryOrder.{entry_cmp}
use Rattle.specifier_index.proofs.OrderLemmas.{entry_total, neighbours_decide}
use Rattle.specifier_index.proofs.entry_order.entries_rise.Goals as goal

pub returns : goal.returns
returns g c =
    let compares = always_returns_same _ (λ a r. r ≡ is_lt (entry_cmp a.0.now a.1.0.now)) _ (λ a r f' k. search rules) in
    neighbours_decide entry_total c.args.entries.now c.is_sorted_by.result (c.is_sorted_by.ensures.cases (λ x y. is_lt (entry_cmp x y)) compares)
