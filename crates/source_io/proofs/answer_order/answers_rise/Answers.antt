use Rattle.std.proofs.Common.{◌≡◌, rules}
use Rattle.std.proofs.lemmas.Fn.{always_returns_same}
use Rattle.std.specs.Ordering.{is_lt}
use Rattle.source_io.specs.AnswerOrder.{answer_cmp}
use Rattle.specifier_index.proofs.OrderLemmas.{neighbours_decide}
use Rattle.source_io.proofs.AnswerOrderLemmas.{answer_total}
use Rattle.source_io.proofs.answer_order.answers_rise.Goals as goal

pub returns : goal.returns
returns c =
    let compares = always_returns_same _ (λ a r. r ≡ is_lt (answer_cmp a.0.now a.1.0.now)) _ (λ a r f' k. search rules) in
    neighbours_decide answer_total c.args.answers.now c.is_sorted_by.result (c.is_sorted_by.ensures.cases (λ x y. is_lt (answer_cmp x y)) compares)
