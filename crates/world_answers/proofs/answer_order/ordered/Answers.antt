use Rattle.std.proofs.Common.{◌≡◌, ◌∙◌, ap, sym, subst, rules}
use Rattle.std.proofs.lemmas.Fn.{always_returns_same, dedup_same}
use Rattle.std.proofs.lemmas.List.Sorted.{ranks_by}
use Rattle.std.specs.List.Sorted.{IsStrictlySortedBy}
use Rattle.std.specs.Ordering.{is_eq, is_lt}
use Rattle.source_io.specs.AnswerOrder.{answer_cmp}
use Rattle.source_io.proofs.AnswerOrderLemmas.{answer_total}
use Rattle.world_answers.specs.AnswerOrder.{ordered}
use Rattle.world_answers.proofs.OrderLemmas.{sorted_ordered, rising_ordered}
use Rattle.world_answers.proofs.answer_order.ordered.Goals as goal

pub returns-then-answers_rise : goal.returns-then-answers_rise
returns-then-answers_rise c = sym (rising_ordered _ (subst (IsStrictlySortedBy answer_cmp) c.as_slice.ensures (c.answers_rise.ensures.0 c.if-answers_rise.true)))

pub returns : goal.returns
returns c =
    let weak = ranks_by answer_total (λ x. x) in
    let compares = always_returns_same _ (λ a r. is_lt r ≡ is_lt (answer_cmp a.0.now a.1.0.now)) _ (λ a r f' k. search rules) in
    let sorted = c.in_ok-sort_by.ensures.sorted (λ x y. is_lt (answer_cmp x y)) weak compares in
    let stable = c.in_ok-sort_by.ensures.stable (λ x y. is_lt (answer_cmp x y)) weak compares in
    c.from.ensures
    ∙ dedup_same _ (λ x y. is_eq (answer_cmp x y)) _ (λ x y b f' x' y' k. search rules) _ _ c.dedup_by.ensures.filtered
    ∙ sorted_ordered c.into_vec-answers.result.items _ sorted stable ∙ ap ordered c.into_vec-answers.ensures
