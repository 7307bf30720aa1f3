use Rattle.std.proofs.Common.{◌≡◌, rules, sym}
use Rattle.std.proofs.lemmas.Fn.{always_returns_same}
use Rattle.source_io.proofs.AnswerOrderLemmas.{stands_to, found_in_order, none_in_order}
use Rattle.source_io.proofs.answer_order.listed_in_order.Goals as goal

pub returns-in-Ok : goal.returns-in-Ok
returns-in-Ok c =
    let s = c.args.specifier.now in
    let p = c.args.purpose in
    let equal = c.in-Ok.ensures.position (stands_to s p) (always_returns_same _ (λ a r. r ≡ stands_to s p a.0.now) _ (λ a r f' k. search rules)) in
    sym (found_in_order c.args.answers.now s p c.in-Ok.place c.index-answers-place.result c.requires c.in-Ok.ensures.bound (equal c.index-answers-place.result))

pub returns-in-Err : goal.returns-in-Err
returns-in-Err c =
    let s = c.args.specifier.now in
    let p = c.args.purpose in
    let parts = c.in-Err.ensures.position (stands_to s p) (always_returns_same _ (λ a r. r ≡ stands_to s p a.0.now) _ (λ a r f' k. search rules)) in
    sym (none_in_order c.args.answers.now s p c.in-Err.field-0 c.requires parts)
