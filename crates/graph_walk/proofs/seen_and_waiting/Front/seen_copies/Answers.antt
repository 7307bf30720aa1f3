use Rattle.std.proofs.Common.{◌≡◌, ◌∙◌, ap, subst}
use Rattle.std.proofs.lemmas.Result.{IfOk-weaker}
use Rattle.graph_walk.specs.Lent.{lent_texts}
use Rattle.graph_walk.specs.Lists.{SameMembers}
use Rattle.graph_walk.specs.Order.{FrontView, texts}
use Rattle.graph_walk.proofs.seen_and_waiting.Front.seen_copies.Goals as goal

pub returns : goal.returns
returns c =
    let seen = c.args.self.now.front.seen in
    let all : lent_texts c.as_slice.result.now ≡ seen = ap lent_texts c.as_slice.ensures.keys ∙ ap (λ (v : FrontView). v.front.seen) c.self.view_is in
    IfOk-weaker c.copies_of.result (λ s. SameMembers (texts s) (lent_texts c.as_slice.result.now)) (λ s. SameMembers (texts s) seen) (λ s. subst (SameMembers (texts s)) all) c.copies_of.ensures
