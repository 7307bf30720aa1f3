use Rattle.std.proofs.Common.{◌≡◌, [], drop, ap, ◌∙◌}
use Rattle.std.specs.Prelude.{fold}
use Rattle.indexmap.specs.IndexSet.{insert_key}
use Rattle.indexmap.proofs.CallerLemmas.{Drains-YieldsInOrder}
use Rattle.seen_pending.proofs.OnceLemmas.{added_once}
use Rattle.seen_pending.proofs.seen_pending.each_once.Goals as goal

pub returns : goal.returns
returns g c =
    let same = g.T.PartialEq.eq in
    let ran = c.in_ok-extend.ensures.ok in
    let all : ran.0 ≡ c.args.items.items =
    Drains-YieldsInOrder _ _ _ ran.0 c.into_iter.ensures.runs ran.1 ∙ c.into_iter.ensures.rest in
    c.in_ok-once.ensures ∙ ap (λ s. drop s.1 s.0) ran.2
    ∙ ap (λ s. drop s.1 (fold (insert_key same) s.0 ran.0)) c.in_ok-collection.ensures
    ∙ ap (λ xs. fold (insert_key same) [] xs) all ∙ added_once same [] c.args.items.items
