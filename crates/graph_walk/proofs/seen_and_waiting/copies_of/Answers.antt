use Rattle.std.proofs.Common.{◌+◌, ◌++◌, ◌∷◌, [], ◌∙◌, ap, sym, subst, arith, take}
use Rattle.std.proofs.lemmas.List.{take_more, take_all}
use Rattle.graph_walk.specs.Lent.{lent_texts}
use Rattle.graph_walk.specs.Lists.{SameMembers}
use Rattle.graph_walk.specs.Order.{texts}
use Rattle.graph_walk.proofs.Copies.{copied_next}
use Rattle.graph_walk.proofs.seen_and_waiting.copies_of.Goals as goal

pub loop-specifier-preserved : goal.loop-specifier-preserved
loop-specifier-preserved c =
    let l = c.loop-specifier in
    let us = c.args.specifiers.now in
    let u = c.specifier-item.result in
    copied_next l.copies c.insert.new.self c.in_ok-copy.copy (take l.specifier-index us) (take (l.specifier-index + 1) us) u l.invariant c.in_ok-copy.ensures.cases c.in_ok-insert.ensures.set
    (take_more us l.specifier-index u (omega arith) ∙ ap (λ x. take l.specifier-index us ++ x ∷ []) (sym c.specifier-item.is))

pub returns : goal.returns
returns c =
    let l = c.loop-specifier in
    subst (λ us. SameMembers (texts l.copies) (lent_texts us)) (take_all l.specifier-index c.args.specifiers.now (omega arith)) l.invariant
