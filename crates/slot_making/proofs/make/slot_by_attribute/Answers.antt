use Rattle.std.proofs.Common.{Some, bytes_eq, codes, sym, ap, ◌∙◌}
use Rattle.slot_making.specs.Makers.{making_by}
use Rattle.slot_making.proofs.MadeLemmas.{json_told}
use Rattle.slot_making.proofs.make.slot_by_attribute.Goals as goal

pub returns-then-eq-clause-told : goal.returns-then-eq-clause-told
returns-then-eq-clause-told g c = λ told.
    json_told _ _ (making_by g.S.Tree.FileTree.paths g.S.Urls.JsrUrlProvider.meaning g.S.Resolve.Resolver.meaning c.args.maker.now) c.args.source c.args.media c.args.context.now c.get-attribute.result.now.0 c.get-attribute.result.now.1 (c.in-Some.is ∙ ap Some (sym c.get-attribute.ensures))
    (ap (λ k. bytes_eq k (codes "json")) (sym c.as_str.ensures) ∙ sym c.if-eq.ensures)
    c.asserted_slot.ensures.made
