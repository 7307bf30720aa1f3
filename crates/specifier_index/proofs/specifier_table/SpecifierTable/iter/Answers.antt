use Rattle.std.proofs.Common.{◌∙◌, ap}
use Rattle.std.specs.FinMap as finite
use Rattle.spec_base.specs.Specifier.{by_text}
use Rattle.specifier_index.specs.SpecifierTable.{lent}
use Rattle.specifier_index.proofs.TableLemmas.{all_lent}
use Rattle.specifier_index.proofs.specifier_table.SpecifierTable.iter.Goals as goal

pub returns : goal.returns
returns g c =
    let t = c.self.inside in
    ap (λ ss. by_text (lent t.values ss)) c.iter.ensures.rest
    ∙ all_lent t.values t.order.keys c.iter.ensures.ordered c.self.invariant
    ∙ ap finite.entries c.self.view_is
