use Rattle.std.proofs.Common.{◌≡◌, sym, subst}
use Rattle.std.proofs.lemmas.List.Elements.{same_from_all_zip}
use Rattle.specifier_index.proofs.TableLemmas.{Covers}
use Rattle.specifier_index.proofs.specifier_table.SpecifierTable.try_clone.Goals as goal

pub invariant_of-result : goal.invariant_of-result
invariant_of-result g c =
    let keys : c.in_ok-order.order.keys ≡ c.self.inside.order.keys = same_from_all_zip _ _ _ c.in_ok-order.ensures.cases (λ x y e. e) in
    subst (λ ss. Covers ss c.in_ok-values.values) (sym keys) (subst (Covers c.self.inside.order.keys) (sym c.in_ok-values.ensures) c.self.invariant)
