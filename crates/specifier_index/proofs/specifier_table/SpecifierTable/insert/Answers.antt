use Rattle.std.proofs.Common.{◌≡◌, ◌∙◌, ap, rules, sym, subst}
use Rattle.std.specs.BTreeSet.{insert_key}
use Rattle.spec_base.specs.Specifier.{specifier_cmp}
use Rattle.specifier_index.proofs.TableLemmas.{Covers, by_result, covered_kept, covered_more, covered_put}
use Rattle.specifier_index.proofs.specifier_table.SpecifierTable.insert.Goals as goal

pub invariant_of-self : goal.invariant_of-self
invariant_of-self g c =
    let t = c.self.inside in
    let stood = sym c.contains_key.ensures ∙ c.if-contains_key.true in
    by_result c.insert.result c.insert.ensures.ok c.insert.ensures.err
    (λ put. subst (Covers t.order.keys) (sym put) (covered_kept t.order.keys t.values c.args.specifier c.args.value stood c.self.invariant))
    (λ same. subst (Covers t.order.keys) (sym same) c.self.invariant)

pub invariant_of-self-2 : goal.invariant_of-self-2
invariant_of-self-2 g c =
    let t = c.self.inside in
    let new = c.insert-2.new.self.keys in
    let key : c.in_ok-key.key ≡ c.args.specifier = search rules in
    let is : new ≡ insert_key specifier_cmp t.order.keys c.args.specifier = c.in_ok-insert.ensures.keys ∙ ap (insert_key specifier_cmp t.order.keys) key in
    by_result c.insert-3.result c.insert-3.ensures.ok c.insert-3.ensures.err
    (λ put. subst (Covers new) (sym put) (covered_put t.order.keys new t.values c.args.specifier c.args.value is c.self.invariant))
    (λ same. subst (Covers new) (sym same) (covered_more t.order.keys new t.values c.args.specifier is c.self.invariant))
