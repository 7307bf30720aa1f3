use Rattle.std.proofs.Common.{◌∙◌, ap, sym}
use Rattle.std.specs.Prelude.{fold}
use Rattle.indexmap.specs.IndexSet.{insert_key}
use Rattle.spec_base.specs.Specifier.{same_specifier}
use Rattle.npm_targets.proofs.RootLemmas.{all_inserted}
use Rattle.npm_targets.proofs.roots.specifiers_of.Goals as goal

pub returns : goal.returns
returns c =
    let insert = insert_key same_specifier in
    sym (ap (fold insert c.loop-specifier.specifiers) c.in-None.ensures.steps.0)
    ∙ c.loop-specifier.invariant
    ∙ ap (λ ks. fold insert ks c.args.set.keys) c.new-specifiers.ensures
    ∙ all_inserted c.args.set.keys c.into_iter-specifier-iterator.ensures.into_iter_gives.3
