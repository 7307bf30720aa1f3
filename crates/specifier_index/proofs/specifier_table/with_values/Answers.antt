use Rattle.std.proofs.Common.{rules}
use Rattle.std.specs.FinMap as finite
use Rattle.std.proofs.lemmas.Fn.{filter_same}
use Rattle.spec_base.specs.Specifier.{specifier_text}
use Rattle.specifier_index.proofs.specifier_table.with_values.Goals as goal

pub returns : goal.returns
returns g c = filter_same _ (λ s. finite.contains_key c.args.values.now (specifier_text s)) _ (λ s b f' t. search rules) _ _ c.retain.ensures.filtered
