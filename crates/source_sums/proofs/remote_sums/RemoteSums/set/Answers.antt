use Rattle.std.proofs.Common.{ap, ◌∙◌}
use Rattle.std.specs.FinMap as finite
use Rattle.spec_base.specs.Specifier.{specifier_text}
use Rattle.source_sums.specs.Sums.{sums_in}
use Rattle.source_sums.proofs.HashedByText.{insert_by_text}
use Rattle.source_sums.proofs.remote_sums.RemoteSums.set.Goals as goal

pub returns-clause-ok : goal.returns-clause-ok
returns-clause-ok c =
    let put = insert_by_text c.in_ok-key.key c.args.checksum c.self.inside.map.entries c.insert.new.self.entries c.in_ok-insert.ensures.updates.0 in
    rw (← c.self.view_is) (put ∙ ap (λ k. finite.insert (sums_in c.self.inside.map) (specifier_text k) c.args.checksum) c.in_ok-key.ensures.cases)
