use Rattle.std.proofs.Common.{ap, ◌∙◌, is_some}
use Rattle.source_sums.proofs.HashedByText.{get_by_text}
use Rattle.source_sums.proofs.remote_sums.RemoteSums.has.Goals as goal

pub returns : goal.returns
returns c = rw (← c.self.view_is) (c.contains_key.ensures ∙ ap is_some (get_by_text c.self.inside.map c.args.specifier.now))
