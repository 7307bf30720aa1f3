use Rattle.std.proofs.Common.{ap, ◌∙◌, Some}
use Rattle.source_sums.proofs.HashedByText.{get_by_text}
use Rattle.source_sums.proofs.remote_sums.RemoteSums.get.Goals as goal

pub returns-in_ok-try_clone-in-Some : goal.returns-in_ok-try_clone-in-Some
returns-in_ok-try_clone-in-Some c = rw (← c.self.view_is) (ap Some c.in_ok-try_clone-in-Some.ensures ∙ c.in-Some.ensures.value ∙ get_by_text c.self.inside.map c.args.specifier.now)

pub returns-in-None : goal.returns-in-None
returns-in-None c = rw (← c.self.view_is) (c.in-None.ensures.value ∙ get_by_text c.self.inside.map c.args.specifier.now)
