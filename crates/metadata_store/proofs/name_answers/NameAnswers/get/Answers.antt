use Rattle.std.proofs.Common.{◌∙◌}
use Rattle.std.specs.Cmp.Lexicographic.{nat_list_cmp_total}
use Rattle.metadata_store.proofs.FiniteLemmas.{get_is}
use Rattle.metadata_store.proofs.name_answers.NameAnswers.get.Goals as goal

pub returns : goal.returns
returns g c = rw (← c.self.view_is) (c.get.ensures.value ∙ get_is nat_list_cmp_total c.self.inside.map c.args.name.now)
