use Rattle.std.proofs.Common.{◌∙◌, sym}
use Rattle.std.specs.Cmp.Lexicographic.{nat_list_cmp_total}
use Rattle.metadata_store.proofs.FiniteLemmas.{len_is}
use Rattle.metadata_store.proofs.name_answers.NameAnswers.len.Goals as goal

pub returns-clause-exact : goal.returns-clause-exact
returns-clause-exact g c = rw (← c.self.view_is) (c.len.ensures.len ∙ sym (len_is nat_list_cmp_total c.self.inside.map.entries c.len.ensures.ordered))
