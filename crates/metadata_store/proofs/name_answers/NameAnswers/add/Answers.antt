use Rattle.std.proofs.Common.{◌∙◌}
use Rattle.std.specs.Cmp.Lexicographic.{nat_list_cmp_total}
use Rattle.metadata_store.proofs.FiniteLemmas.{has_is, put_new, stands, text_exact}
use Rattle.metadata_store.proofs.name_answers.NameAnswers.add.Goals as goal

pub returns-then-contains_key-clause-ok : goal.returns-then-contains_key-clause-ok
returns-then-contains_key-clause-ok g c =
    let has = has_is nat_list_cmp_total c.self.inside.map c.args.name c.contains_key.result c.contains_key.ensures in
    rw (← c.self.view_is) (stands nat_list_cmp_total _ c.args.name c.args.answer (has ∙ c.if-contains_key.true))

pub returns-clause-ok : goal.returns-clause-ok
returns-clause-ok g c =
    let has = has_is nat_list_cmp_total c.self.inside.map c.args.name c.contains_key.result c.contains_key.ensures in
    rw (← c.self.view_is) (put_new nat_list_cmp_total text_exact c.self.inside.map.entries c.insert.new.self.entries c.args.name c.args.answer c.in_ok-insert.ensures.entries (has ∙ c.if-contains_key.false))
