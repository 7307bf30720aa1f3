use Rattle.std.proofs.Common.{◌∙◌}
use Rattle.source_sums.specs.VersionKeys.{nv_exact, nv_total}
use Rattle.metadata_store.proofs.FiniteLemmas.{has_is, put_new, stands}
use Rattle.metadata_store.proofs.version_answers.VersionAnswers.add.Goals as goal

pub returns-then-contains_key-clause-ok : goal.returns-then-contains_key-clause-ok
returns-then-contains_key-clause-ok g c =
    let has = has_is nv_total c.self.inside.map c.args.nv c.contains_key.result c.contains_key.ensures in
    rw (← c.self.view_is) (stands nv_total _ c.args.nv c.args.answer (has ∙ c.if-contains_key.true))

pub returns-clause-ok : goal.returns-clause-ok
returns-clause-ok g c =
    let has = has_is nv_total c.self.inside.map c.args.nv c.contains_key.result c.contains_key.ensures in
    rw (← c.self.view_is) (put_new nv_total nv_exact c.self.inside.map.entries c.insert.new.self.entries c.args.nv c.args.answer c.in_ok-insert.ensures.entries (has ∙ c.if-contains_key.false))
