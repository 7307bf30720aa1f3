use Rattle.std.proofs.Common.{Err, rules, subst}
use Rattle.world_upgrade.specs.Upgraded.{Writes, upgraded}
use Rattle.upgrade_program.proofs.Worlds.{none_read, text_read}
use Rattle.upgrade_program.proofs.upgrading.text_of.Goals as goal

pub returns-in-Ok-upgraded-clause-text : goal.returns-in-Ok-upgraded-clause-text
returns-in-Ok-upgraded-clause-text g c =
    text_read (g.S.ByteSource.left c.args.source.now) (g.S.ByteSource.left c.read_all.new.source) c.in-Ok.bytes c.as_slice.result.now (search rules) c.in-Ok-upgraded.text.bytes.items
    c.in-Ok.ensures.read (record { is = c.in-Ok-upgraded.ensures.text; same_world = c.in-Ok-upgraded.ensures.same_world; settled = c.in-Ok-upgraded.ensures.settled })

pub returns-clause-text : goal.returns-clause-text
returns-clause-text g c =
    none_read (g.S.ByteSource.left c.args.source.now) (g.S.ByteSource.left c.read_all.new.source) c.in-Ok.bytes c.as_slice.result.now (search rules) c.in-Ok.ensures.read
    (subst (λ r. Writes (Err r) (upgraded c.as_slice.result.now)) c.in-Err-Is.field-0-is c.in-Err-Is.ensures.text)
