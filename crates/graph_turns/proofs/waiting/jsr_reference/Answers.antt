use Rattle.std.proofs.Common.{◌≡◌}
use Rattle.graph_turns.proofs.Entering.Named.{jsr_read, jsr_tagged, jsr_unread, jsr_untagged}
use Rattle.graph_turns.proofs.waiting.jsr_reference.Goals as goal

pub returns-in-Err-Is : goal.returns-in-Err-Is
returns-in-Err-Is c = rw c.in-Err-Is.field-0-is (jsr_unread c.args.specifier.now _ (jsr_read c.args.specifier.now _ (rw c.in-Err-Is.field-0-is at c.in-Err-Is.ensures.value)))

pub returns-in-Some : goal.returns-in-Some
returns-in-Some c = jsr_tagged c.args.specifier.now c.in-Ok.reference c.req.result.now _ (jsr_read c.args.specifier.now _ c.in-Ok.ensures.value) c.req.ensures c.in_ok-tag-in-Ok.ensures c.in-Some.tag c.in-Some.is

pub returns-in-None : goal.returns-in-None
returns-in-None c = jsr_untagged c.args.specifier.now c.in-Ok.reference c.req.result.now _ (jsr_read c.args.specifier.now _ c.in-Ok.ensures.value) c.req.ensures c.in_ok-tag-in-Ok.ensures c.into_inner.result c.in-None.is c.into_inner.ensures
