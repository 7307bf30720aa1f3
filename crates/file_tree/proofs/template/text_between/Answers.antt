use Rattle.std.proofs.Common.{◌∙◌, ap, sym, Some}
use Rattle.file_tree.specs.Template.{dotted}
use Rattle.file_tree.proofs.FormLemmas.{between_some, between_none}
use Rattle.file_tree.proofs.template.text_between.Goals as goal

pub returns-in_ok-dotted-in-Some : goal.returns-in_ok-dotted-in-Some
returns-in_ok-dotted-in-Some c =
    let r = rw c.in-Some.is at c.in_ok-text.ensures in
    ap Some (c.in_ok-dotted-in-Some.ensures ∙ ap dotted (c.into.ensures ∙ r.1)) ∙ sym (between_some c.args.base.now c.args.url.now r.0)

pub returns-in-None : goal.returns-in-None
returns-in-None c =
    let r = rw c.in-None.is at c.in_ok-text.ensures in sym (between_none c.args.base.now c.args.url.now r)
