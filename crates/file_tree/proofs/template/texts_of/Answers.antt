use Rattle.std.proofs.Common.{◌∙◌, ap, arith}
use Rattle.file_tree.specs.Template.{text_of_file}
use Rattle.file_tree.proofs.TextSets.{added_next}
use Rattle.file_tree.proofs.template.texts_of.Goals as goal

pub loop-file-preserved : goal.loop-file-preserved
loop-file-preserved c =
    added_next (text_of_file c.args.referrer.now c.args.parts.now c.args.is_json) c.args.files.now c.loop-file.file-index c.file-item.result c.loop-file.texts c.add.new.self c.in_ok-text_of_file.field-0 (omega arith) c.file-item.is c.loop-file.invariant
    (c.in_ok-text_of_file.ensures ∙ ap (text_of_file c.args.referrer.now c.args.parts.now c.args.is_json) c.as_str.ensures) c.in_ok-add.ensures
