use Rattle.std.proofs.Common.{◌∙◌}
use Rattle.file_tree.proofs.FormLemmas.{text_at, no_text}
use Rattle.file_tree.proofs.file_url.text_of_bytes.Goals as goal

pub returns-in_ok-from_str-in-Ok : goal.returns-in_ok-from_str-in-Ok
returns-in_ok-from_str-in-Ok c =
    text_at c.args.bytes.now _ (c.in_ok-from_str-in-Ok.ensures ∙ c.in-Ok.ensures.cases.0) c.in-Ok.ensures.cases.1

pub returns-in-Err : goal.returns-in-Err
returns-in-Err c = no_text c.args.bytes.now c.in-Err.ensures.cases.0
