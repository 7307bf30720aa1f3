use Rattle.std.proofs.Common.{◌∙◌}
use Rattle.std.proofs.lemmas.List.{take_rest}
use Rattle.media_types.proofs.MediaLemmas.{ends_in_lower}
use Rattle.media_types.proofs.media.ends_with_text.Goals as goal

pub returns : goal.returns
returns c = c.is_text.ensures ∙ rw take_rest (ends_in_lower c.args.bytes.now c.args.text.now)
