-- What is left has the charset of the whole.
use Rattle.std.proofs.Common.{◌≡◌, length}
use denote.Shadow.{shadow}
use denote.Text.{Utf8}
use Rattle.media_types.specs.ContentType.{charset_after}
use Rattle.media_types.proofs.content_type.charset_of.Given as goal

abbrev pub invariant-loop-rest : goal.invariant-loop-rest
invariant-loop-rest l = (charset_after l.fn.text ≡ charset_after l.left) × shadow (Utf8 l.left)

abbrev pub decreases-loop-rest : goal.decreases-loop-rest
decreases-loop-rest l = length l.left
