use Rattle.std.proofs.Common.{◌≡◌, length}
use Rattle.serde_json.specs.View.{members_view}
use Rattle.pkg_versions.specs.Exports.{text_members}
use Rattle.pkg_versions.proofs.exports.next_text.Given as goal

abbrev pub decreases-loop-name : goal.decreases-loop-name
decreases-loop-name l = length l.members

-- no text was passed over
abbrev pub invariant-loop-name : goal.invariant-loop-name
invariant-loop-name l = text_members (members_view l.members) ≡ text_members (members_view l.initial.members)
