-- What is put and what is left make the whole.
use Rattle.std.proofs.Common.{◌≡◌, map}
use Rattle.serde_json.specs.Data.{no_members}
use Rattle.serde_json.specs.View.{members_view}
use Rattle.json_forms.specs.Rows.{members_from}
use Rattle.graph_json.specs.GraphJson.{package_row}
use Rattle.graph_json.proofs.json.mappings_json.Given as goal

abbrev pub invariant-loop-requirement : goal.invariant-loop-requirement
invariant-loop-requirement l =
    members_from no_members (map package_row l.mappings.entries)
    ≡ members_from (members_view l.members.entries) (map package_row l.requirement-iterator)
