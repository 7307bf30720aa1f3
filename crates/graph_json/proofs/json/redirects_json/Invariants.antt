-- What is put and what is left make the whole.
use Rattle.std.proofs.Common.{◌≡◌, map}
use Rattle.std.specs.FinMap as finite
use Rattle.serde_json.specs.Data.{no_members}
use Rattle.serde_json.specs.View.{members_view}
use Rattle.json_forms.specs.Rows.{members_from}
use Rattle.spec_base.specs.Specifier.{by_text}
use Rattle.graph_json.specs.GraphJson.{redirect_row}
use Rattle.graph_json.proofs.json.redirects_json.Given as goal

abbrev pub invariant-loop-specifier : goal.invariant-loop-specifier
invariant-loop-specifier l =
    members_from no_members (map redirect_row (finite.entries l.redirects))
    ≡ members_from (members_view l.members.entries) (map redirect_row (by_text l.specifier-iterator))
