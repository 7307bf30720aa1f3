use Rattle.std.proofs.Common.{◌≡◌, map, option_map}
use Rattle.std.specs.Vec.Iter.{into_iter_items}
use Rattle.serde_json.specs.Data.{no_members}
use Rattle.serde_json.specs.View.{view, members_view}
use Rattle.json_forms.specs.Rows.{members_from}
use Rattle.json_forms.proofs.rows.put_rows.Given as goal

-- what is put and what is left make the whole
abbrev pub invariant-loop-name : goal.invariant-loop-name
invariant-loop-name l =
    members_from no_members (map (λ r. (r.0.now, option_map view r.1)) l.fn.rows.items)
    ≡ members_from (members_view l.members.entries) (map (λ r. (r.0.now, option_map view r.1)) (into_iter_items l.name-iterator))
