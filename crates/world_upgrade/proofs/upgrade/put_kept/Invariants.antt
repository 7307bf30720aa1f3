-- What was put and what is left to put are all.
use Rattle.std.proofs.Common.{◌≡◌, map, drop}
use Rattle.json_forms.specs.Rows.{members_from}
use Rattle.serde_json.specs.View.{view, members_view}
use Rattle.world_upgrade.specs.Upgraded.{kept_rows}
use Rattle.world_upgrade.proofs.upgrade.put_kept.Given as goal

abbrev pub invariant-loop-name : goal.invariant-loop-name
invariant-loop-name l =
    members_from (members_view l.fn.members.entries) (kept_rows (map (λ s. s.now) l.names) (view l.value))
    ≡ members_from (members_view l.members.entries) (kept_rows (map (λ s. s.now) (drop l.name-index l.names)) (view l.value))
