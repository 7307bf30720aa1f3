use Rattle.std.proofs.Common.{◌≡◌, ap, ◌∙◌, rules}
use Rattle.std.specs.Prelude.{codes}
use Rattle.json_forms.specs.Rows.{members_from, list_json}
use Rattle.serde_json.specs.Data.{number, unsigned, object, no_members, put}
use Rattle.serde_json.specs.View.{view, members_view}
use Rattle.serde_json.proofs.Views.{view-Object}
use Rattle.world_file.specs.WorldFile.{other_members}
use Rattle.world_upgrade.specs.EntryJson.{entry_json}
use Rattle.world_upgrade.specs.Upgraded.{kept_rows}
use Rattle.world_upgrade.proofs.upgrade.upgraded_json.Goals as goal

pub returns-clause-value : goal.returns-clause-value
returns-clause-value c =
    let none : members_view c.new-members.result.entries ≡ no_members = ap members_view c.new-members.ensures.empty in
    let version : view c.from.result ≡ number (unsigned 2) = search rules in
    let first = c.in_ok-put.ensures.ok ∙ (λ i. put (codes "version") (version i) (none i)) in
    let second = c.in_ok-put-2.ensures.ok ∙ (λ i. put (codes "answers") (c.in_ok-entries_json.ensures.value i) (first i)) in
    view-Object c.put_kept.new.members ∙ ap object (c.in_ok-put_kept.ensures ∙ (λ i. members_from (second i) (kept_rows other_members (view c.args.value.now))))
