use Rattle.std.proofs.Common.{◌≡◌, List, ◌++◌, false, String, Global}
use Rattle.serde_json.specs.View.{members_view}
use Rattle.serde_json.specs.Written.{members_have_float}
use Rattle.spec_base.specs.Shown.{shown}
use Rattle.json_forms.specs.Dictionary.{members_json}
use Rattle.json_forms.proofs.dictionary.SortedTextsShown.to_json.Given as goal

-- the members written are those of the entries passed, and hold no float
abbrev pub invariant-loop-key : goal.invariant-loop-key
invariant-loop-key g l =
    (done : List (String Global × g.row.V.Denot)) × (l.initial.key-iterator ≡ done ++ l.key-iterator)
    × (members_view l.members.entries ≡ members_json g.V.Shown.json (shown done))
    × (members_have_float (members_view l.members.entries) ≡ false)
