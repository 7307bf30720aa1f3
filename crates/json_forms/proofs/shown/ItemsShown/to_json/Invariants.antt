use Rattle.std.proofs.Common.{◌≡◌, map, take, false}
use Rattle.serde_json.specs.View.{view, items_view}
use Rattle.serde_json.specs.Written.{items_have_float}
use Rattle.json_forms.proofs.shown.ItemsShown.to_json.Given as goal

-- the JSON of the items passed, without floats
abbrev pub invariant-loop-item : goal.invariant-loop-item
invariant-loop-item g l =
    (map view l.values.items ≡ map g.T.Shown.json (take l.item-index l.item-items))
    × (items_have_float (items_view l.values.items) ≡ false)
