-- The entries of the answers passed.
use Rattle.std.proofs.Common.{◌≡◌, map, take, All}
use Rattle.serde_json.specs.View.{view}
use Rattle.world_upgrade.specs.EntryJson.{entry_json}
use Rattle.world_upgrade.specs.Told.{IsEntryAgain}
use Rattle.world_upgrade.proofs.entries.entries_json.Given as goal

abbrev pub invariant-loop-entry : goal.invariant-loop-entry
invariant-loop-entry l =
    (map view l.values.items ≡ map entry_json (take l.entry-index l.entry-items))
    × All IsEntryAgain (take l.entry-index l.entry-items)
