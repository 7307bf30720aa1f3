-- Ranges of a text as JSON: `[[line, character], [line, character]]`, each counted from zero.
use Rattle.std.specs.Prelude.{Some}
use Rattle.serde_json.specs.Data.{Data, number, unsigned, array, item, no_items}
use Rattle.spec_base.specs.declared.position.Position.{Position}
use Rattle.spec_base.specs.declared.position.PositionRange.{PositionRange}
use Rattle.json_forms.specs.Form.{Form, whole, pair, ◌>>=◌}

-- [line, character]
abbrev pub position : Form Position
position d = do
  p ← pair d
  line ← whole p.0
  character ← whole p.1
  Some (record { line = line; character = character })

-- [start, end]
abbrev pub position_range : Form PositionRange
position_range d = do
  p ← pair d
  start ← position p.0
  end ← position p.1
  Some (record { start = start; end = end })

abbrev pub pair_json : Data → Data → Data
pair_json a b = array (item a (item b no_items))

abbrev pub position_json : Position → Data
position_json p = pair_json (number (unsigned p.line)) (number (unsigned p.character))

abbrev pub range_json : PositionRange → Data
range_json r = pair_json (position_json r.start) (position_json r.end)
