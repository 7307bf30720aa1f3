use Rattle.std.proofs.Common.{◌≡◌, List, ℕ, Bool, true, false, Option, Some, None, IsUtf8, if◌then◌else◌, option_and_then, refl, sym, ap, subst, rules}
use Rattle.std.proofs.lemmas.Str.{IsUtf8-from_is_utf8, is_utf8-from_IsUtf8}
use Rattle.std.specs.Str.{is_utf8}
use Rattle.serde_json.specs.Data.{Data}
use Rattle.serde_json.specs.Read.{read}
use Rattle.spec_base.specs.Refusal.{Reads}
use Rattle.import_map.specs.declared.map.ImportMap.{ImportMap}
use Rattle.tools_program.specs.MapLine.{map_form, map_of_line}
use Rattle.tools_program.proofs.map_line.map_of_line.Goals as goal

-- text that reads as some data is the map that the data is
map_of_line-read : (bytes : List ℕ) (d : Data) → IsUtf8 bytes → read bytes ≡ Some d → map_of_line bytes ≡ map_form d
unfolding map_of_line
map_of_line-read bytes d valid reads = rw (is_utf8-from_IsUtf8 bytes valid, reads)

none_unless : (b : Bool) (o : Option ImportMap) → (b ≡ true → o ≡ None) → (if b then o else None) ≡ None
none_unless true o h = h refl
none_unless false o h = refl

-- bytes that are no JSON text are no map
map_of_line-none : (bytes : List ℕ) → (IsUtf8 bytes → read bytes ≡ None) → map_of_line bytes ≡ None
unfolding map_of_line
map_of_line-none bytes h = none_unless (is_utf8 bytes) _ (λ e. ap (option_and_then map_form) (h (IsUtf8-from_is_utf8 bytes e)))

pub returns-in-Ok : goal.returns-in-Ok
returns-in-Ok c = subst (λ (o : Option ImportMap). Reads c.read_map.result o) (sym (map_of_line-read c.args.line.now _ c.in-Ok.ensures.ok.0 c.in-Ok.ensures.ok.1)) c.read_map.ensures

pub returns-else-is_memory : goal.returns-else-is_memory
returns-else-is_memory c = map_of_line-none c.args.line.now (c.in-Err.ensures.err (search rules))
