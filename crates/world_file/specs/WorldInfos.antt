-- The infos of a world file: what each JSON object is, and what an analyzer answers by it.
use Rattle.std.specs.Prelude.{List, [], ◌∷◌, map, codes, Option, Some, None, Result, Ok, Err}
use Rattle.serde_json.specs.Data.{Data}
use Rattle.serde_json.specs.Find.{get}
use Rattle.url.specs.Parts.{Parts}
use Rattle.spec_base.specs.declared.refusal.Fault.{Fault}
use Rattle.json_forms.specs.Form.{Form, text, given, ◌>>=◌}
use Rattle.json_forms.specs.Infos.Info.{info_of}
use Rattle.json_forms.specs.Keyed.{keyed_or_empty}
use Rattle.json_forms.specs.Member.{has_names, required}
use Rattle.json_forms.specs.declared.infos.info.InfoFault.{InfoFault}
use Rattle.module_info.specs.declared.types.ModuleInfo.{ModuleInfo}
use Rattle.world_file.specs.declared.world_infos.InfoEntry.{InfoEntry}
use Rattle.world_file.specs.declared.world_infos.InfoEntry.TheVariants as entry_is

-- a fault: exactly the members `class` and `message`
abbrev pub fault : Form Fault
fault d = do
  known ← given (has_names (codes "class" ∷ codes "message" ∷ []) d)
  class ← required text (codes "class") d
  message ← required text (codes "message") d
  Some (record { class = class; message = message })

-- an info that was read, whatever the fault where none was
abbrev pub if_ok : Result ModuleInfo InfoFault → Option ModuleInfo
if_ok (Ok info) = Some info
if_ok (Err e) = None

-- an info in its whole form
abbrev pub info : Form ModuleInfo
info d = if_ok (info_of d)

-- an info, or the fault that stands in the place of one
abbrev pub info_or_error : Data → Option Data → Option InfoEntry
info_or_error d None = do
  found ← info d
  Some (entry_is.Info found)
info_or_error d (Some error) = do
  known ← given (has_names (codes "error" ∷ []) d)
  found ← fault error
  Some (entry_is.Failed found)

-- an info, or the fault that stands alone in the member `error`
abbrev pub info_entry : Form InfoEntry
info_entry d = info_or_error d (get (codes "error") d)

-- what an analyzer answers by an entry
abbrev pub analysis_of : InfoEntry → Result ModuleInfo Fault
analysis_of (entry_is.Info info) = Ok info
analysis_of (entry_is.Failed fault) = Err fault

-- the infos by their keys
abbrev pub infos_of : Form (List (Parts × InfoEntry))
infos_of d = keyed_or_empty info_entry (codes "infos") d

-- what an analyzer answers by all entries
abbrev pub analyses_of : List (Parts × InfoEntry) → List (Parts × Result ModuleInfo Fault)
analyses_of infos = map (λ e. (e.0, analysis_of e.1)) infos
