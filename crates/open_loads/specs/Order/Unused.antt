-- Questions that were queued under a ticket and whose answers aren't used yet.
use Rattle.std.specs.Prelude.{◌≡◌, ◌≢◌, ◌⊎◌, ℕ, nat_eq, List, [], ◌∷◌, ◌++◌, Option, Some, None, if◌then◌else◌}
use Rattle.url.specs.Parts.{Parts}
use Rattle.source_io.specs.declared.types.CacheSetting.{CacheSetting}
use Rattle.source_io.specs.declared.types.Question.{Question}
use Rattle.module_slots.specs.declared.load.Load.{Load}
use Rattle.graph_turns.specs.declared.question_of.Asked.{Asked}
use Rattle.graph_turns.specs.declared.later_content.LaterContent.{LaterContent}
use Rattle.graph_turns.specs.declared.registry.RegistryFile.{RegistryFile}
use Rattle.graph_turns.specs.Machine.Known.{Known}
use Rattle.graph_turns.specs.Promise.Contents.{content_question}
use Rattle.graph_turns.specs.Promise.Versions.{manifest_at, metadata_question}
use Rattle.open_loads.specs.declared.turn_stage.Stage.{Stage}
use Rattle.open_loads.specs.declared.turn_stage.Stage.TheVariants.{Idle, Asks, AsksAgain, Reads, Looks, Fills}
use Rattle.open_loads.specs.Order.Asking.{asked_question, again_question, wanted_question}

pub record Due : Type 0 where
  pub ticket : ℕ
  pub question : Question

-- the first questions of loads that were put ahead; further loads have none yet
abbrev pub dues_of : Known → List (Option (ℕ × Asked)) → List Load → List Due
dues_of known [] loads = []
dues_of known (p ∷ ps) [] = []
dues_of known (None ∷ ps) (load ∷ loads) = dues_of known ps loads
dues_of known (Some p ∷ ps) (load ∷ loads) = record { ticket = p.0; question = asked_question known load p.1 } ∷ dues_of known ps loads

-- the questions about contents that were put
abbrev pub content_dues : Known → List ℕ → List LaterContent → List Due
content_dues known [] contents = []
content_dues known (t ∷ ts) [] = []
content_dues known (t ∷ ts) (l ∷ ls) = record { ticket = t; question = content_question known l } ∷ content_dues known ts ls

-- the questions about files of the registry that were put, under the setting of the run
abbrev pub file_dues : CacheSetting → Known → List (Option (ℕ × Parts)) → List RegistryFile → List Due
file_dues setting known [] files = []
file_dues setting known (p ∷ ps) [] = []
file_dues setting known (None ∷ ps) (file ∷ files) = file_dues setting known ps files
file_dues setting known (Some p ∷ ps) (file ∷ files) = record { ticket = p.0; question = wanted_question setting known file p.1 } ∷ file_dues setting known ps files

-- the question of the turn that stands
abbrev pub stage_due : CacheSetting → Known → Stage → List Load → List RegistryFile → List LaterContent → List Due
stage_due setting known Idle loads files contents = []
stage_due setting known (Asks t asked) [] files contents = []
stage_due setting known (Asks t asked) (load ∷ loads) files contents = record { ticket = t; question = asked_question known load asked } ∷ []
stage_due setting known (AsksAgain t asked first) [] files contents = []
stage_due setting known (AsksAgain t asked first) (load ∷ loads) files contents = record { ticket = t; question = again_question known load asked } ∷ []
stage_due setting known (Reads t nv at) loads files contents = record { ticket = t; question = metadata_question setting at (manifest_at known.manifests nv) } ∷ []
stage_due setting known (Looks t at) loads [] contents = []
stage_due setting known (Looks t at) loads (file ∷ files) contents = record { ticket = t; question = wanted_question setting known file at } ∷ []
stage_due setting known (Fills t) loads files [] = []
stage_due setting known (Fills t) loads files (l ∷ ls) = record { ticket = t; question = content_question known l } ∷ []

-- all but the first
abbrev pub behind_first : {X : Type 0} → List X → List X
behind_first [] = []
behind_first (x ∷ xs) = xs

-- the loads behind the turn that stands
abbrev pub loads_behind : Stage → List Load → List Load
loads_behind Idle loads = loads
loads_behind (Asks t asked) loads = behind_first loads
loads_behind (AsksAgain t asked first) loads = behind_first loads
loads_behind (Reads t nv at) loads = behind_first loads
loads_behind (Looks t at) loads = loads
loads_behind (Fills t) loads = loads

-- the contents behind it
abbrev pub contents_behind : Stage → List LaterContent → List LaterContent
contents_behind Idle contents = contents
contents_behind (Asks t asked) contents = contents
contents_behind (AsksAgain t asked first) contents = contents
contents_behind (Reads t nv at) contents = contents
contents_behind (Looks t at) contents = contents
contents_behind (Fills t) contents = behind_first contents

-- the files behind it
abbrev pub files_behind : Stage → List RegistryFile → List RegistryFile
files_behind Idle files = files
files_behind (Asks t asked) files = files
files_behind (AsksAgain t asked first) files = files
files_behind (Reads t nv at) files = files
files_behind (Looks t at) files = behind_first files
files_behind (Fills t) files = files

-- what is due: the question of the turn that stands, the first questions of the loads behind it, those about files of the registry, and
-- those about contents
abbrev pub dues : CacheSetting → Known → Stage → List (Option (ℕ × Asked)) → List Load → List (Option (ℕ × Parts)) → List RegistryFile → List ℕ → List LaterContent → List Due
dues setting known stage ps loads ws files ts contents =
    stage_due setting known stage loads files contents
    ++ (dues_of known ps (loads_behind stage loads) ++ (file_dues setting known ws (files_behind stage files) ++ content_dues known ts (contents_behind stage contents)))

-- the question that is due under a ticket
abbrev pub due_at : List Due → ℕ → Option Question
due_at [] ticket = None
due_at (x ∷ xs) ticket = if nat_eq x.ticket ticket then Some x.question else due_at xs ticket

abbrev pub IsDue : Due → List Due → Type 0
IsDue x [] = ⊥
IsDue x (y ∷ ys) = (x ≡ y) ⊎ IsDue x ys

-- no two of them have one ticket
abbrev pub OnceDue : List Due → Type 0
OnceDue [] = Unit {0}
OnceDue (x ∷ xs) = ((y : Due) → IsDue y xs → x.ticket ≢ y.ticket) × OnceDue xs
