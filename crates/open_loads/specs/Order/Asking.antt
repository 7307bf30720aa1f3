-- The turn that stands: what it asks about, and how far it is. No world answers here.
use Rattle.std.specs.Prelude.{◌≡◌, ℕ, true, false, List, [], ◌∷◌, Option, Some, None, IfSome}
use Rattle.source_io.specs.declared.types.Answer.{Answer}
use Rattle.source_io.specs.declared.types.CacheSetting.{CacheSetting}
use Rattle.source_io.specs.declared.types.CacheSetting.TheVariants.{Only, Reload}
use Rattle.source_io.specs.declared.types.Question.{Question}
use Rattle.source_io.specs.declared.types.World.{World}
use Rattle.source_io.specs.Answers.{answer_of}
use Rattle.registry_urls.specs.Meaning.{RegistryMeaning}
use Rattle.registry_urls.specs.Packages.{package_file_url, version_file_url}
use Rattle.semver_npm.specs.declared.package.PackageNv.{PackageNv}
use Rattle.url.specs.Parts.{Parts}
use Rattle.module_slots.specs.declared.load.Load.{Load}
use Rattle.metadata_store.specs.declared.store.JsrMetadataStore.{JsrMetadataStore}
use Rattle.graph_turns.specs.declared.question_of.Asked.{Asked}
use Rattle.graph_turns.specs.declared.later_content.LaterContent.{LaterContent}
use Rattle.graph_turns.specs.declared.manner.Manner.TheVariants.{Asks as IsAskedAs, Reads as ReadsFirst}
use Rattle.graph_turns.specs.declared.state.State.{State}
use Rattle.graph_turns.specs.declared.next.Next.TheVariants.{Load as ALoad, Wanted, Content, End}
use Rattle.graph_turns.specs.declared.registry.RegistryFile.{RegistryFile}
use Rattle.graph_turns.specs.declared.registry.RegistryFile.TheVariants.{Package, PackageAgain, Version, Probe}
use Rattle.graph_turns.specs.Machine.Known.{Known}
use Rattle.graph_turns.specs.Machine.Next.{next_of}
use Rattle.graph_turns.specs.Machine.Turns.{manner_in}
use Rattle.graph_turns.specs.Promise.Versions.{is_stored, manifest_at, metadata_question}
use Rattle.graph_turns.specs.Promise.Taken.{asks_again, first_setting, put_asked}
use Rattle.open_loads.specs.declared.turn_stage.Stage.{Stage}
use Rattle.open_loads.specs.declared.turn_stage.Stage.TheVariants.{Idle, Asks, AsksAgain, Reads, Looks, Fills}

-- ---- the questions of a load

-- the first question about a load that is asked about so
abbrev pub asked_question : Known → Load → Asked → Question
asked_question known load asked = put_asked (first_setting load.context asked) known asked load.specifier load.context

-- the same once more under Reload, after an answer that refused it for its sum
abbrev pub again_question : Known → Load → Asked → Question
again_question known load asked = put_asked Reload known asked load.specifier load.context

-- ---- the files of the registry

-- where a file lies
abbrev pub file_url : RegistryMeaning → RegistryFile → Parts
file_url registry (Package name) = package_file_url registry.url name
file_url registry (PackageAgain name) = package_file_url registry.url name
file_url registry (Version nv) = version_file_url registry.url nv
file_url registry (Probe nv) = version_file_url registry.url nv

-- the question about a file that lies there, under the setting of the run; once more it is Reload, in a cache Only
abbrev pub wanted_question : CacheSetting → Known → RegistryFile → Parts → Question
wanted_question setting known (Package name) at = metadata_question setting at None
wanted_question setting known (PackageAgain name) at = metadata_question Reload at None
wanted_question setting known (Version nv) at = metadata_question setting at (manifest_at known.manifests nv)
wanted_question setting known (Probe nv) at = metadata_question Only at None

-- ---- the turn that stands

-- the ticket whose answer it waits for
abbrev pub awaited : Stage → Option ℕ
awaited Idle = None
awaited (Asks ticket asked) = Some ticket
awaited (AsksAgain ticket asked first) = Some ticket
awaited (Reads ticket nv at) = Some ticket
awaited (Fills ticket) = Some ticket
awaited (Looks ticket at) = Some ticket

-- as many of its questions are answered
abbrev pub through : Stage → ℕ
through Idle = 0
through (Asks ticket asked) = 0
through (AsksAgain ticket asked first) = 1
through (Reads ticket nv at) = 0
through (Fills ticket) = 0
through (Looks ticket at) = 0

-- an answer is the world's to a question, where one is told
abbrev pub AnswersAs : Option World → Question → Answer → Type 0
AnswersAs told q a = IfSome told (λ w. a ≡ answer_of w q)

-- it is the next turn of a state: that of the first open load, which is asked about, or whose version's file is read first; or where no
-- load is open, that of the first file that a pass wants, whose answer doesn't stand in the given store, or of the first content that
-- comes later
pub data IsNext (told : Option World) (known : Known) (registry : RegistryMeaning) (s : State) : Stage → Type 0 where
  rests : next_of s ≡ End → IsNext told known registry s Idle
  asks : {ticket : ℕ} {asked : Asked} {load : Load} {loads : List Load} → next_of s ≡ ALoad → s.loads ≡ load ∷ loads → manner_in known.sums registry s load ≡ IsAskedAs asked → IsNext told known registry s (Asks ticket asked)
  asks_again_by : {ticket : ℕ} {asked : Asked} {first : Answer} {load : Load} {loads : List Load} → next_of s ≡ ALoad → s.loads ≡ load ∷ loads → manner_in known.sums registry s load ≡ IsAskedAs asked → AnswersAs told (asked_question known load asked) first → asks_again asked first ≡ true → IsNext told known registry s (AsksAgain ticket asked first)
  reads : {ticket : ℕ} {nv : PackageNv} {at : Parts} {load : Load} {loads : List Load} → next_of s ≡ ALoad → s.loads ≡ load ∷ loads → manner_in known.sums registry s load ≡ ReadsFirst nv → is_stored known.store (Version nv) ≡ false → at ≡ version_file_url registry.url nv → IsNext told known registry s (Reads ticket nv at)
  looks : {ticket : ℕ} {at : Parts} {file : RegistryFile} {files : List RegistryFile} → next_of s ≡ Wanted → s.wanted ≡ file ∷ files → is_stored known.store file ≡ false → at ≡ file_url registry file → IsNext told known registry s (Looks ticket at)
  fills : {ticket : ℕ} {l : LaterContent} {ls : List LaterContent} → next_of s ≡ Content → s.contents ≡ l ∷ ls → IsNext told known registry s (Fills ticket)

-- ---- the loads behind it

-- the first questions of loads that were put ahead are those of their turns
abbrev pub AreAhead : Known → RegistryMeaning → State → List (Option (ℕ × Asked)) → List Load → Type 0
AreAhead known registry s [] loads = Unit {0}
AreAhead known registry s (p ∷ ps) [] = ⊥
AreAhead known registry s (None ∷ ps) (load ∷ loads) = AreAhead known registry s ps loads
AreAhead known registry s (Some p ∷ ps) (load ∷ loads) = (manner_in known.sums registry s load ≡ IsAskedAs p.1) × AreAhead known registry s ps loads

-- ---- the files behind it

-- the questions about files were put, but where the given store has their answers
abbrev pub AreWanted : Known → RegistryMeaning → List (Option (ℕ × Parts)) → List RegistryFile → Type 0
AreWanted known registry [] files = Unit {0}
AreWanted known registry (p ∷ ps) [] = ⊥
AreWanted known registry (None ∷ ps) (file ∷ files) = (is_stored known.store file ≡ true) × AreWanted known registry ps files
AreWanted known registry (Some p ∷ ps) (file ∷ files) = (is_stored known.store file ≡ false) × (p.1 ≡ file_url registry file) × AreWanted known registry ps files

-- where none was put, the given store has the answer
abbrev pub AreStored : Option JsrMetadataStore → List (Option (ℕ × Parts)) → List RegistryFile → Type 0
AreStored store [] files = Unit {0}
AreStored store (p ∷ ps) [] = ⊥
AreStored store (None ∷ ps) (file ∷ files) = (is_stored store file ≡ true) × AreStored store ps files
AreStored store (Some p ∷ ps) (file ∷ files) = AreStored store ps files
