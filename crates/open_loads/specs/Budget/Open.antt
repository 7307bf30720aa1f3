-- How many questions a state has to put at most before the next turn is through.
use Rattle.std.specs.Prelude.{ℕ, ◌+◌, List, [], ◌∷◌, length, if◌then◌else◌}
use Rattle.registry_urls.specs.Meaning.{RegistryMeaning}
use Rattle.module_slots.specs.declared.load.Load.{Load}
use Rattle.graph_turns.specs.declared.manner.Manner.{Manner}
use Rattle.graph_turns.specs.declared.manner.Manner.TheVariants.{Asks, Reads, Unread, Unsupported}
use Rattle.graph_turns.specs.declared.state.State.{State}
use Rattle.graph_turns.specs.declared.next.Next.{Next}
use Rattle.graph_turns.specs.declared.next.Next.TheVariants.{Notes, Load as ALoad, Wanted, Restart, Item, Versions, Exports, Deferred, Waiting, Dynamic, Content, End}
use Rattle.graph_turns.specs.declared.registry.RegistryFile.{RegistryFile}
use Rattle.graph_turns.specs.Machine.Known.{Known}
use Rattle.graph_turns.specs.Promise.Versions.{is_stored}
use Rattle.graph_turns.specs.Machine.Turns.{manner_in}

-- a load is asked about before all else
abbrev pub asked_count : Manner → ℕ
asked_count (Asks asked) = 1
asked_count (Reads nv) = 0
asked_count (Unread name e) = 0
asked_count Unsupported = 0

-- so many loads are
abbrev pub ahead_count : Known → RegistryMeaning → State → List Load → ℕ
ahead_count known registry s [] = 0
ahead_count known registry s (load ∷ loads) = asked_count (manner_in known.sums registry s load) + ahead_count known registry s loads

-- so many files of the registry are, whose answers don't stand in the given store
abbrev pub file_count : Known → List RegistryFile → ℕ
file_count known [] = 0
file_count known (file ∷ files) = (if is_stored known.store file then 0 else 1) + file_count known files

abbrev pub load_count : Known → RegistryMeaning → State → List Load → ℕ
load_count known registry s [] = 0
load_count known registry s (load ∷ loads) = 1 + ahead_count known registry s loads

-- one for the first open load and each one behind it that is asked about; where none is open, one for each file that a pass wants; and
-- where nothing else is to come, one for each content
abbrev pub open_by : Known → RegistryMeaning → State → Next → ℕ
open_by known registry s Notes = 0
open_by known registry s ALoad = load_count known registry s s.loads
open_by known registry s Wanted = file_count known s.wanted
open_by known registry s Restart = 0
open_by known registry s Item = 0
open_by known registry s Versions = 0
open_by known registry s Exports = 0
open_by known registry s Deferred = 0
open_by known registry s Waiting = 0
open_by known registry s Dynamic = 0
open_by known registry s Content = length s.contents
open_by known registry s End = 0
