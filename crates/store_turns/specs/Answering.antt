-- Worlds whose answers a store can tell, and worlds that answer as a store does.
use Rattle.std.specs.Prelude.{◌≡◌, false, List, Option, Some}
use Rattle.std.specs.List.{AllByRecursion}
use Rattle.url.specs.Parts.{Parts}
use Rattle.source_io.specs.Answers.{answer_to, listed_answer}
use Rattle.source_io.specs.declared.types.Answer.{Answer}
use Rattle.source_io.specs.declared.types.Purpose.{Purpose}
use Rattle.source_io.specs.declared.types.World.{World}
use Rattle.graph_store.specs.declared.entry.StoreEntry.{StoreEntry}
use Rattle.graph_store.specs.Order.{HasForm}
use Rattle.graph_store.specs.Worlds.{AreFrom, listings}

-- a world's answers can be told by a store: no sum is judged, no `data:` URL is read, and each listed answer has its purpose's form
pub record IsStorable (w : World) : Type 0 where
  pub plain : w.verifies ≡ false
  pub no_data : w.reads_data ≡ false
  pub formed : AllByRecursion (λ e. HasForm e.1 e.2) w.answers

-- a world judges no sums, and answers as the entries do where they tell an answer
pub record Fits (es : List StoreEntry) (v : World) : Type 0 where
  pub plain : v.verifies ≡ false
  pub as_told : (s : Parts) (p : Purpose) (a : Answer) → listed_answer (listings es) s p ≡ Some a → answer_to v s p ≡ a

-- entries that a world told, where it can be told
abbrev pub AreKept : Option World → List StoreEntry → Type 0
AreKept world es = (w : World) → world ≡ Some w → IsStorable w → AreFrom w es
