-- The answers that a recorder keeps, by their keys.
use Rattle.std.specs.Prelude.{◌≡◌, ℕ, ◌≤◌, List, [], length, map}
use Rattle.std.specs.Ordering.{on}
use Rattle.std.specs.Cmp.{IsTotalOrder, on_total}
use Rattle.std.specs.declared.cmp.Ordering.{Ordering}
use Rattle.source_io.specs.declared.types.Answer.{Answer}
use Rattle.graph_store.specs.declared.entry.StoreEntry.{StoreEntry}
use Rattle.graph_store.specs.declared.entry_key.EntryKey.{EntryKey}
use Rattle.graph_store.specs.Order.{HaveForms, Key, key, key_cmp, key_total}

abbrev pub key_in : EntryKey → Key
key_in k = key k.specifier k.purpose

-- keys are in the order of a store's entries
abbrev pub entry_key_cmp : EntryKey → EntryKey → Ordering
entry_key_cmp = on key_in key_cmp

pub entry_key_total : IsTotalOrder entry_key_cmp
entry_key_total = on_total key_in key_total

-- an answer under its key, as an entry
abbrev pub entry_from : EntryKey × Answer → StoreEntry
entry_from e = record { specifier = e.0.specifier; purpose = e.0.purpose; answer = e.1 }

abbrev pub entries_from : List (EntryKey × Answer) → List StoreEntry
entries_from es = map entry_from es

-- answers of their purposes' forms, beside an empty list that has room for their entries
pub record HasRoom (es : List (EntryKey × Answer)) (room : List StoreEntry) (capacity : ℕ) : Type 0 where
  pub empty : room ≡ []
  pub wide : length es ≤ capacity
  pub formed : HaveForms (entries_from es)
