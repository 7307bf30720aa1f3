-- What a store is read as, by the words of stores.
use Rattle.std.proofs.Common.{◌≡◌, ◌∙◌, ℕ, List, Option, Some, None, Err, refl, ap, subst}
use Rattle.graph_store.specs.Reading.{store_at}
use Rattle.graph_store.specs.Stores.{Leaves}
use Rattle.graph_store.specs.Words.{IsStoreOf}
use Rattle.spec_base.specs.declared.refusal.Refusal.{Refusal}
use Rattle.spec_base.specs.declared.refusal.Refusal.TheVariants.{Is}
use Rattle.graph_store.specs.declared.entry.StoreEntry.{StoreEntry}
use Rattle.graph_store.proofs.Entries.{store_again, store_takes}
use Rattle.graph_store.proofs.Fields.{IsBytes}

-- the entries of a store are read from it
pub store_read : (bytes : List ℕ) (es : List StoreEntry) → IsStoreOf bytes es → store_at bytes ≡ Some es
store_read bytes es is = ap store_at is.spelled ∙ store_again es is.entries

-- and nothing is read of what is none
pub store_unread : (bytes : List ℕ) → IsBytes bytes → ((es : List StoreEntry) → IsStoreOf bytes es → ⊥) → store_at bytes ≡ None
store_unread bytes fits none = by_read (store_at bytes) refl
  where
    by_read : (o : Option (List StoreEntry)) → store_at bytes ≡ o → store_at bytes ≡ None
    by_read None is = is
    by_read (Some es) is = absurd (none es (store_takes bytes es fits is))

-- what leaves no store at all leaves none by its refusal
pub leaves_none : {E : Type 0} (r : Refusal E) (e : E) (es : List StoreEntry) → r ≡ Is e → Leaves (Err r) es → ⊥
leaves_none {E} r e es same leaves = subst (λ (x : Refusal E). Leaves (Err x) es) same leaves
