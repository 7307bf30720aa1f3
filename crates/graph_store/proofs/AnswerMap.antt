-- The entries of the answers that a recorder keeps.
use Rattle.std.proofs.Common.{◌≡◌, ℕ, ◌≤◌, ◌+◌, Bool, true, false, not, cond, List, [], ◌∷◌, ◌++◌, length, Option, Some, None, Result, Ok, Err, refl, sym, ap, subst, ◌∙◌, append_assoc, arith}
use Rattle.std.specs.Prelude.{◌||◌, if◌then◌else◌, is_ok, is_some}
use Rattle.std.specs.List.{AllByRecursion}
use Rattle.std.specs.List.Sorted.{IsStrictlySortedBy}
use Rattle.std.specs.BTreeMap.{insert_entry, is_at}
use Rattle.std.specs.Map.{keys_of, lookup}
use Rattle.std.specs.Cmp.{eq_by_cmp_equiv}
use Rattle.std.specs.Ordering.{is_eq, match_ordering}
use Rattle.std.specs.declared.cmp.Ordering.{Ordering}
use Rattle.std.specs.declared.cmp.Ordering.TheVariants.{Less, Equal, Greater}
use Rattle.std.proofs.lemmas.List.{append-nil, length-append}
use Rattle.source_io.specs.declared.types.Answer.{Answer}
use Rattle.graph_store.specs.declared.entry.StoreEntry.{StoreEntry}
use Rattle.graph_store.specs.declared.entry_key.EntryKey.{EntryKey}
use Rattle.graph_store.specs.AnswerMap.{HasRoom, entries_from, entry_from, entry_key_cmp, key_in}
use Rattle.graph_store.specs.Order.{AreOrdered, HasForm, HaveForms, IsRising, PutsIn, key_cmp, key_total, keys}
use Rattle.graph_store.specs.Stores.{IsPutIn, has_key, stands_under}
use Rattle.graph_store.proofs.Places.{all_middle, under_is}

-- ---- look-ups

under_key : (k : EntryKey) (e : EntryKey × Answer) → stands_under (entry_from e) k.specifier k.purpose ≡ is_at (entry_key_cmp k) e.0
under_key k e = under_is k.specifier k.purpose (entry_from e) ∙ (eq_by_cmp_equiv key_total).symm (key_in e.0) (key_in k)

either : {X : Type 0} (b : Bool) (x : X) (o : Option X) → b || is_some o ≡ is_some (cond b (Some x) o)
either true x o = refl
either false x o = refl

-- an entry of a key stands exactly where the map has an answer
has_at : (k : EntryKey) (es : List (EntryKey × Answer)) → has_key (entries_from es) k.specifier k.purpose ≡ is_some (lookup (is_at (entry_key_cmp k)) es)
has_at k [] = refl
has_at k (e ∷ es) =
    ap (λ b. b || has_key (entries_from es) k.specifier k.purpose) (under_key k e)
    ∙ ap (λ b. is_at (entry_key_cmp k) e.0 || b) (has_at k es)
    ∙ either (is_at (entry_key_cmp k) e.0) e.1 (lookup (is_at (entry_key_cmp k)) es)

-- where one stands, nothing is put
pub stays : (k : EntryKey) (a : Answer) (es : List (EntryKey × Answer)) → is_some (lookup (is_at (entry_key_cmp k)) es) ≡ true → IsPutIn (entry_from (k, a)) (entries_from es) (entries_from es) false
stays k a es there = record { answer = sym (ap not (has_at k es ∙ there)); put = refl }

-- ---- one more answer

one_more : (e f : StoreEntry) (old new : List StoreEntry) → PutsIn f old new → PutsIn f (e ∷ old) (e ∷ new)
one_more e f old new puts = record { front = e ∷ puts.front; back = puts.back; was = ap (λ xs. e ∷ xs) puts.was; is = ap (λ xs. e ∷ xs) puts.is }

puts_by : (r : Ordering) (k : EntryKey) (a : Answer) (e : EntryKey × Answer) (es rest : List (EntryKey × Answer)) → is_eq r ≡ false → PutsIn (entry_from (k, a)) (entries_from es) (entries_from rest) → PutsIn (entry_from (k, a)) (entries_from (e ∷ es)) (entries_from (match_ordering r ((k, a) ∷ e ∷ es) ((e.0, a) ∷ es) (e ∷ rest)))
puts_by Less k a e es rest apart puts = record { front = []; back = entries_from (e ∷ es); was = refl; is = refl }
puts_by Equal k a e es rest apart puts = absurd cc
puts_by Greater k a e es rest apart puts = one_more (entry_from e) (entry_from (k, a)) (entries_from es) (entries_from rest) puts

apart_of : {X : Type 0} (b : Bool) (x : X) (o : Option X) → is_some (cond b (Some x) o) ≡ false → (b ≡ false) × (is_some o ≡ false)
apart_of true x o e = absurd cc
apart_of false x o e = (refl, e)

puts_at : (k : EntryKey) (a : Answer) (es : List (EntryKey × Answer)) → is_some (lookup (is_at (entry_key_cmp k)) es) ≡ false → PutsIn (entry_from (k, a)) (entries_from es) (entries_from (insert_entry entry_key_cmp es k a))
puts_at k a [] lacks = record { front = []; back = []; was = refl; is = refl }
puts_at k a (e ∷ es) lacks =
    let apart = apart_of (is_at (entry_key_cmp k) e.0) e.1 (lookup (is_at (entry_key_cmp k)) es) lacks in
    puts_by (entry_key_cmp k e.0) k a e es (insert_entry entry_key_cmp es k a) apart.0 (puts_at k a es apart.1)

-- where none stands, the entry is put
pub put_into : (k : EntryKey) (a : Answer) (es new : List (EntryKey × Answer)) → is_some (lookup (is_at (entry_key_cmp k)) es) ≡ false → new ≡ insert_entry entry_key_cmp es k a → IsPutIn (entry_from (k, a)) (entries_from es) (entries_from new) true
put_into k a es new lacks is = record {
  answer = sym (ap not (has_at k es ∙ lacks));
  put = subst (λ xs. PutsIn (entry_from (k, a)) (entries_from es) (entries_from xs)) (sym is) (puts_at k a es lacks);
}

formed_in : (e : StoreEntry) (old new : List StoreEntry) → PutsIn e old new → HaveForms old → HasForm e.purpose e.answer → HaveForms new
formed_in e old new puts all form = subst HaveForms (sym puts.is) (all_middle (λ x. HasForm x.purpose x.answer) puts.front puts.back e (subst HaveForms puts.was all) form)

-- what a map's insert says of its length
pub one_at_most : {X : Type 0} (before : Option X) (n m : ℕ) → m ≡ n + (if is_some before then 0 else 1) → m ≤ n + 1
one_at_most None n m is = omega arith
one_at_most (Some x) n m is = omega arith

pub room_more : (k : EntryKey) (a : Answer) (es new : List (EntryKey × Answer)) (room : List StoreEntry) (capacity : ℕ) → is_some (lookup (is_at (entry_key_cmp k)) es) ≡ false → new ≡ insert_entry entry_key_cmp es k a → HaveForms (entries_from es) → HasForm k.purpose a → room ≡ [] → length new ≤ capacity → HasRoom new room capacity
room_more k a es new room capacity lacks is forms form empty wide = record {
  empty = empty;
  wide = wide;
  formed = formed_in (entry_from (k, a)) (entries_from es) (entries_from new) (subst (λ xs. PutsIn (entry_from (k, a)) (entries_from es) (entries_from xs)) (sym is) (puts_at k a es lacks)) forms form;
}

-- ---- their order

below_all : (k : EntryKey) (es : List (EntryKey × Answer)) → AllByRecursion (λ y. entry_key_cmp k y ≡ Less) (keys_of es) → AllByRecursion (λ y. key_cmp (key_in k) y ≡ Less) (keys (entries_from es))
below_all k [] below = tt
below_all k (e ∷ es) below = (below.0, below_all k es below.1)

rising_from : (es : List (EntryKey × Answer)) → IsStrictlySortedBy entry_key_cmp (keys_of es) → IsRising (entries_from es)
unfolding IsStrictlySortedBy
rising_from [] up = tt
rising_from (e ∷ es) up = (below_all e.0 es up.0, rising_from es up.1)

pub ordered_from : (es : List (EntryKey × Answer)) (all : List StoreEntry) → all ≡ entries_from es → IsStrictlySortedBy entry_key_cmp (keys_of es) → HaveForms (entries_from es) → AreOrdered all
ordered_from es all is up forms = subst AreOrdered (sym is) (record { rising = rising_from es up; formed = forms })

-- ---- the store of them

-- while the entries are moved: those in the list and those that are left are all, and there is room for these
pub record IsMoving (all : List StoreEntry) (left : List (EntryKey × Answer)) (moved : List StoreEntry) (capacity : ℕ) : Type 0 where
  pub whole : moved ++ entries_from left ≡ all
  pub wide : length moved + length left ≤ capacity
  pub ordered : AreOrdered all

pub begins_with : (es left : List (EntryKey × Answer)) (room : List StoreEntry) (capacity : ℕ) (all : List StoreEntry) → entries_from es ≡ all → left ≡ es → IsStrictlySortedBy entry_key_cmp (keys_of es) → HasRoom es room capacity → IsMoving all left room capacity
begins_with es left room capacity all is same up given = record {
  whole = ap (λ xs. xs ++ entries_from left) given.empty ∙ ap entries_from same ∙ is;
  wide = omega (arith, ap (length {A = StoreEntry}) given.empty, ap (length {A = EntryKey × Answer}) same, given.wide);
  ordered = ordered_from es all (sym is) up given.formed;
}

-- a push into a list with room for one more
pub pushed_ok : {T E : Type 0} (r : Result T E) (t : T) (new old more : List StoreEntry) → r ≡ Ok t → new ≡ (if is_ok r then more else old) → new ≡ more
pushed_ok (Ok t) x new old more ok is = is
pushed_ok (Err e) x new old more ok is = absurd cc

pub goes_on : (all : List StoreEntry) (left rest : List (EntryKey × Answer)) (e : EntryKey × Answer) (moved new : List StoreEntry) (capacity more : ℕ) → IsMoving all left moved capacity → left ≡ e ∷ rest → new ≡ moved ++ entry_from e ∷ [] → capacity ≤ more → IsMoving all rest new more
goes_on all left rest e moved new capacity more moving is pushed wider = record {
  whole = ap (λ xs. xs ++ entries_from rest) pushed ∙ append_assoc moved (entry_from e ∷ []) (entries_from rest) ∙ ap (λ xs. moved ++ entries_from xs) (sym is) ∙ moving.whole;
  wide = omega (arith, ap (length {A = StoreEntry}) pushed, length-append moved (entry_from e ∷ []), ap (length {A = EntryKey × Answer}) is, moving.wide, wider);
  ordered = moving.ordered;
}

pub is_whole : (all : List StoreEntry) (left : List (EntryKey × Answer)) (moved : List StoreEntry) (capacity : ℕ) → IsMoving all left moved capacity → left ≡ [] → moved ≡ all
is_whole all left moved capacity moving none = sym (append-nil moved) ∙ ap (λ xs. moved ++ entries_from xs) (sym none) ∙ moving.whole
