-- Writing one element after the other, as loops do.
use Rattle.std.proofs.Common.{◌≡◌, ℕ, ◌+◌, ◌<◌, ◌≤◌, List, [], ◌++◌, length, get_or, drop, refl, sym, ap, ◌∙◌, add-one, append_assoc, append-nil, drop-cons}
use Rattle.std.proofs.lemmas.List.{drop_all}
use Rattle.wasm_dts.specs.declared.import_text.Origin.{Origin}
use Rattle.wasm_dts.specs.Declarations.{numbered, import_statement, import_statements}

-- one more element
pub one_more : {A : Type 0} (text : ℕ → A → List ℕ) (i : ℕ) (xs : List A) (x d : A) (before after total : List ℕ) → i < length xs → x ≡ get_or xs i d → after ≡ before ++ text i x
    → before ++ numbered text i (drop i xs) ≡ total → after ++ numbered text (i + 1) (drop (i + 1) xs) ≡ total
unfolding numbered
one_more text i xs x d before after total lt e w so_far =
    let next : numbered text i (drop i xs) ≡ text i x ++ numbered text (i + 1) (drop (i + 1) xs) = rw (drop-cons xs i d, ← e, add-one) refl in
    rw (w, append_assoc, ← next) so_far

-- no element is left
pub all_written : {A : Type 0} (text : ℕ → A → List ℕ) (i : ℕ) (xs : List A) (before total : List ℕ) → length xs ≤ i → before ++ numbered text i (drop i xs) ≡ total → before ≡ total
unfolding numbered
all_written text i xs before total le so_far =
    let none : numbered text i (drop i xs) ≡ [] = ap (numbered text i) (drop_all i xs le) in
    sym (append-nil before) ∙ (rw none at so_far)

-- one more statement
pub one_more_statement : (count i : ℕ) (origins : List Origin) (origin d : Origin) (before after total : List ℕ) → i < length origins → origin ≡ get_or origins i d → after ≡ before ++ import_statement count origin
    → before ++ import_statements count (drop i origins) ≡ total → after ++ import_statements (count + length origin.names) (drop (i + 1) origins) ≡ total
unfolding import_statements
one_more_statement count i origins origin d before after total lt e w so_far =
    let next : import_statements count (drop i origins) ≡ import_statement count origin ++ import_statements (count + length origin.names) (drop (i + 1) origins) = rw (drop-cons origins i d, ← e, add-one) refl in
    rw (w, append_assoc, ← next) so_far

-- no statement is left
pub all_stated : (count i : ℕ) (origins : List Origin) (before total : List ℕ) → length origins ≤ i → before ++ import_statements count (drop i origins) ≡ total → before ≡ total
unfolding import_statements
all_stated count i origins before total le so_far =
    let none : import_statements count (drop i origins) ≡ [] = ap (import_statements count) (drop_all i origins le) in
    sym (append-nil before) ∙ (rw none at so_far)
