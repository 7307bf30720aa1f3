-- A world's answers in order, the first one of each specifier and purpose.
use Rattle.std.specs.Prelude.{ℕ, ◌==◌, List, [], map, fold, length, is_some, Option, Some, None, if◌then◌else◌}
use Rattle.std.specs.BTreeMap.{insert_entry, is_at}
use Rattle.std.specs.Map.{lookup}
use Rattle.url.specs.Parts.{Parts}
use Rattle.source_io.specs.Answers.{purpose_place}
use Rattle.source_io.specs.AnswerOrder.{place_cmp}
use Rattle.source_io.specs.declared.types.Answer.{Answer}
use Rattle.source_io.specs.declared.types.Purpose.{Purpose}

-- answers at their places, with one more, unless its specifier and purpose have one
abbrev pub with_first : List ((Parts × ℕ) × (Purpose × Answer)) → Parts × Purpose × Answer → List ((Parts × ℕ) × (Purpose × Answer))
with_first found e =
    if is_some (lookup (is_at (place_cmp (e.0, purpose_place e.1))) found) then found
    else insert_entry place_cmp found (e.0, purpose_place e.1) (e.1, e.2)

-- answers at their places, the first one of each specifier and purpose
abbrev pub placed : List (Parts × Purpose × Answer) → List ((Parts × ℕ) × (Purpose × Answer))
placed es = fold with_first [] es

-- the answers that stand at places
abbrev pub listed : List ((Parts × ℕ) × (Purpose × Answer)) → List (Parts × Purpose × Answer)
listed found = map (λ e. (e.0.0, e.1.0, e.1.1)) found

-- answers in order, the first one of each specifier and purpose
unfoldable pub ordered : List (Parts × Purpose × Answer) → List (Parts × Purpose × Answer)
ordered es = listed (placed es)

-- answers in order, where no two are of one specifier and purpose: none of them is left out
abbrev pub if_distinct : List (Parts × Purpose × Answer) → Option (List (Parts × Purpose × Answer))
if_distinct es = if length (ordered es) == length es then Some (ordered es) else None
