-- The items of a list, each once.
use Rattle.std.specs.Prelude.{Bool, List, [], ◌∷◌, ◌++◌, if◌then◌else◌}
use Rattle.std.specs.List.{list_any}

-- the items that equal none before them; `seen` are those before
unfoldable pub unseen : {T : Type 0} → (T → T → Bool) → List T → List T → List T
unseen same seen [] = []
unseen same seen (item ∷ items) =
    if list_any (same item) seen then unseen same seen items else item ∷ unseen same (seen ++ item ∷ []) items

-- each distinct item once, in the order of first insertion
abbrev pub each_once : {T : Type 0} → (T → T → Bool) → List T → List T
each_once same items = unseen same [] items
