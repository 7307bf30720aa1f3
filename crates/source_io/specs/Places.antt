-- Where the entries of a world's resolver stand: the place of the first entry of each specifier, and from each entry the place
-- of the next one of the same.
use Rattle.std.specs.Prelude.{ℕ, ◌+◌, Bool, List, [], ◌∷◌, Option}
use Rattle.std.specs.List.{position_from}
use Rattle.url.specs.Parts.{Parts}
use Rattle.spec_base.specs.Specifier.{same_specifier}
use Rattle.spec_base.specs.declared.position.Range.{Range}
use Rattle.source_io.specs.declared.types.WorldResolution.{WorldResolution}

-- an entry is listed for the types of a module
abbrev pub names_types_of : Parts × Parts × Option Range → Parts → Bool
names_types_of e s = same_specifier e.0 s

-- an entry is listed for a referrer
abbrev pub is_from : WorldResolution → Parts → Bool
is_from e s = same_specifier e.referrer s

-- the place of the first entry of a referrer, in a list whose first element stands at i
abbrev pub later : ℕ → List WorldResolution → Parts → Option ℕ
later i es s = position_from (λ e. is_from e s) i es

-- from each entry the place of the next one of its referrer
abbrev pub links_from : ℕ → List WorldResolution → List (Option ℕ)
links_from i [] = []
links_from i (e ∷ es) = later (i + 1) es e.referrer ∷ links_from (i + 1) es
