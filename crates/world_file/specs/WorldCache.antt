-- The copies in a cache that a world file tells.
use Rattle.std.specs.Prelude.{ℕ, List, map, codes, Some}
use Rattle.json_forms.specs.Form.{Form, text}
use Rattle.json_forms.specs.Keyed.{keyed_or_empty}
use Rattle.source_io.specs.declared.types.CacheInfo.{CacheInfo}
use Rattle.url.specs.Parts.{Parts}

-- the path of the copy of each specifier's module, none where they are absent
abbrev pub paths_of : Form (List (Parts × List ℕ))
paths_of d = keyed_or_empty text (codes "cache_info") d

-- what a loader knows of the copies with these paths
abbrev pub copies_of : List (Parts × List ℕ) → List (Parts × CacheInfo)
copies_of paths = map (λ e. (e.0, record { local = Some e.1 })) paths
