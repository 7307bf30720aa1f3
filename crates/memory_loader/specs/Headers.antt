-- The headers of a source: their values by their names in ASCII lower case.
use Rattle.std.specs.Prelude.{ℕ, List, [], ◌∷◌, String, string_bytes, Vec, Option, option_map}
use Rattle.std.specs.BTreeMap.{insert_entry}
use Rattle.std.specs.declared.alloc.Global.{Global}
use Rattle.media_types.specs.Media.{lower}
use Rattle.spec_base.specs.Shown.{text_cmp}

-- one more header, in the place of an earlier one of its name
abbrev pub with_header : List (List ℕ × List ℕ) → String Global × String Global → List (List ℕ × List ℕ)
with_header headers header = insert_entry text_cmp headers (lower (string_bytes header.0)) (string_bytes header.1)

-- more headers, each in the place of an earlier one of its name
abbrev pub with_headers : List (List ℕ × List ℕ) → List (String Global × String Global) → List (List ℕ × List ℕ)
with_headers headers [] = headers
with_headers headers (header ∷ more) = with_headers (with_header headers header) more

-- the headers that are given, where some are
abbrev pub maybe_headers_of : Option (Vec (String Global × String Global) Global) → Option (List (List ℕ × List ℕ))
maybe_headers_of given = option_map (λ headers. with_headers [] headers.items) given
