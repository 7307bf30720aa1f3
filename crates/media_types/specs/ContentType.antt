-- The media and the charset of a content type.
use Rattle.std.specs.Prelude.{ℕ, Bool, ◌==◌, nat_eq, bytes_eq, List, [], ◌∷◌, drop, codes, Option, Some, None, if◌then◌else◌}
use Rattle.std.specs.List.{starts_with, before_first}
use Rattle.std.specs.Option.{option_or}
use Rattle.std.specs.Str.{trim}
use Rattle.url.specs.Parts.{Parts}
use Rattle.std.specs.Map.{lookup}
use Rattle.media_types.specs.Media.{media_by_type, media_of_specifier}
use Rattle.media_types.specs.declared.media.MediaType.{MediaType}

-- `;`, which divides a content type
abbrev pub is_semicolon : ℕ → Bool
is_semicolon b = b == 59

-- the text up to the first `;`
abbrev pub first_piece : List ℕ → List ℕ
first_piece text = before_first is_semicolon text

-- what stands after `charset=` in a piece that begins with it
abbrev pub charset_in : List ℕ → Option (List ℕ)
charset_in piece =
    if starts_with nat_eq piece (codes "charset=") then Some (drop 8 piece) else None

-- the charset of the first piece after a `;` that has one
unfoldable pub charset_after : List ℕ → Option (List ℕ)
charset_after [] = None
charset_after (b ∷ bs) =
    if is_semicolon b then option_or (charset_in (trim (first_piece bs))) (charset_after bs)
    else charset_after bs

-- the media of a content type, or of the specifier where there is none
abbrev pub media_by : Parts → Option (List ℕ) → MediaType
media_by url None = media_of_specifier url
media_by url (Some type) = media_by_type url (first_piece type)

-- the charset of a content type, and none where there is none
abbrev pub charset_by : Option (List ℕ) → Option (List ℕ)
charset_by None = None
charset_by (Some type) = charset_after type

-- the content type that headers tell, by its name in lower case
abbrev pub content_type_in : Option (List (List ℕ × List ℕ)) → Option (List ℕ)
content_type_in None = None
content_type_in (Some headers) = lookup (bytes_eq (codes "content-type")) headers
