-- Import attributes: what they tell.
use Rattle.std.specs.Prelude.{ℕ, List, Bool, false, ◌||◌, codes, Option, Some, None, option_and_then}
use Rattle.std.specs.Map.{lookup}
use Rattle.std.specs.Str.{bytes_eq}
use Rattle.module_info.specs.declared.attributes.ImportAttribute.{ImportAttribute}
use Rattle.module_info.specs.declared.attributes.ImportAttribute.TheVariants as attribute_is
use Rattle.module_info.specs.declared.attributes.ImportAttributes.{ImportAttributes}
use Rattle.module_info.specs.declared.attributes.ImportAttributes.TheVariants as attributes_are

-- the text of an attribute, where it is known
abbrev pub known_text : ImportAttribute → Option (List ℕ)
known_text attribute_is.Unknown = None
known_text (attribute_is.Known t) = Some t

-- the known text of a known key
abbrev pub attribute_text : ImportAttributes → List ℕ → Option (List ℕ)
attribute_text attributes_are.None key = None
attribute_text attributes_are.Unknown key = None
attribute_text (attributes_are.Known entries) key = option_and_then known_text (lookup (bytes_eq key) entries)

-- a type whose modules are taken as they are, without being run
abbrev pub is_asset_type : List ℕ → Bool
is_asset_type t = bytes_eq t (codes "text") || bytes_eq t (codes "bytes") || bytes_eq t (codes "css")

abbrev pub is_asset : Option (List ℕ) → Bool
is_asset None = false
is_asset (Some t) = is_asset_type t

-- the attribute `type` is known to be an asset's
abbrev pub has_asset : ImportAttributes → Bool
has_asset attributes = is_asset (attribute_text attributes (codes "type"))
