-- Whether data holds whole numbers alone.
use Rattle.std.specs.Prelude.{◌&&◌, Bool, true, is_some, option_and_then}
use Rattle.json.specs.Json as json
use Rattle.serde_json.specs.Data.{Data, null, boolean, number, string, array, object, Items, no_items, item, Members, no_members, member}
use Rattle.serde_json.specs.Find.{as_u64}
use Rattle.serde_json.specs.Read.{number_of}

-- each number is whole, and from 0 to 18446744073709551615
abbrev mutual
  pub is_whole : Data → Bool
  is_whole null = true
  is_whole (boolean b) = true
  is_whole (number n) = is_some (as_u64 n)
  is_whole (string s) = true
  is_whole (array ds) = items_whole ds
  is_whole (object ms) = members_whole ms

  pub items_whole : Items → Bool
  items_whole no_items = true
  items_whole (item d ds) = is_whole d && items_whole ds

  pub members_whole : Members → Bool
  members_whole no_members = true
  members_whole (member k d ms) = is_whole d && members_whole ms

-- each number as it was read is such a one, also in members in whose place a later one of their name counts
abbrev mutual
  pub was_whole : json.Json → Bool
  was_whole json.null = true
  was_whole (json.boolean b) = true
  was_whole (json.number s) = is_some (option_and_then as_u64 (number_of s))
  was_whole (json.string s) = true
  was_whole (json.array js) = items_were_whole js
  was_whole (json.object ms) = members_were_whole ms

  pub items_were_whole : json.Items → Bool
  items_were_whole json.no_items = true
  items_were_whole (json.item j js) = was_whole j && items_were_whole js

  pub members_were_whole : json.Members → Bool
  members_were_whole json.no_members = true
  members_were_whole (json.member k j ms) = was_whole j && members_were_whole ms
