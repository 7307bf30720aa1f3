-- Where an export leads.
use Rattle.std.specs.Prelude.{ℕ, List, Option, Some}
use Rattle.std.specs.Result.{result_ok}
use Rattle.url.specs.Parts.{Parts}
use Rattle.url.specs.Parser.{parse_url}

-- a text joined to the URL of a version, where that is a URL
abbrev pub joined_export : Parts → List ℕ → Option Parts
joined_export package_url value = result_ok (parse_url (Some package_url) value)
