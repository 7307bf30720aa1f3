-- The URL of a registry, and those of texts in its folder.
use Rattle.std.specs.Prelude.{ℕ, Bool, not, ◌||◌, ◌==◌, List, ◌++◌, codes, bytes_eq, None}
use Rattle.std.specs.Result.{result_unwrap_or}
use Rattle.url.specs.Ascii.{slash}
use Rattle.url.specs.Input.{trim_end}
use Rattle.url.specs.Parser.{parse_url}
use Rattle.url.specs.Parts.{Parts, serialize}

-- the scheme is http or https
abbrev pub is_web : Parts → Bool
is_web url = bytes_eq url.scheme (codes "http") || bytes_eq url.scheme (codes "https")

-- the text of the registry's URL through its last `/`
abbrev pub folder : Parts → List ℕ
folder registry = trim_end (λ b. not (b == slash)) (serialize registry)

-- a text in the registry's folder
abbrev pub text_in : Parts → List ℕ → List ℕ
text_in registry path = folder registry ++ path

-- the URL of a text in the registry's folder, by the URL Standard; each has one where the registry's is http or https
abbrev pub url_in : Parts → List ℕ → Parts
url_in registry path = result_unwrap_or (parse_url None (text_in registry path)) registry
