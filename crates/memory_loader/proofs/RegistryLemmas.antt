-- The URLs of files in the registry JSR.
use Rattle.std.proofs.Common.{◌≡◌, ℕ, ◌==◌, not, List, ◌∷◌, ◌++◌, None, Ok, sym, ap, ◌∙◌, append_assoc}
use Rattle.std.specs.Prelude.{codes}
use Rattle.std.specs.Result.{result_unwrap_or}
use Rattle.url.specs.Ascii.{slash}
use Rattle.url.specs.Input.{trim_end}
use Rattle.url.specs.Parser.{parse_url}
use Rattle.url.specs.Parts.{Parts, serialize}
use Rattle.registry_urls.specs.Default.{default_registry}
use Rattle.registry_urls.specs.Registry.{folder, url_in}

abbrev IsJsr : Type 0
IsJsr = serialize default_registry ≡ codes "https://jsr.io/"

-- its URL ends with a `/`
folder_is : IsJsr → folder default_registry ≡ serialize default_registry
folder_is e = ap (trim_end (λ b. not (b == slash))) e ∙ sym e

-- the URL of a text behind the registry's
pub url_is : (path : List ℕ) (url : Parts) → IsJsr → parse_url None (serialize default_registry ++ path) ≡ Ok url → url ≡ url_in default_registry path
url_is path url e found =
    sym (ap (λ t. result_unwrap_or (parse_url None (t ++ path)) default_registry) (folder_is e)
    ∙ ap (λ r. result_unwrap_or r default_registry) found)

-- the text that `format!` makes of a version's path
pub regrouped : (name version rest : List ℕ) → name ++ 47 ∷ (version ++ rest) ≡ name ++ codes "/" ++ version ++ rest
regrouped name version rest = simp append_assoc
