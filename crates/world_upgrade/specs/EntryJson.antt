-- The answers of a world file as the entries of version 2.
use Rattle.std.specs.Prelude.{ℕ, List, [], ◌∷◌, ◌++◌, codes, Some, None, Ok, Err, option_map}
use Rattle.base64.specs.Engines.{standard_pad_indifferent}
use Rattle.base64.specs.GeneralPurpose.{encode_of}
use Rattle.json_forms.specs.Range.{pair_json}
use Rattle.json_forms.specs.Rows.{Rows, object_of, list_json}
use Rattle.serde_json.specs.Data.{Data, number, unsigned, string}
use Rattle.spec_base.specs.declared.load_error.LoadError.{LoadError}
use Rattle.spec_base.specs.declared.load_error.LoadError.TheVariants.{ChecksumIntegrity, Other}
use Rattle.source_io.specs.declared.types.Answer.{Answer}
use Rattle.source_io.specs.declared.types.Answer.TheVariants.{Load, Ensure}
use Rattle.source_io.specs.declared.types.CacheResponse.TheVariants.{Cached, Redirect as CachedElsewhere}
use Rattle.source_io.specs.declared.types.LoadResponse.{LoadResponse}
use Rattle.source_io.specs.declared.types.LoadResponse.TheVariants.{External, Redirect, Module as Sourced}
use Rattle.source_io.specs.declared.types.Purpose.{Purpose}
use Rattle.source_io.specs.declared.types.Purpose.TheVariants.{LoadUse, EnsureUse, LoadReload, EnsureReload, LoadOnly}
use Rattle.url.specs.Parts.{Parts, serialize}

-- the name of a purpose
abbrev pub purpose_name : Purpose → List ℕ
purpose_name LoadUse = codes "load"
purpose_name EnsureUse = codes "ensure"
purpose_name LoadReload = codes "load-reload"
purpose_name EnsureReload = codes "ensure-reload"
purpose_name LoadOnly = codes "load-only"

-- a specifier
abbrev pub url_json : Parts → Data
url_json u = string (serialize u)

-- the kind of an entry
abbrev pub kind_rows : List ℕ → Rows
kind_rows name = (codes "kind", Some (string name)) ∷ []

-- a kind that leads to a specifier
abbrev pub to_rows : List ℕ → Parts → Rows
to_rows name to = (codes "kind", Some (string name)) ∷ (codes "to", Some (url_json to)) ∷ []

-- a failure; a source with another sum is none that a world file tells
abbrev pub error_rows : LoadError → Rows
error_rows (Other fault) =
    (codes "kind", Some (string (codes "error")))
    ∷ (codes "class", Some (string fault.class))
    ∷ (codes "message", Some (string fault.message))
    ∷ []
error_rows (ChecksumIntegrity e) = []

-- the standard base64 of some bytes
abbrev pub base64_text : List ℕ → List ℕ
base64_text bytes = encode_of standard_pad_indifferent bytes

-- headers as pairs
abbrev pub headers_json : List (List ℕ × List ℕ) → Data
headers_json headers = list_json (λ h. pair_json (string h.0) (string h.1)) headers

-- a number
abbrev pub number_json : ℕ → Data
number_json n = number (unsigned n)

-- what a load finds
abbrev pub response_rows : LoadResponse → Rows
response_rows (Sourced content mtime name headers) =
    (codes "kind", Some (string (codes "module")))
    ∷ (codes "base64", Some (string (base64_text content)))
    ∷ (codes "name", Some (url_json name))
    ∷ (codes "headers", option_map headers_json headers)
    ∷ (codes "mtime", option_map number_json mtime)
    ∷ []
response_rows (External name) = to_rows (codes "external") name
response_rows (Redirect name) = to_rows (codes "redirect") name

-- an answer
abbrev pub answer_rows : Answer → Rows
answer_rows (Load (Ok (Some response))) = response_rows response
answer_rows (Load (Ok None)) = kind_rows (codes "missing")
answer_rows (Load (Err e)) = error_rows e
answer_rows (Ensure (Ok (Some Cached))) = kind_rows (codes "cached")
answer_rows (Ensure (Ok (Some (CachedElsewhere to)))) = to_rows (codes "redirect") to
answer_rows (Ensure (Ok None)) = kind_rows (codes "missing")
answer_rows (Ensure (Err e)) = error_rows e

-- the answer to questions about a specifier with one purpose
unfoldable pub entry_json : Parts × Purpose × Answer → Data
entry_json e =
    object_of
    ((codes "specifier", Some (url_json e.0)) ∷ (codes "purpose", Some (string (purpose_name e.1))) ∷ answer_rows e.2)
