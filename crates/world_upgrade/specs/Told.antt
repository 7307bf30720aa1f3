-- What the answers of a world file are: each is one that an entry of version 2 can tell.
use Rattle.std.specs.Prelude.{◌≡◌, ℕ, List, Bool, true, false, Option, Some, None, Ok, Err, ⊤}
use Rattle.std.specs.List.{AllByRecursion}
use Rattle.std.specs.List.Sorted.{IsStrictlySortedBy}
use Rattle.std.specs.Map.{keys_of}
use Rattle.data_urls.specs.Base64.{base64_of}
use Rattle.json_forms.specs.Form.{url_of}
use Rattle.source_io.specs.Answers.{is_ensure}
use Rattle.source_io.specs.declared.types.Answer.{Answer}
use Rattle.source_io.specs.declared.types.Answer.TheVariants.{Load, Ensure}
use Rattle.source_io.specs.declared.types.CacheResponse.{CacheResponse}
use Rattle.source_io.specs.declared.types.CacheResponse.TheVariants.{Cached, Redirect as CachedElsewhere}
use Rattle.source_io.specs.declared.types.LoadResponse.{LoadResponse}
use Rattle.source_io.specs.declared.types.LoadResponse.TheVariants.{External, Redirect, Module as Sourced}
use Rattle.source_io.specs.declared.types.Purpose.{Purpose}
use Rattle.spec_base.specs.Shown.{text_cmp}
use Rattle.spec_base.specs.declared.load_error.LoadError.{LoadError}
use Rattle.spec_base.specs.declared.load_error.LoadError.TheVariants.{ChecksumIntegrity, Other}
use Rattle.url.specs.Parts.{Parts, serialize}
use Rattle.world_answers.specs.WorldModules.{is_lower_case}
use Rattle.world_upgrade.specs.EntryJson.{base64_text}

-- a specifier that was read from a text
abbrev pub IsParsed : Parts → Type 0
IsParsed u = (t : List ℕ) × (url_of t ≡ Some u)

-- the names of headers are in lower case
abbrev pub AreLower : Option (List (List ℕ × List ℕ)) → Type 0
AreLower None = ⊤
AreLower (Some headers) = AllByRecursion (λ name. is_lower_case name ≡ true) (keys_of headers)

abbrev pub IsToldResponse : LoadResponse → Type 0
IsToldResponse (Sourced content mtime name headers) = IsParsed name × AreLower headers
IsToldResponse (External name) = IsParsed name
IsToldResponse (Redirect name) = IsParsed name

abbrev pub IsToldHeld : CacheResponse → Type 0
IsToldHeld Cached = ⊤
IsToldHeld (CachedElsewhere name) = IsParsed name

abbrev pub IsToldError : LoadError → Type 0
IsToldError (Other fault) = ⊤
IsToldError (ChecksumIntegrity e) = ⊥

-- an answer, by whether its purpose is to keep at hand
abbrev pub IsToldAnswer : Bool → Answer → Type 0
IsToldAnswer false (Load (Ok (Some response))) = IsToldResponse response
IsToldAnswer false (Load (Ok None)) = ⊤
IsToldAnswer false (Load (Err e)) = IsToldError e
IsToldAnswer false (Ensure result) = ⊥
IsToldAnswer true (Load result) = ⊥
IsToldAnswer true (Ensure (Ok (Some response))) = IsToldHeld response
IsToldAnswer true (Ensure (Ok None)) = ⊤
IsToldAnswer true (Ensure (Err e)) = IsToldError e

-- the answer to questions about a specifier with one purpose
abbrev pub IsTold : Parts × Purpose × Answer → Type 0
IsTold e = IsParsed e.0 × IsToldAnswer (is_ensure e.1) e.2

-- ---- what reads back as it was written

-- a specifier whose text is read as it
abbrev pub IsAgain : Parts → Type 0
IsAgain u = url_of (serialize u) ≡ Some u

-- the names of headers ascend, as those of a map do
abbrev pub AreAgain : Option (List (List ℕ × List ℕ)) → Type 0
AreAgain None = ⊤
AreAgain (Some headers) = IsStrictlySortedBy text_cmp (keys_of headers)

abbrev pub IsResponseAgain : LoadResponse → Type 0
IsResponseAgain (Sourced content mtime name headers) =
    (base64_of (base64_text content) ≡ Some content) × IsAgain name × AreAgain headers
IsResponseAgain (External name) = IsAgain name
IsResponseAgain (Redirect name) = IsAgain name

abbrev pub IsHeldAgain : CacheResponse → Type 0
IsHeldAgain Cached = ⊤
IsHeldAgain (CachedElsewhere name) = IsAgain name

abbrev pub IsAnswerAgain : Answer → Type 0
IsAnswerAgain (Load (Ok (Some response))) = IsResponseAgain response
IsAnswerAgain (Load (Ok None)) = ⊤
IsAnswerAgain (Load (Err e)) = ⊤
IsAnswerAgain (Ensure (Ok (Some response))) = IsHeldAgain response
IsAnswerAgain (Ensure (Ok None)) = ⊤
IsAnswerAgain (Ensure (Err e)) = ⊤

abbrev pub IsEntryAgain : Parts × Purpose × Answer → Type 0
IsEntryAgain e = IsAgain e.0 × IsAnswerAgain e.2

-- ---- the specifiers of an answer were read

abbrev pub ParsedResponse : LoadResponse → Type 0
ParsedResponse (Sourced content mtime name headers) = IsParsed name
ParsedResponse (External name) = IsParsed name
ParsedResponse (Redirect name) = IsParsed name

abbrev pub ParsedAnswer : Answer → Type 0
ParsedAnswer (Load (Ok (Some response))) = ParsedResponse response
ParsedAnswer (Load (Ok None)) = ⊤
ParsedAnswer (Load (Err e)) = ⊤
ParsedAnswer (Ensure (Ok (Some response))) = IsToldHeld response
ParsedAnswer (Ensure (Ok None)) = ⊤
ParsedAnswer (Ensure (Err e)) = ⊤
