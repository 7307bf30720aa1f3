-- What loads of `data:` URLs (RFC 2397) answer.
use Rattle.std.specs.Prelude.{ℕ, List, [], ◌∷◌, codes, Option, Some, None, Result, Ok, Err}
use Rattle.url.specs.Parts.{Parts}
use Rattle.data_urls.specs.DataUrls.{data_url_of}
use Rattle.data_urls.specs.declared.data_url.DataUrl.{DataUrl}
use Rattle.spec_base.specs.declared.load_error.LoadError.TheVariants.{Other}
use Rattle.spec_base.specs.declared.refusal.Fault.{Fault}
use Rattle.source_io.specs.declared.types.Answer.{Answer}
use Rattle.source_io.specs.declared.types.Answer.TheVariants.{Load}
use Rattle.source_io.specs.declared.types.LoadResponse.{LoadResponse}
use Rattle.source_io.specs.declared.types.LoadResponse.TheVariants.{Module as Sourced}

-- the header that tells a content type
abbrev pub type_header : List ℕ → List (List ℕ × List ℕ)
type_header type = (codes "content-type", type) ∷ []

-- a module that is named as asked, with its content and the header that tells its type
abbrev pub data_response : Parts → DataUrl → LoadResponse
data_response s d = Sourced d.content None s (Some (type_header d.content_type))

-- what a specifier holds as a `data:` URL
abbrev pub by_data : Parts → Result DataUrl Fault → Result (Option LoadResponse) Fault
by_data s (Ok d) = Ok (Some (data_response s d))
by_data s (Err fault) = Err fault

abbrev pub data_loaded : Parts → Result (Option LoadResponse) Fault
data_loaded s = by_data s (data_url_of s)

-- the same as an answer: what can't be read is a failure
abbrev pub or_failed : Result (Option LoadResponse) Fault → Answer
or_failed (Ok response) = Load (Ok response)
or_failed (Err fault) = Load (Err (Other fault))

abbrev pub data_answer : Parts → Answer
data_answer s = or_failed (data_loaded s)
