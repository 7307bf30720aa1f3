-- The content of `data:` URLs (RFC 2397).
use Rattle.std.specs.Prelude.{ℕ, ◌-◌, Bool, true, false, not, ◌||◌, ◌==◌, nat_eq, nat_lt, List, ◌++◌, length, take, drop, codes, Option, Some, None, Result, Ok, Err, if◌then◌else◌}
use Rattle.std.specs.List.{ends_with, filter, starts_with, position_or_len, before_first, after_first}
use Rattle.std.specs.Char.{is_ascii_whitespace}
use Rattle.percent_encoding.specs.Percent.{percent_decode}
use Rattle.url.specs.Parts.{Parts, serialize}
use Rattle.media_types.specs.Media.{is_data, lower}
use Rattle.spec_base.specs.Options.{by_option}
use Rattle.spec_base.specs.declared.refusal.Fault.{Fault}
use Rattle.data_urls.specs.Base64.{base64_of}
use Rattle.data_urls.specs.declared.data_url.DataUrl.{DataUrl}

-- `#`, which begins the fragment
abbrev pub is_number_sign : ℕ → Bool
is_number_sign b = b == 35

-- `,`, which divides head and body
abbrev pub is_comma : ℕ → Bool
is_comma b = b == 44

-- the text after `data:` and up to a `#`
abbrev pub said_by : Parts → List ℕ
said_by url = before_first is_number_sign (drop 5 (serialize url))

-- what stands before the mark of base64, where a head ends in it in any case of letters
abbrev pub marked : List ℕ → Option (List ℕ)
marked head =
    if ends_with nat_eq (lower head) (codes ";base64") then Some (take (length head - 7) head) else None

-- the content type that a head says: `text/plain` where it is left out
abbrev pub content_type_of : List ℕ → List ℕ
content_type_of head =
    if length head == 0 || starts_with nat_eq head (codes ";") then codes "text/plain" ++ head else head

-- what isn't ASCII white space
abbrev pub is_kept : ℕ → Bool
is_kept b = not (is_ascii_whitespace b)

-- the content of a body, which is base64 or not
abbrev pub content_in : Bool → List ℕ → Option (List ℕ)
content_in true body = base64_of (filter is_kept (percent_decode body))
content_in false body = Some (percent_decode body)

-- the fault of what holds nothing that can be read
abbrev pub unreadable : Fault
unreadable = record { class = codes "Error"; message = codes "Unable to decode data url." }

-- the content with its type, where there is one
abbrev pub typed : List ℕ → Option (List ℕ) → Result DataUrl Fault
typed type None = Err unreadable
typed type (Some content) = Ok (record { content = content; content_type = content_type_of type })

-- what a head and a body say
abbrev pub by_parts : List ℕ → List ℕ → Result DataUrl Fault
by_parts head body =
    by_option (marked head) (typed head (content_in false body)) (λ type. typed type (content_in true body))

-- what a text says, which is divided at its first `,`
abbrev pub by_text : List ℕ → Result DataUrl Fault
by_text text =
    if nat_lt (position_or_len is_comma text) (length text)
    then by_parts (before_first is_comma text) (after_first is_comma text) else Err unreadable

-- what a specifier holds as a `data:` URL
abbrev pub data_url_of : Parts → Result DataUrl Fault
data_url_of url = if is_data url then by_text (said_by url) else Err unreadable
