-- Media types of names and of content types.
use Rattle.std.specs.Prelude.{ℕ, ◌+◌, Bool, true, false, not, ◌||◌, ◌==◌, nat_eq, nat_lt, List, [], ◌∷◌, length, map, drop, codes, bytes_eq, if◌then◌else◌}
use Rattle.std.specs.List.{ends_with, after_last, before_first, suffix_len}
use Rattle.std.specs.Char.{to_ascii_lowercase}
use Rattle.std.specs.Str.{trim}
use Rattle.url.specs.Parts.{Parts, serialize}
use Rattle.media_types.specs.declared.media.MediaType.{MediaType}
use Rattle.media_types.specs.declared.media.MediaType.TheVariants.{JavaScript, Jsx, Mjs, Cjs, TypeScript, Mts, Cts, Dts, Dmts, Dcts, Tsx, Css, Json, Jsonc, Json5, Markdown, Html, Sql, Wasm, SourceMap, Unknown}

-- in ASCII lower case
abbrev pub lower : List ℕ → List ℕ
lower text = map to_ascii_lowercase text

-- what stands after the last `/`, or all
abbrev pub last_segment : List ℕ → List ℕ
last_segment path = after_last (λ b. b == 47) path

-- what stands after the last `.`, unless that is missing or comes first
abbrev pub extension : List ℕ → List ℕ
extension name =
    if nat_lt (suffix_len (λ b. not (b == 46)) name + 1) (length name) then after_last (λ b. b == 46) name else []

-- the media type of an extension in lower case
unfoldable pub media_of_extension : List ℕ → MediaType
media_of_extension ext =
    if bytes_eq ext (codes "js") then JavaScript
    else (if bytes_eq ext (codes "jsx") then Jsx
    else (if bytes_eq ext (codes "mjs") then Mjs
    else (if bytes_eq ext (codes "cjs") then Cjs
    else (if bytes_eq ext (codes "ts") then TypeScript
    else (if bytes_eq ext (codes "mts") then Mts
    else (if bytes_eq ext (codes "cts") then Cts
    else (if bytes_eq ext (codes "tsx") then Tsx
    else (if bytes_eq ext (codes "css") then Css
    else (if bytes_eq ext (codes "json") then Json
    else (if bytes_eq ext (codes "jsonc") then Jsonc
    else (if bytes_eq ext (codes "json5") then Json5
    else (if bytes_eq ext (codes "md") then Markdown
    else (if bytes_eq ext (codes "markdown") then Markdown
    else (if bytes_eq ext (codes "html") then Html
    else (if bytes_eq ext (codes "htm") then Html
    else (if bytes_eq ext (codes "sql") then Sql
    else (if bytes_eq ext (codes "wasm") then Wasm
    else (if bytes_eq ext (codes "map") then SourceMap
    else Unknown))))))))))))))))))

-- the media type of a file's name
unfoldable pub media_of_name : List ℕ → MediaType
media_of_name name =
    if ends_with nat_eq (lower name) (codes ".d.ts") then Dts
    else (if ends_with nat_eq (lower name) (codes ".d.mts") then Dmts
    else (if ends_with nat_eq (lower name) (codes ".d.cts") then Dcts
    else media_of_extension (lower (extension name))))

-- ---- content types

-- the eleven script media
abbrev pub is_script : MediaType → Bool
is_script JavaScript = true
is_script Jsx = true
is_script Mjs = true
is_script Cjs = true
is_script TypeScript = true
is_script Mts = true
is_script Cts = true
is_script Dts = true
is_script Dmts = true
is_script Dcts = true
is_script Tsx = true
is_script _ = false

-- declaration files, which tell types alone
abbrev pub is_declaration : MediaType → Bool
is_declaration Dts = true
is_declaration Dmts = true
is_declaration Dcts = true
is_declaration _ = false

-- media with JSX syntax
abbrev pub is_jsx : MediaType → Bool
is_jsx Jsx = true
is_jsx Tsx = true
is_jsx _ = false

-- TypeScript in any of its forms
abbrev pub is_typed : MediaType → Bool
is_typed TypeScript = true
is_typed Mts = true
is_typed Cts = true
is_typed Dts = true
is_typed Dmts = true
is_typed Dcts = true
is_typed Tsx = true
is_typed _ = false

-- the specifier's media where it is script and neither JavaScript nor TypeScript, else the other
abbrev pub script_or : MediaType → MediaType → MediaType
script_or JavaScript other = other
script_or TypeScript other = other
script_or media other = if is_script media then media else other

-- the specifier's media where it is Jsonc or Json5, else Json
abbrev pub json_of : MediaType → MediaType
json_of Jsonc = Jsonc
json_of Json5 = Json5
json_of _ = Json

-- whether a list of texts has this one
abbrev pub is_among : List ℕ → List (List ℕ) → Bool
is_among text [] = false
is_among text (t ∷ ts) = bytes_eq text t || is_among text ts

abbrev pub typescript_types : List (List ℕ)
typescript_types =
    codes "application/typescript" ∷ codes "text/typescript" ∷ codes "application/x-typescript"
    ∷ codes "video/mp2t" ∷ codes "video/vnd.dlna.mpeg-tts" ∷ []

abbrev pub javascript_types : List (List ℕ)
javascript_types =
    codes "application/javascript" ∷ codes "text/javascript" ∷ codes "application/ecmascript"
    ∷ codes "text/ecmascript" ∷ codes "application/x-javascript" ∷ codes "application/node" ∷ []

-- the media of a content type in lower case; `own` is the specifier's media
unfoldable pub media_of_type : MediaType → List ℕ → MediaType
media_of_type own type =
    if is_among type typescript_types then script_or own TypeScript
    else (if is_among type javascript_types then script_or own JavaScript
    else (if bytes_eq type (codes "text/jsx") then Jsx
    else (if bytes_eq type (codes "text/tsx") then Tsx
    else (if bytes_eq type (codes "text/css") then Css
    else (if bytes_eq type (codes "text/html") then Html
    else (if bytes_eq type (codes "text/markdown") then Markdown
    else (if bytes_eq type (codes "application/sql") then Sql
    else (if bytes_eq type (codes "application/wasm") then Wasm
    else (if is_among type (codes "application/json" ∷ codes "text/json" ∷ []) then json_of own
    else (if is_among type (codes "text/plain" ∷ codes "application/octet-stream" ∷ []) then own
    else Unknown))))))))))

-- a byte that ends the content type of a `data:` URL
abbrev pub ends_type : ℕ → Bool
ends_type b = b == 59 || b == 44

-- what stands between `data:` and the first `;` or `,`
abbrev pub data_type : Parts → List ℕ
data_type url = before_first ends_type (drop 5 (serialize url))

abbrev pub is_data : Parts → Bool
is_data url = bytes_eq url.scheme (codes "data")

-- the media of a specifier by its name alone, which a `data:` URL has not
abbrev pub own_media : Parts → MediaType
own_media url = if is_data url then Unknown else media_of_name (last_segment url.path)

-- the media by a content type
abbrev pub media_by_type : Parts → List ℕ → MediaType
media_by_type url type = media_of_type (own_media url) (lower (trim type))

-- the media of a specifier
abbrev pub media_of_specifier : Parts → MediaType
media_of_specifier url = if is_data url then media_by_type url (data_type url) else own_media url

-- ---- names

-- the name of a media type
abbrev pub media_name : MediaType → List ℕ
media_name JavaScript = codes "JavaScript"
media_name Jsx = codes "JSX"
media_name Mjs = codes "Mjs"
media_name Cjs = codes "Cjs"
media_name TypeScript = codes "TypeScript"
media_name Mts = codes "Mts"
media_name Cts = codes "Cts"
media_name Dts = codes "Dts"
media_name Dmts = codes "Dmts"
media_name Dcts = codes "Dcts"
media_name Tsx = codes "TSX"
media_name Css = codes "Css"
media_name Json = codes "Json"
media_name Jsonc = codes "Jsonc"
media_name Json5 = codes "Json5"
media_name Markdown = codes "Markdown"
media_name Html = codes "Html"
media_name Sql = codes "Sql"
media_name Wasm = codes "Wasm"
media_name SourceMap = codes "SourceMap"
media_name Unknown = codes "Unknown"
