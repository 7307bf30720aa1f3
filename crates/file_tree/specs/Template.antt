-- The texts that the template of a dynamic import stands for in a tree of files.
use Rattle.std.specs.Prelude.{ℕ, ◌-◌, ◌++◌, Bool, true, false, not, ◌&&◌, ◌||◌, nat_eq, List, [], ◌∷◌, length, drop, codes, bytes_eq, slice_get, filter_map, Option, Some, None, is_some, if◌then◌else◌}
use Rattle.std.specs.List.{starts_with, ends_with}
use Rattle.std.specs.Option.{option_eq}
use Rattle.std.specs.Result.{result_ok}
use Rattle.std.specs.Str.{is_utf8}
use Rattle.percent_encoding.specs.Percent.{percent_encode, percent_decode}
use Rattle.url.specs.Host.{host_text}
use Rattle.url.specs.Parser.{parse_url}
use Rattle.url.specs.Parts.{Parts, cannot_be_a_base, has_host, host_or_empty}
use Rattle.url.specs.Relative.{relative_text}
use Rattle.module_info.specs.declared.argument.DynamicTemplatePart.{DynamicTemplatePart}
use Rattle.module_info.specs.declared.argument.DynamicTemplatePart.TheVariants as part_is
use Rattle.media_types.specs.declared.media.MediaType.{MediaType}
use Rattle.media_types.specs.declared.media.MediaType.TheVariants.{JavaScript, Jsx, Mjs, TypeScript, Mts, Tsx, Json}
use Rattle.media_types.specs.Media.{media_of_specifier}
use Rattle.spec_base.specs.Options.{by_option, then_by, same_text}
use Rattle.spec_base.specs.Position.{is_fs_root, without_trailing}
use Rattle.spec_base.specs.Specifier.{same_specifier}
use Rattle.file_tree.specs.declared.file_url.TheConstants.{ESCAPED}
use Rattle.file_tree.specs.Tree.{ascending}
use Rattle.file_tree.specs.Walk.{files_below}

-- ---- the form of a template

-- what stands after the first place at which a part stands in a text
unfoldable pub after_part : List ℕ → List ℕ → Option (List ℕ)
after_part part [] = if starts_with nat_eq [] part then Some [] else None
after_part part (b ∷ text) =
    if starts_with nat_eq (b ∷ text) part then Some (drop (length part) (b ∷ text)) else after_part part text

-- the part stands somewhere in the text
abbrev pub has_part : List ℕ → List ℕ → Bool
has_part part text = is_some (after_part part text)

-- the first of the texts: a directory, from the module's or the root on
abbrev pub is_first_text : List ℕ → Bool
is_first_text text =
    not (has_part (codes "/../") text) && (starts_with nat_eq text (codes "./") || starts_with nat_eq text (codes "/"))
    && ends_with nat_eq text (codes "/")

-- a text between two others: it begins and ends a name
abbrev pub is_inner_text : List ℕ → Bool
is_inner_text text =
    not (has_part (codes "/../") text) && starts_with nat_eq text (codes "/") && ends_with nat_eq text (codes "/")

-- a text at the end: it begins a name, or ends one
abbrev pub is_last_text : List ℕ → Bool
is_last_text text =
    not (has_part (codes "/../") text) && (starts_with nat_eq text (codes "/") || not (has_part (codes "/") text))

-- the form of the parts after the first text
unfoldable pub others_fit : List DynamicTemplatePart → Bool
others_fit [] = true
others_fit (part_is.Expr ∷ parts) = others_fit parts
others_fit (part_is.String text ∷ []) = is_last_text text
others_fit (part_is.String text ∷ part ∷ parts) = is_inner_text text && others_fit (part ∷ parts)

-- the form of a template's parts
unfoldable pub parts_fit : List DynamicTemplatePart → Bool
parts_fit [] = true
parts_fit (part_is.Expr ∷ parts) = parts_fit parts
parts_fit (part_is.String text ∷ parts) = is_first_text text && others_fit parts

-- the parts with which texts are compared: not a first one that is a `file:` URL
unfoldable pub compared : List DynamicTemplatePart → List DynamicTemplatePart
compared [] = []
compared (part_is.Expr ∷ parts) = part_is.Expr ∷ parts
compared (part_is.String text ∷ parts) =
    if starts_with nat_eq text (codes "file://") then parts else part_is.String text ∷ parts

-- ---- where a template starts

-- the URL to which a first text leads: one that begins with `./` from the module, one with `file://` by itself
abbrev pub text_start : List ℕ → Parts → Option Parts
text_start text referrer =
    if starts_with nat_eq text (codes "./") then result_ok (parse_url (Some referrer) text)
    else (if starts_with nat_eq text (codes "file://") then result_ok (parse_url None text) else None)

-- the URL to which the first part leads
unfoldable pub start_of : List DynamicTemplatePart → Parts → Option Parts
start_of [] referrer = None
start_of (part_is.Expr ∷ parts) referrer = None
start_of (part_is.String text ∷ parts) referrer = text_start text referrer

-- bytes that are a text
abbrev pub text_of_bytes : List ℕ → Option (List ℕ)
text_of_bytes bytes = if is_utf8 bytes then Some bytes else None

-- the directory of a `file:` URL: not the root of a file system, nor one of another host
unfoldable pub directory_of : Parts → Option (List ℕ)
directory_of url =
    if bytes_eq url.scheme (codes "file") && not (has_host url) && not (is_fs_root url)
    then text_of_bytes (percent_decode (without_trailing url.path)) else None

-- the directory in which a template's files are sought, where its parts have the form
unfoldable pub start_directory : List DynamicTemplatePart → Parts → Option (List ℕ)
start_directory parts referrer =
    if parts_fit (compared parts) then then_by (start_of parts referrer) directory_of else None

-- ---- the files that count

-- the `file:` URL of a path
unfoldable pub file_url : List ℕ → Option Parts
file_url path = result_ok (parse_url None (codes "file://" ++ percent_encode ESCAPED path))

-- the media of the files that count: scripts, or JSON alone where the attribute `type` is `json`
unfoldable pub is_wanted : Bool → MediaType → Bool
is_wanted true Json = true
is_wanted true _ = false
is_wanted false JavaScript = true
is_wanted false TypeScript = true
is_wanted false Jsx = true
is_wanted false Tsx = true
is_wanted false Mjs = true
is_wanted false Mts = true
is_wanted false _ = false

-- a relative text leads from one URL to another
unfoldable pub can_relate : Parts → Parts → Bool
can_relate base url =
    not (cannot_be_a_base base) && bytes_eq base.scheme url.scheme
    && bytes_eq (host_text (host_or_empty base)) (host_text (host_or_empty url)) && option_eq nat_eq base.port url.port

-- a text that goes down begins with `./`
abbrev pub dotted : List ℕ → List ℕ
dotted text = if starts_with nat_eq text (codes "../") then text else codes "./" ++ text

-- the text that leads from one URL to another
unfoldable pub text_between : Parts → Parts → Option (List ℕ)
text_between base url = if can_relate base url then Some (dotted (relative_text base url)) else None

-- the text holds the text parts, each after the one before
unfoldable pub holds_parts : List DynamicTemplatePart → List ℕ → Bool
holds_parts [] text = true
holds_parts (part_is.Expr ∷ parts) text = holds_parts parts text
holds_parts (part_is.String part ∷ parts) text = by_option (after_part part text) false (holds_parts parts)

-- the text ends with the part, where that is a text
abbrev pub ends_with_part : List ℕ → DynamicTemplatePart → Bool
ends_with_part text part_is.Expr = true
ends_with_part text (part_is.String part) = ends_with nat_eq text part

-- the text ends with the last part, where that is a text
unfoldable pub ends_as : List DynamicTemplatePart → List ℕ → Bool
ends_as parts text = by_option (slice_get parts (length parts - 1)) true (ends_with_part text)

-- the text has the parts of the template
abbrev pub fits_template : List DynamicTemplatePart → List ℕ → Bool
fits_template parts text = holds_parts (compared parts) text && ends_as parts text

-- the text, where it has the parts
abbrev pub fitting : List DynamicTemplatePart → List ℕ → Option (List ℕ)
fitting parts text = if fits_template parts text then Some text else None

-- the file counts: it has the media, and isn't the module itself
abbrev pub is_candidate : Parts → Bool → Parts → Bool
is_candidate referrer is_json url = is_wanted is_json (media_of_specifier url) && not (same_specifier url referrer)

-- the text of a file that counts
unfoldable pub text_of_url : Parts → List DynamicTemplatePart → Bool → Parts → Option (List ℕ)
text_of_url referrer parts is_json url =
    if is_candidate referrer is_json url then then_by (text_between referrer url) (fitting parts) else None

-- the text of a file that counts, by its path
unfoldable pub text_of_file : Parts → List DynamicTemplatePart → Bool → List ℕ → Option (List ℕ)
text_of_file referrer parts is_json path = then_by (file_url path) (text_of_url referrer parts is_json)

-- ---- the texts

-- the attribute `type` is `json`
abbrev pub is_json_type : Option (List ℕ) → Bool
is_json_type attribute_type = same_text attribute_type (Some (codes "json"))

-- the distinct texts of the files that count below the start, in ascending order of their bytes
unfoldable pub template_texts : List (List ℕ) → Parts → List DynamicTemplatePart → Option (List ℕ) → List (List ℕ)
template_texts paths referrer parts attribute_type =
    by_option (start_directory parts referrer) [] (λ directory.
    ascending
    (filter_map (text_of_file referrer parts (is_json_type attribute_type)) (files_below paths directory)))
