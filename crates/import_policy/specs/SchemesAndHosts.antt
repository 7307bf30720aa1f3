-- The scheme and the host of a URL, as its text tells them.
use Rattle.std.specs.Prelude.{ℕ, Bool, false, ◌&&◌, ◌==◌, List, [], take, drop, slice_index, Option, None, Some, option_map, if◌then◌else◌}
use Rattle.url.specs.Ascii.{at_sign, number_sign, question_mark, slash}
use Rattle.url.specs.Host.{host_text}
use Rattle.url.specs.Input.{is_empty, rsplit_once, split_once}
use Rattle.url.specs.Parser.{host_len, split_scheme}
use Rattle.url.specs.Parts.{Parts, nonempty_host}
use Rattle.url.specs.Path.{segment_len}
use Rattle.url.specs.declared.scheme.SchemeType.TheVariants.{NotSpecial}

-- a scheme, and a host where there is one
pub record SchemeAndHost : Type 0 where
  pub scheme : List ℕ
  pub host : Option (List ℕ)

-- those of a URL; an empty host is none
abbrev pub scheme_and_host_of : Parts → SchemeAndHost
scheme_and_host_of url = record { scheme = url.scheme; host = option_map host_text (nonempty_host url) }

-- ---- by the text alone

-- a text up to its query and its fragment
abbrev pub body_in : List ℕ → List ℕ
body_in text = (split_once question_mark (split_once number_sign text).0).0

abbrev pub has_slashes : List ℕ → Bool
has_slashes rest = slice_index rest 0 == slash && slice_index rest 1 == slash

-- what stands between `//` and the path
abbrev pub authority_in : List ℕ → List ℕ
authority_in rest = if has_slashes rest then take (segment_len NotSpecial (drop 2 rest)) (drop 2 rest) else []

-- up to the port
abbrev pub without_port : List ℕ → List ℕ
without_port text = take (host_len false text) text

abbrev pub nonempty : List ℕ → Option (List ℕ)
nonempty text = if is_empty text then None else Some text

-- what stands between the credentials and the port, behind a scheme
abbrev pub host_in : List ℕ → Option (List ℕ)
host_in rest = nonempty (without_port (rsplit_once at_sign (authority_in rest)).1)

-- by what stands before and behind the first `:`
abbrev pub scheme_and_host_by : Option (List ℕ × List ℕ) → SchemeAndHost
scheme_and_host_by None = record { scheme = []; host = None }
scheme_and_host_by (Some split) = record { scheme = split.0; host = host_in split.1 }

unfoldable pub scheme_and_host_in : List ℕ → SchemeAndHost
scheme_and_host_in text = scheme_and_host_by (split_scheme (body_in text))
