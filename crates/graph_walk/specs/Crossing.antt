-- Where a module may not go.
use Rattle.std.specs.Prelude.{ℕ, Bool, ◌&&◌, ◌||◌, bytes_eq, nat_eq, codes, List}
use Rattle.std.specs.List.{starts_with}
use Rattle.url.specs.Parts.{Parts}
use Rattle.media_types.specs.Media.{lower}

-- a specifier has this scheme
abbrev pub has_scheme : Parts → List ℕ → Bool
has_scheme s scheme = bytes_eq s.scheme scheme

-- a module that was loaded over https imports one over http
abbrev pub is_downgrade : Parts → Parts → Bool
is_downgrade here target = has_scheme here (codes "https") && has_scheme target (codes "http")

-- a specifier's scheme is http or https
abbrev pub is_remote : Parts → Bool
is_remote s = has_scheme s (codes "http") || has_scheme s (codes "https")

-- a module that was loaded over http or https names a local file, by a text that begins so in any case of letters
abbrev pub is_local_import : Parts → List ℕ → Parts → Bool
is_local_import here text target = is_remote here && has_scheme target (codes "file") && starts_with nat_eq (lower text) (codes "file://")
