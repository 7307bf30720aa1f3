-- What a world file says of how its graph is to be built.
use Rattle.std.specs.Prelude.{false, codes, is_some, Some}
use Rattle.json_forms.specs.Form.{Form, flag, ◌>>=◌}
use Rattle.json_forms.specs.Member.{with_default}
use Rattle.world_file.specs.declared.settings.Settings.{Settings}
use Rattle.world_file.specs.declared.world_sums.WorldSums.{WorldSums}

-- the truth values, each false where it is absent; a locker that knows no sum is one
abbrev pub settings_of : WorldSums → Form Settings
settings_of sums d = do
  is_dynamic ← with_default false flag (codes "is_dynamic") d
  skip_dynamic_deps ← with_default false flag (codes "skip_dynamic_deps") d
  bytes ← with_default false flag (codes "bytes") d
  css ← with_default false flag (codes "css") d
  config ← with_default false flag (codes "config") d
  prefers ← with_default false flag (codes "prefer_cached_jsr") d
  Some (record {
    locker = is_some sums.locker;
    is_dynamic = is_dynamic;
    skip_dynamic_deps = skip_dynamic_deps;
    unstable_bytes_imports = bytes;
    unstable_css_imports = css;
    unstable_config_imports = config;
    prefer_cached_jsr_versions = prefers;
  })
