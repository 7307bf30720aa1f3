-- What a world file says of the registry of packages.
use Rattle.std.specs.Prelude.{◌≡◌, ℕ, ℤ, List, [], ◌∷◌, fold, map, Bool, true, false, refl, codes, Option, Some, None, option_map}
use Rattle.std.specs.BTreeSet.{insert_key}
use Rattle.url.specs.Parts.{Parts}
use Rattle.spec_base.specs.Shown.{text_cmp}
use Rattle.json_forms.specs.Form.{Form, text, flag, specifier, given, ◌>>=◌}
use Rattle.json_forms.specs.Dictionary.{dictionary}
use Rattle.json_forms.specs.Member.{has_names, optional, or_empty, with_default}
use Rattle.pkg_versions.specs.RegistryFiles.{time}
use Rattle.version_dates.specs.declared.newest_date.NewestDependencyDateOptions.{NewestDependencyDateOptions}
use Rattle.version_dates.specs.declared.newest_date.PrefixDate.{PrefixDate}
use Rattle.registry_urls.specs.Default.{default_registry}
use Rattle.registry_urls.specs.Registry.{is_web}
use Rattle.registry_urls.specs.declared.provider.DefaultJsrUrlProvider.{DefaultJsrUrlProvider}
use Rattle.world_file.specs.declared.world_registry.NewestDates.{NewestDates}
use Rattle.world_file.specs.declared.world_registry.RegistrySettings.{RegistrySettings}

-- ---- where packages are

abbrev pub provider_if : (url : Parts) (web : Bool) → is_web url ≡ web → Option DefaultJsrUrlProvider
provider_if url true is = Some (record { url = url; web = is })
provider_if url false other = None

-- the registry with a URL, which is http or https
abbrev pub provider_at : Parts → Option DefaultJsrUrlProvider
provider_at url = provider_if url (is_web url) refl

-- the registry of a file, JSR where none is told
abbrev pub provider_of : Form DefaultJsrUrlProvider
provider_of d = do
  url ← with_default default_registry specifier (codes "registry") d
  provider_at url

-- ---- dates of versions

-- no limit is set
abbrev pub no_newest : NewestDates
no_newest = record { date = None; exclude = []; exclude_prefixes = []; prefix_dates = [] }

-- the dates that versions must be below, those by the beginnings of names in the order of these, and the packages that they don't bind
abbrev pub newest_dates : Form NewestDates
newest_dates d = do
  known ← given (has_names (codes "date" ∷ codes "exclude" ∷ codes "excludePrefixes" ∷ codes "prefixDates" ∷ []) d)
  date ← optional time (codes "date") d
  exclude ← or_empty text (codes "exclude") d
  prefixes ← or_empty text (codes "excludePrefixes") d
  dates ← with_default [] (dictionary time) (codes "prefixDates") d
  Some (record { date = date; exclude = exclude; exclude_prefixes = prefixes; prefix_dates = dates })

-- names, each at its place in their order
abbrev pub names_from : List (List ℕ) → List (List ℕ) → List (List ℕ)
names_from found names = fold (insert_key text_cmp) found names

-- a limit by the beginning of names, with its date
abbrev pub dated : PrefixDate → List ℕ × ℤ
dated d = (d.prefix, d.date.0)

-- the limits as the resolver of versions takes them
pub record IsLimit (newest : NewestDates) (options : NewestDependencyDateOptions) : Type 0 where
  pub date : option_map (λ limit. limit.0) options.date ≡ newest.date
  pub names : options.exclude_jsr_pkgs ≡ names_from [] newest.exclude
  pub prefixes : options.exclude_jsr_pkg_prefixes ≡ newest.exclude_prefixes
  pub dates : map dated options.prefix_dates ≡ newest.prefix_dates

-- ---- all of it

-- what a file says of the registry, each by its default where it is absent
abbrev pub registry_of : Form RegistrySettings
registry_of d = do
  provider ← provider_of d
  passthrough ← with_default false flag (codes "passthrough_jsr") d
  newest ← with_default no_newest newest_dates (codes "newest") d
  Some (record { provider = provider; passthrough_jsr = passthrough; newest = newest })
