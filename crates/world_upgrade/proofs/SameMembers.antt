-- Two objects with the same members, but for their version and their answers, are the same input.
use Rattle.std.proofs.Common.{◌≡◌, ℕ, List, [], Bool, false, Option, Some, None, ap, sym, ◌∙◌, bytes_eq, true, refl}
use Rattle.std.specs.Prelude.{codes, is_some}
use Rattle.std.specs.List.{list_any, list_all}
use Rattle.serde_json.specs.Data.{Data}
use Rattle.serde_json.specs.Find.{get}
use Rattle.graph_dependencies.specs.declared.graph_kind.GraphKind.{GraphKind}
use Rattle.graph_dependencies.specs.declared.graph_kind.GraphKind.TheVariants as kind_is
use Rattle.graph_dependencies.specs.declared.referrer_imports.ReferrerImports.{ReferrerImports}
use Rattle.json_forms.specs.Form.{Form, text, whole, flag, specifier, choice, list_of, given, ◌>>=◌}
use Rattle.json_forms.specs.Keyed.{keyed}
use Rattle.json_forms.specs.Member.{if_there, or_else, required}
use Rattle.npm_resolver.specs.declared.types.NpmTable.{NpmTable}
use Rattle.registry_urls.specs.Default.{default_registry}
use Rattle.source_io.specs.Resolvers.{no_jsx}
use Rattle.source_io.specs.declared.types.Answer.{Answer}
use Rattle.source_io.specs.declared.types.Purpose.{Purpose}
use Rattle.url.specs.Parts.{Parts}
use Rattle.world_answers.specs.WorldAnswers.{answers_in}
use Rattle.world_file.specs.WorldCache.{paths_of}
use Rattle.world_file.specs.WorldFile.{other_members, has_members, roots_of, limits_of, default_max_redirects, default_max_loads, world_by, world_in, input}
use Rattle.world_file.specs.WorldImports.{graph_kinds, kind_of, referrer_imports, imports_of}
use Rattle.world_file.specs.WorldInfos.{info_entry, infos_of}
use Rattle.world_file.specs.WorldNpm.{npm_table, npm_of}
use Rattle.world_file.specs.WorldRegistry.{provider_at, no_newest, newest_dates, registry_of}
use Rattle.world_file.specs.WorldResolutions.{world_resolution, types_target, types_listed, jsx_defaults, resolver_parts}
use Rattle.world_file.specs.WorldSettings.{settings_of}
use Rattle.world_file.specs.WorldSums.{locker_sums, sums_of}
use Rattle.world_file.specs.WorldTree.{is_absolute, tree_of}
use Rattle.world_file.specs.declared.input.Input.{Input}
use Rattle.world_file.specs.declared.limits.Limits.{Limits}
use Rattle.world_file.specs.declared.settings.Settings.{Settings}
use Rattle.world_file.specs.declared.world_infos.InfoEntry.{InfoEntry}
use Rattle.world_file.specs.declared.world_registry.RegistrySettings.{RegistrySettings}
use Rattle.world_file.specs.declared.world_resolutions.ResolverParts.{ResolverParts}
use Rattle.world_file.specs.declared.world_sums.WorldSums.{WorldSums}

-- ---- each part of an input, by the members that it is read from

abbrev limits_from : Option Data → Option Data → Option Data → Option Data → Option Limits
limits_from a b c e = do
  max_redirects ← or_else default_max_redirects whole a
  max_loads ← or_else default_max_loads whole b
  arrival ← or_else [] (list_of whole) c
  fail_next ← or_else [] (list_of whole) e
  Some (record { max_redirects = max_redirects; max_loads = max_loads; arrival = arrival; fail_next = fail_next })

abbrev sums_from : Option Data → Option Data → Option WorldSums
sums_from a b = do
  verifies ← or_else false flag a
  locker ← if_there locker_sums b
  Some (record { verifies = verifies; locker = locker })

abbrev registry_from : Option Data → Option Data → Option Data → Option RegistrySettings
registry_from a b c = do
  provider ← (do
    url ← or_else default_registry specifier a
    provider_at url)
  passthrough ← or_else false flag b
  newest ← or_else no_newest newest_dates c
  Some (record { provider = provider; passthrough_jsr = passthrough; newest = newest })

abbrev tree_from : Option Data → Option (List (List ℕ))
tree_from a = do
  paths ← or_else [] (list_of text) a
  absolute ← given (list_all is_absolute paths)
  Some paths

abbrev parts_from : Option Data → Option Data → Option Data → Option ResolverParts
parts_from a b c = do
  resolutions ← or_else [] (list_of world_resolution) a
  types ← or_else [] (keyed types_target) b
  jsx ← or_else no_jsx jsx_defaults c
  Some (record { resolutions = resolutions; types = types_listed types; jsx = jsx })

-- ---- all of it

-- what is read behind the version
abbrev pub after_version : ℕ → Form Input
after_version version d = do
  roots ← roots_of d
  imports ← imports_of d
  kind ← kind_of d
  limits ← limits_of d
  sums ← sums_of d
  settings ← settings_of sums d
  registry ← registry_of d
  npm ← npm_of d
  world ← world_in version limits sums d
  Some (record {
    roots = roots;
    imports = imports;
    kind = kind;
    world = world;
    arrival = limits.arrival;
    fail_next = limits.fail_next;
    max_loads = limits.max_loads;
    settings = settings;
    registry = registry;
    npm = npm;
  })

abbrev Answers : Type 0
Answers = List (Parts × Purpose × Answer)

abbrev after_from : Option (List Parts) → Option (List ReferrerImports) → Option GraphKind → Option Limits → Option WorldSums → (WorldSums → Option Settings) → Option RegistrySettings
    → Option (Option NpmTable) → Option (List (List ℕ)) → Option Answers → Option (List (Parts × InfoEntry)) → Option ResolverParts → Option (List (Parts × List ℕ)) → Option Input
after_from roots_read imports_read kind_read limits_read sums_read settings_read registry_read npm_read tree_read answers_read infos_read parts_read paths_read = do
  roots ← roots_read
  imports ← imports_read
  kind ← kind_read
  limits ← limits_read
  sums ← sums_read
  settings ← settings_read sums
  registry ← registry_read
  npm ← npm_read
  world ← (do
    tree ← tree_read
    answers ← answers_read
    infos ← infos_read
    parts ← parts_read
    paths ← paths_read
    Some (world_by answers infos limits parts tree sums paths))
  Some (record {
    roots = roots;
    imports = imports;
    kind = kind;
    world = world;
    arrival = limits.arrival;
    fail_next = limits.fail_next;
    max_loads = limits.max_loads;
    settings = settings;
    registry = registry;
    npm = npm;
  })

module _ (d e : Data) (same : (k : List ℕ) → list_any (bytes_eq k) other_members ≡ true → get k e ≡ get k d) where
  roots_same : roots_of e ≡ roots_of d
  roots_same = ap (or_else [] (list_of specifier)) (same (codes "roots") refl)

  imports_same : imports_of e ≡ imports_of d
  imports_same = ap (or_else [] (list_of referrer_imports)) (same (codes "imports") refl)

  kind_same : kind_of e ≡ kind_of d
  kind_same = ap (or_else kind_is.All (choice graph_kinds)) (same (codes "kind") refl)

  limits_same : limits_of e ≡ limits_of d
  limits_same = λ i. limits_from (same (codes "max_redirects") refl i) (same (codes "max_loads") refl i) (same (codes "arrival") refl i) (same (codes "fail_next") refl i)

  sums_same : sums_of e ≡ sums_of d
  sums_same = λ i. sums_from (same (codes "verify") refl i) (same (codes "locker") refl i)

  abbrev settings_from : WorldSums → Option Data → Option Data → Option Data → Option Data → Option Data → Option Data → Option Settings
  settings_from sums a b c f g h = do
    is_dynamic ← or_else false flag a
    skip_dynamic_deps ← or_else false flag b
    bytes ← or_else false flag c
    css ← or_else false flag f
    config ← or_else false flag g
    prefers ← or_else false flag h
    Some (record {
      locker = is_some sums.locker;
      is_dynamic = is_dynamic;
      skip_dynamic_deps = skip_dynamic_deps;
      unstable_bytes_imports = bytes;
      unstable_css_imports = css;
      unstable_config_imports = config;
      prefer_cached_jsr_versions = prefers;
    })

  settings_same : (sums : WorldSums) → settings_of sums e ≡ settings_of sums d
  settings_same sums = λ i. settings_from sums (same (codes "is_dynamic") refl i) (same (codes "skip_dynamic_deps") refl i) (same (codes "bytes") refl i) (same (codes "css") refl i) (same (codes "config") refl i) (same (codes "prefer_cached_jsr") refl i)

  registry_same : registry_of e ≡ registry_of d
  registry_same = λ i. registry_from (same (codes "registry") refl i) (same (codes "passthrough_jsr") refl i) (same (codes "newest") refl i)

  npm_same : npm_of e ≡ npm_of d
  npm_same = ap (if_there npm_table) (same (codes "npm") refl)

  tree_same : tree_of e ≡ tree_of d
  tree_same = λ i. tree_from (same (codes "tree") refl i)

  infos_same : infos_of e ≡ infos_of d
  infos_same = ap (or_else [] (keyed info_entry)) (same (codes "infos") refl)

  parts_same : resolver_parts e ≡ resolver_parts d
  parts_same = λ i. parts_from (same (codes "resolutions") refl i) (same (codes "types") refl i) (same (codes "jsx") refl i)

  paths_same : paths_of e ≡ paths_of d
  paths_same = ap (or_else [] (keyed text)) (same (codes "cache_info") refl)

  pub after_same : (v w : ℕ) → answers_in w e ≡ answers_in v d → after_version w e ≡ after_version v d
  after_same v w answers =
      λ i. after_from (roots_same i) (imports_same i) (kind_same i) (limits_same i) (sums_same i) (λ sums. settings_same sums i) (registry_same i) (npm_same i) (tree_same i) (answers i) (infos_same i) (parts_same i) (paths_same i)
