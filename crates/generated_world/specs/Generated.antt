-- The input that a generator makes.
use Rattle.std.specs.Prelude.{ℕ, ◌*◌, false, [], ◌∷◌, None, refl}
use Rattle.graph_dependencies.specs.declared.graph_kind.GraphKind.TheVariants.{All}
use Rattle.registry_urls.specs.Default.{default_registry}
use Rattle.registry_urls.specs.declared.provider.DefaultJsrUrlProvider.{DefaultJsrUrlProvider}
use Rattle.source_io.specs.Resolvers.{no_jsx}
use Rattle.source_io.specs.declared.types.World.{World}
use Rattle.world_file.specs.WorldFile.{default_max_redirects}
use Rattle.world_file.specs.WorldRegistry.{no_newest}
use Rattle.world_file.specs.declared.input.Input.{Input}
use Rattle.world_file.specs.declared.settings.Settings.{Settings}
use Rattle.world_file.specs.declared.world_registry.RegistrySettings.{RegistrySettings}
use Rattle.generated_world.specs.declared.generation.Generation.{Generation}
use Rattle.generated_world.specs.Generation.{all_modules}
use Rattle.generated_world.specs.Modules.{module_url}

-- a build by no settings
abbrev pub no_settings : Settings
no_settings = record {
  locker = false;
  is_dynamic = false;
  skip_dynamic_deps = false;
  unstable_bytes_imports = false;
  unstable_css_imports = false;
  unstable_config_imports = false;
  prefer_cached_jsr_versions = false;
}

-- the registry JSR, without a limit on dates
abbrev pub jsr : DefaultJsrUrlProvider
jsr = record { url = default_registry; web = refl }

abbrev pub jsr_settings : RegistrySettings
jsr_settings = record { provider = jsr; passthrough_jsr = false; newest = no_newest }

-- a world that answers what was generated alone
abbrev pub world_by : Generation → World
world_by g = record {
  answers = g.answers;
  infos = g.infos;
  resolutions = [];
  types = [];
  jsx = no_jsx;
  cache_info = [];
  tree = [];
  remote_sums = [];
  package_sums = [];
  max_redirects = default_max_redirects;
  verifies = false;
  reads_data = false;
}

-- the input with the world of so many modules, from a state on; its root is the first module, and twice as many questions may be put
abbrev pub input_by : ℕ → Generation → Input
input_by count g = record {
  roots = module_url 0 ∷ [];
  imports = [];
  kind = All;
  world = world_by g;
  arrival = [];
  fail_next = [];
  max_loads = 2 * count;
  settings = no_settings;
  registry = jsr_settings;
  npm = None;
}

unfoldable pub generated : ℕ → ℕ → Input
generated start count = input_by count (all_modules start count)
