-- The world file: what a JSON text must be to be a world, and the input that it is.
use Rattle.std.specs.Prelude.{◌≡◌, ℕ, Result, Ok, Err, List, [], ◌∷◌, ◌==◌, Bool, false, codes, Option, Some, None, option_and_then, if◌then◌else◌}
use Rattle.std.specs.Str.{is_utf8}
use Rattle.serde_json.specs.Data.{Data}
use Rattle.serde_json.specs.Read.{read}
use Rattle.serde_json.specs.View.{view}
use Rattle.serde_json.specs.declared.value.Value.{Value}
use Rattle.url.specs.Parts.{Parts}
use Rattle.json_forms.specs.Form.{Form, whole, specifier, given, ◌>>=◌}
use Rattle.json_forms.specs.Member.{has_names, required, with_default, or_empty}
use Rattle.json_forms.specs.Whole.{is_whole}
use Rattle.spec_base.specs.Refusal.{Reads}
use Rattle.spec_base.specs.declared.refusal.Refusal.{Refusal}
use Rattle.source_io.specs.declared.types.Answer.{Answer}
use Rattle.source_io.specs.declared.types.Purpose.{Purpose}
use Rattle.source_io.specs.declared.types.World.{World}
use Rattle.world_answers.specs.WorldAnswers.{answers_in}
use Rattle.world_file.specs.WorldCache.{copies_of, paths_of}
use Rattle.world_file.specs.WorldImports.{kind_of, imports_of}
use Rattle.world_file.specs.WorldInfos.{infos_of, analyses_of}
use Rattle.world_file.specs.WorldNpm.{npm_of}
use Rattle.world_file.specs.WorldRegistry.{registry_of}
use Rattle.world_file.specs.WorldResolutions.{resolver_parts}
use Rattle.world_file.specs.WorldSettings.{settings_of}
use Rattle.world_file.specs.WorldSums.{sums_of, known_in}
use Rattle.world_file.specs.WorldTree.{tree_of}
use Rattle.world_file.specs.declared.input.Input.{Input}
use Rattle.world_file.specs.declared.limits.Limits.{Limits}
use Rattle.world_file.specs.declared.world_infos.InfoEntry.{InfoEntry}
use Rattle.world_file.specs.declared.world_resolutions.ResolverParts.{ResolverParts}
use Rattle.world_file.specs.declared.world_sums.WorldSums.{WorldSums}

-- the members that a file of either version may have, but for its version
abbrev pub other_members : List (List ℕ)
other_members =
    codes "roots"
    ∷ codes "infos"
    ∷ codes "max_redirects"
    ∷ codes "max_loads"
    ∷ codes "arrival"
    ∷ codes "fail_next"
    ∷ codes "kind"
    ∷ codes "imports"
    ∷ codes "resolutions"
    ∷ codes "types"
    ∷ codes "jsx"
    ∷ codes "verify"
    ∷ codes "locker"
    ∷ codes "is_dynamic"
    ∷ codes "skip_dynamic_deps"
    ∷ codes "bytes"
    ∷ codes "css"
    ∷ codes "config"
    ∷ codes "prefer_cached_jsr"
    ∷ codes "registry"
    ∷ codes "passthrough_jsr"
    ∷ codes "newest"
    ∷ codes "tree"
    ∷ codes "npm"
    ∷ codes "cache_info"
    ∷ []

-- those that a file of version 1 may have
abbrev pub source_members : List (List ℕ)
source_members = codes "version" ∷ codes "sources" ∷ codes "reload" ∷ codes "cached" ∷ other_members

-- those that a file of version 2 may have
abbrev pub entry_members : List (List ℕ)
entry_members = codes "version" ∷ codes "answers" ∷ other_members

-- each member is one that a file of this version may have; there is no other version than 1 and 2
abbrev pub has_members : ℕ → Data → Bool
has_members version d =
    if version == 1 then has_names source_members d
    else (if version == 2 then has_names entry_members d else false)

-- the roots of a build
abbrev pub roots_of : Form (List Parts)
roots_of d = or_empty specifier (codes "roots") d

-- ---- limits

-- how many redirects a load follows where nothing else is said
abbrev pub default_max_redirects : ℕ
default_max_redirects = 10

-- how many questions may be put where nothing else is said
abbrev pub default_max_loads : ℕ
default_max_loads = 100000

-- the numbers, each by its default where it is absent
abbrev pub limits_of : Form Limits
limits_of d = do
  max_redirects ← with_default default_max_redirects whole (codes "max_redirects") d
  max_loads ← with_default default_max_loads whole (codes "max_loads") d
  arrival ← or_empty whole (codes "arrival") d
  fail_next ← or_empty whole (codes "fail_next") d
  Some (record { max_redirects = max_redirects; max_loads = max_loads; arrival = arrival; fail_next = fail_next })

-- ---- the file

-- the world of these answers, infos, limits, parts, files, sums and paths of cached copies; a `data:` URL that isn't listed is missing
unfoldable pub world_by : List (Parts × Purpose × Answer) → List (Parts × InfoEntry) → Limits → ResolverParts → List (List ℕ) → WorldSums → List (Parts × List ℕ) → World
world_by answers infos limits parts tree sums paths = record {
  answers = answers;
  infos = analyses_of infos;
  resolutions = parts.resolutions;
  types = parts.types;
  jsx = parts.jsx;
  tree = tree;
  remote_sums = (known_in sums).remote;
  package_sums = (known_in sums).packages;
  max_redirects = limits.max_redirects;
  verifies = sums.verifies;
  reads_data = false;
  cache_info = copies_of paths;
}

-- the world that the members of a file of a version tell
abbrev pub world_in : ℕ → Limits → WorldSums → Form World
world_in version limits sums d = do
  tree ← tree_of d
  answers ← answers_in version d
  infos ← infos_of d
  parts ← resolver_parts d
  paths ← paths_of d
  Some (world_by answers infos limits parts tree sums paths)

-- the input that an object of version 1 or 2 is
abbrev pub input : Form Input
input d = do
  version ← required whole (codes "version") d
  known ← given (has_members version d)
  roots ← roots_of d
  imports ← imports_of d
  kind ← kind_of d
  limits ← limits_of d
  sums ← sums_of d
  settings ← settings_of sums d
  registry ← registry_of d
  npm ← npm_of d
  world ← world_in version limits sums d
  Some (record {
    roots = roots;
    imports = imports;
    kind = kind;
    world = world;
    arrival = limits.arrival;
    fail_next = limits.fail_next;
    max_loads = limits.max_loads;
    settings = settings;
    registry = registry;
    npm = npm;
  })

-- numbers are whole, wherever they stand
abbrev pub whole_input : Form Input
whole_input d = do
  numbers ← given (is_whole d)
  input d

-- the input that some bytes are, where they are a world file: a JSON text in UTF-8 that is a world
unfoldable pub world_of : List ℕ → Option Input
world_of bytes = if is_utf8 bytes then option_and_then whole_input (read bytes) else None

-- a JSON value that is read stands for the expected input, and none is read only where none is expected, unless there was no memory
abbrev pub IsValueOf : {E : Type 0} → Result Value (Refusal E) → Option Input → Type 0
IsValueOf (Ok value) expected = expected ≡ whole_input (view value)
IsValueOf (Err e) expected = Reads (Err e) expected

-- what was read is read, and what was refused is refused, whatever is expected
abbrev pub IsReadAs : {A E F : Type 0} → Result A (Refusal E) → Result A (Refusal F) → Type 0
IsReadAs {A = A} found result = (expected : Option A) → Reads found expected → Reads result expected
