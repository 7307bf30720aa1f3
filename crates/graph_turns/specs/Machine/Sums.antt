-- The sums of sources that a build adds to what a locker knows.
use Rattle.std.specs.Prelude.{◌≡◌, ℕ, Bool, true, not, List, ◌&&◌, ◌||◌, Option, Some, None, is_some, option_map, Result, Ok, Err, bytes_eq, codes, if◌then◌else◌}
use Rattle.std.specs.Option.{option_or}
use Rattle.std.specs.FinMap as finite
use Rattle.url.specs.Parts.{Parts}
use Rattle.media_types.specs.Media.{is_declaration}
use Rattle.spec_base.specs.Places.{with_first}
use Rattle.spec_base.specs.Specifier.{specifier_text}
use Rattle.media_types.specs.declared.media.MediaType.{MediaType}
use Rattle.media_types.specs.declared.media.MediaType.TheVariants.{Wasm as WasmMedia}
use Rattle.semver_npm.specs.declared.package.PackageNv.{PackageNv}
use Rattle.source_sums.specs.Manifests.{KnownManifests}
use Rattle.source_sums.specs.Sums.{KnownSums, sum_of}
use Rattle.registry_files.specs.Kept.{FilesAt}
use Rattle.registry_files.specs.declared.kept_version.KeptVersion.{KeptVersion}
use Rattle.graph_errors.specs.declared.jsr_error.JsrLoadError.{JsrLoadError}
use Rattle.module_slots.specs.declared.slot.Module.TheVariants.{Js, Json, Wasm, Npm, Node, External}
use Rattle.module_slots.specs.declared.slot.ModuleSlot.{ModuleSlot}
use Rattle.module_slots.specs.declared.slot.ModuleSlot.TheVariants.{Module as Stands, Err as Failed, Pending}

-- the sum of a source is told where it comes from the network and holds no declarations
abbrev pub is_summed : Parts → MediaType → Bool
is_summed s media = (bytes_eq s.scheme (codes "http") || bytes_eq s.scheme (codes "https")) && not (is_declaration media)

abbrev pub source_sum : Parts → MediaType → List ℕ → Option (List ℕ)
source_sum s media text = if is_summed s media then Some (sum_of text) else None

-- the sum of the source of a slot's module, where it is told
abbrev pub slot_sum : ModuleSlot → Option (List ℕ)
slot_sum (Stands (Js m)) = source_sum m.specifier m.media_type m.source.text
slot_sum (Stands (Json m)) = source_sum m.specifier m.media_type m.source.text
slot_sum (Stands (Wasm m)) = source_sum m.specifier WasmMedia m.source
slot_sum (Stands (Npm m)) = None
slot_sum (Stands (Node m)) = None
slot_sum (Stands (External m)) = None
slot_sum (Failed e) = None
slot_sum (Pending asset) = None

-- ---- while a build goes on

-- what a locker knows, where there is one
abbrev pub known_by : {L K : Type 0} → (L → K) → Option L → Option K
known_by sums locker = option_map sums locker

abbrev pub with_sum : KnownSums → Parts → Option (List ℕ) → KnownSums
with_sum sums name None = sums
with_sum sums name (Some sum) = with_first sums (specifier_text name) sum

-- with the sum of a slot at its name, where none stands there
abbrev pub sums_with : Option KnownSums → Parts → ModuleSlot → Option KnownSums
sums_with None name slot = None
sums_with (Some sums) name slot = Some (with_sum sums name (slot_sum slot))

-- ---- when it ends

-- the sum at a text, where there is a locker
abbrev pub sum_in : Option KnownSums → List ℕ → Option (List ℕ)
sum_in None k = None
sum_in (Some sums) k = finite.get sums k

-- what a locker knows once it was told sums: at each text what it knew, else what it was told; where there is none, nothing
abbrev pub IsTaught : Option KnownSums → Option KnownSums → Option KnownSums → Type 0
IsTaught old told new = (is_some new ≡ is_some old) × ((k : List ℕ) → is_some old ≡ true → sum_in new k ≡ option_or (sum_in old k) (sum_in told k))

-- whatever a locker learns is among what it was told
abbrev pub LearnsAtMost : Option KnownSums → Option KnownSums → Option KnownSums → Type 0
LearnsAtMost old told new = (k sum : List ℕ) → sum_in old k ≡ None → sum_in new k ≡ Some sum → sum_in told k ≡ Some sum

-- the sum of a version file that was read
abbrev pub file_sum : Option (Result KeptVersion JsrLoadError) → Option (List ℕ)
file_sum None = None
file_sum (Some (Ok v)) = Some v.file.checksum
file_sum (Some (Err e)) = None

-- what a locker knows of manifests once it was told those that were read: of each version what it knew, else what was read
abbrev pub IsTaughtManifests : KnownManifests → FilesAt → KnownManifests → Type 0
IsTaughtManifests old files new = (nv : PackageNv) → finite.get new nv ≡ option_or (finite.get old nv) (file_sum (files nv))

-- all that a locker knew of manifests it still knows
abbrev pub KeepsManifests : KnownManifests → KnownManifests → Type 0
KeepsManifests old new = (nv : PackageNv) (sum : List ℕ) → finite.get old nv ≡ Some sum → finite.get new nv ≡ Some sum

-- all that a locker knew it still knows
abbrev pub KeepsSums : Option KnownSums → Option KnownSums → Type 0
KeepsSums old new = (is_some new ≡ is_some old) × ((k sum : List ℕ) → sum_in old k ≡ Some sum → sum_in new k ≡ Some sum)
