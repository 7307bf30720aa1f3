-- How the turn of an open load goes, by what is known of the files of versions.
use Rattle.std.specs.Prelude.{ℕ, List, bytes_eq, Option, Some, None, Result, Ok, Err, is_some, if◌then◌else◌}
use Rattle.std.specs.FinMap as finite
use Rattle.std.specs.Map.{lookup}
use Rattle.url.specs.Parts.{Parts}
use Rattle.spec_base.specs.Options.{by_option}
use Rattle.spec_base.specs.Specifier.{specifier_text}
use Rattle.module_info.specs.declared.types.ModuleInfo.{ModuleInfo}
use Rattle.semver_npm.specs.declared.package.PackageNv.{PackageNv}
use Rattle.source_sums.specs.Sums.{KnownSums}
use Rattle.registry_urls.specs.Meaning.{RegistryMeaning}
use Rattle.registry_files.specs.Kept.{FilesAt, held_in, path_at}
use Rattle.registry_files.specs.Sums.{manifest_sum}
use Rattle.registry_files.specs.declared.kept_version.KeptVersion.{KeptVersion}
use Rattle.graph_errors.specs.declared.errors.ModuleErrorKind.{ModuleErrorKind}
use Rattle.graph_errors.specs.declared.errors.ModuleErrorKind.TheVariants.{Load as LoadFails}
use Rattle.graph_errors.specs.declared.errors.ModuleLoadError.TheVariants.{Jsr}
use Rattle.graph_errors.specs.declared.jsr_error.JsrLoadError.{JsrLoadError}
use Rattle.graph_errors.specs.declared.jsr_error.JsrLoadError.TheVariants.{UnsupportedManifestChecksum}
use Rattle.module_slots.specs.declared.load.LoadContext.{LoadContext}
use Rattle.graph_turns.specs.declared.question_of.Asked.{Asked}
use Rattle.graph_turns.specs.declared.manner.Manner.{Manner}
use Rattle.graph_turns.specs.declared.manner.Manner.TheVariants.{Asks, Reads, Unread, Unsupported}

-- ---- under what loads are asked about

-- the sum that is known of a specifier, where there is a locker
abbrev pub sum_at : Option KnownSums → Parts → Option (List ℕ)
sum_at None s = None
sum_at (Some sums) s = finite.get sums (specifier_text s)

-- outside of packages: with the sum that is known of the specifier
abbrev pub asked_outside : Option KnownSums → Parts → Asked
asked_outside sums s = record { held = None; checksum = sum_at sums s; info = None }

-- what a version file says of the imports of a module
abbrev pub info_at : KeptVersion → Parts → Option ModuleInfo
info_at v s = lookup (bytes_eq (path_at v.url s)) v.file.infos

-- the sum of a module that a version file has; none where its form isn't known
abbrev pub sum_in_version : KeptVersion → Parts → Option (List ℕ)
sum_in_version v s = manifest_sum v.file (path_at v.url s)

-- a module whose version came along, under its sum: its info counts
abbrev pub asked_along : KeptVersion → Parts → List ℕ → Asked
asked_along v s sum = record { held = Some v.nv; checksum = Some sum; info = info_at v s }

-- a module that a URL alone brings into a version, under its sum
abbrev pub asked_by_url : KeptVersion → List ℕ → Asked
asked_by_url v sum = record { held = Some v.nv; checksum = Some sum; info = None }

-- ---- manners

-- a load whose version came along
abbrev pub along_manner : Parts → KeptVersion → Manner
along_manner s v = by_option (sum_in_version v s) Unsupported (λ sum. Asks (asked_along v s sum))

-- a load that a URL alone brings into a version whose file was read
abbrev pub by_url_manner : Parts → KeptVersion → Manner
by_url_manner s v = by_option (sum_in_version v s) Unsupported (λ sum. Asks (asked_by_url v sum))

-- a load whose URL names a version, by what is known of the version's file
abbrev pub known_manner : RegistryMeaning → Parts → PackageNv → Option (Result KeptVersion JsrLoadError) → Manner
known_manner registry s nv None = Reads nv
known_manner registry s nv (Some (Ok v)) = by_url_manner s v
known_manner registry s nv (Some (Err e)) = Unread (registry.package_url nv) e

-- a load whose version didn't come along
abbrev pub own_manner : Option KnownSums → RegistryMeaning → FilesAt → Parts → Manner
own_manner sums registry files s = by_option (registry.nv_of s) (Asks (asked_outside sums s)) (λ nv. known_manner registry s nv (files nv))

-- a load
abbrev pub manner_of : Option KnownSums → RegistryMeaning → FilesAt → Parts → LoadContext → Manner
manner_of sums registry files s c = by_option (held_in files s c.«package») (own_manner sums registry files s) (along_manner s)

-- ---- as a load enters

-- the error of a load whose version came along, where that has the sum of its module in no form that is known
abbrev pub unsupported_in : Parts → LoadContext → Option KeptVersion → Option ModuleErrorKind
unsupported_in s c None = None
unsupported_in s c (Some v) = if is_some (sum_in_version v s) then None else Some (LoadFails s c.range (Jsr UnsupportedManifestChecksum))

abbrev pub unsupported : FilesAt → Parts → LoadContext → Option ModuleErrorKind
unsupported files s c = unsupported_in s c (held_in files s c.«package»)
