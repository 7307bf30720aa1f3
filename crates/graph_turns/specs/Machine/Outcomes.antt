-- What the answer to a load gives it.
use Rattle.std.specs.Prelude.{◌≡◌, false, [], Option, Some, None}
use Rattle.url.specs.Parts.{Parts}
use Rattle.spec_base.specs.Options.{by_option}
use Rattle.spec_base.specs.declared.load_error.LoadError.{LoadError}
use Rattle.module_info.specs.declared.types.ModuleInfo.{ModuleInfo}
use Rattle.semver_npm.specs.declared.package.PackageNv.{PackageNv}
use Rattle.graph_errors.specs.Errors.{error_of, missing_error}
use Rattle.graph_errors.specs.declared.errors.ModuleErrorKind.TheVariants.{Load as LoadFails}
use Rattle.graph_errors.specs.declared.errors.ModuleLoadError.{ModuleLoadError}
use Rattle.graph_errors.specs.declared.errors.ModuleLoadError.TheVariants.{Jsr}
use Rattle.graph_errors.specs.declared.jsr_error.JsrLoadError.{JsrLoadError}
use Rattle.graph_errors.specs.declared.jsr_error.JsrLoadError.TheVariants.{RedirectInPackage}
use Rattle.module_slots.specs.declared.load.Load.{Load}
use Rattle.module_slots.specs.declared.load.LoadContext.{LoadContext}
use Rattle.module_slots.specs.declared.slot.ModuleSlot.{ModuleSlot}
use Rattle.module_slots.specs.declared.slot.ModuleSlot.TheVariants.{Err as Failed}
use Rattle.slot_making.specs.declared.source.Source.{Source}
use Rattle.slot_making.specs.Made.{Making, made_slot}
use Rattle.graph_turns.specs.declared.question_of.Asked.{Asked}
use Rattle.graph_turns.specs.declared.outcome.Outcome.{Outcome}
use Rattle.graph_turns.specs.declared.outcome.Outcome.TheVariants.{At, To}
use Rattle.graph_turns.specs.Promise.Contents.{content_of}
use Rattle.graph_turns.specs.Promise.Refusals.{refusal_of}
use Rattle.graph_turns.specs.Promise.Slots.{external_slot, jsr_slot}
use Rattle.graph_turns.specs.Promise.Taken.{Taken, Found, Outside, AtHand, Onward, Absent, Refused}

-- an error of a load
abbrev pub failed_outcome : Parts → LoadContext → Option PackageNv → ModuleLoadError → Outcome
failed_outcome s c held err = At s (Failed (error_of (LoadFails s c.range err))) held None

-- nothing is there
abbrev pub missing_outcome : Parts → LoadContext → Option PackageNv → Outcome
missing_outcome s c held = At s (Failed (missing_error s c.range)) held None

-- the loader's failure, or a source that isn't the one whose sum is known
abbrev pub refused_outcome : Parts → LoadContext → Asked → LoadError → Outcome
refused_outcome s c asked e = failed_outcome s c asked.held (refusal_of c asked e)

-- where a redirect leads; in a package none is followed
abbrev pub redirect_outcome : Parts → LoadContext → Asked → Parts → Outcome
redirect_outcome s c asked n = by_option asked.held (To n) (λ nv. failed_outcome s c (Some nv) (Jsr (RedirectInPackage n)))

-- what a source gives
abbrev pub found_outcome : Making → Parts → LoadContext → Asked → Source → Outcome
found_outcome making s c asked source = At source.name (made_slot making source c) asked.held (content_of s c asked source.info)

-- what a module that no cache has is by its info
abbrev pub info_outcome : Making → Parts → LoadContext → Asked → ModuleInfo → Outcome
info_outcome making s c asked info =
    found_outcome making s c asked (record { name = s; content = []; headers = None; mtime = None; info = Some info })

-- what an answer gives a pair that is asked about so
abbrev pub outcome_of : Making → Parts → LoadContext → Asked → Taken → Outcome
outcome_of making s c asked (Found source) = found_outcome making s c asked source
outcome_of making s c asked (Outside name) = At name (external_slot name false) asked.held None
outcome_of making s c asked AtHand = At s (external_slot s c.asset) asked.held None
outcome_of making s c asked (Onward name) = redirect_outcome s c asked name
outcome_of making s c asked Absent = missing_outcome s c asked.held
outcome_of making s c asked (Refused e) = refused_outcome s c asked e

-- what a load that is asked about so may be given, whoever answers: a slot that counts where it was asked for, with no content to come
-- but that of its own module, or outside of packages another specifier to go on at
pub data Suits (load : Load) (asked : Asked) : Outcome → Type 0 where
  settles : {name : Parts} {slot : ModuleSlot} → Suits load asked (At name slot asked.held None)
  comes : {slot : ModuleSlot} → load.context.asset ≡ false → Suits load asked (At load.specifier slot asked.held (Some (record { specifier = load.specifier; context = load.context; checksum = asked.checksum })))
  goes_on : {n : Parts} → asked.held ≡ None → Suits load asked (To n)

-- the error of a load that fails at a name without a question
abbrev pub failure_outcome : LoadContext → Parts → JsrLoadError → Outcome
failure_outcome c name e = At name (jsr_slot name c e) c.«package» None
