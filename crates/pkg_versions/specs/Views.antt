-- What calls take and return, with each borrowed version as its parts.
use Rattle.std.specs.Prelude.{Bool, Option, Result, Ok, Err, option_copied, ⊤}
use Rattle.std.specs.Borrow.{Bor}
use Rattle.spec_base.specs.declared.refusal.Refusal.{Refusal}
use Rattle.spec_base.specs.declared.refusal.Refusal.TheVariants.{Memory, Is}
use Rattle.semver_npm.specs.Versions.{Ver}
use Rattle.pkg_versions.specs.Choice.{Chosen}
use Rattle.pkg_versions.specs.declared.choice.ResolveVersionResult.{ResolveVersionResult}
use Rattle.pkg_versions.specs.declared.choice.ResolveVersionResult.TheVariants as resolved
use Rattle.version_dates.specs.declared.not_found.JsrPackageReqNotFoundError.{JsrPackageReqNotFoundError}
use Rattle.pkg_versions.specs.declared.resolver.JsrVersionResolverResolvedVersion.{JsrVersionResolverResolvedVersion}
use Rattle.pkg_versions.specs.declared.package_info.JsrPackageInfoVersion.{JsrPackageInfoVersion}

-- a version beside what is known of it
abbrev pub offered_view : Bor Ver × Option (Bor JsrPackageInfoVersion) → Ver × Option JsrPackageInfoVersion
offered_view p = (p.0.now, option_copied p.1)

abbrev pub resolved_view : ResolveVersionResult → Result Ver Bool
resolved_view (resolved.Some v) = Ok v.now
resolved_view (resolved.None had_match) = Err had_match

abbrev pub chosen : JsrVersionResolverResolvedVersion → Chosen
chosen c = (c.is_yanked, c.version.now)

abbrev pub chosen_view : Result JsrVersionResolverResolvedVersion (Refusal JsrPackageReqNotFoundError) → Result Chosen (Refusal JsrPackageReqNotFoundError)
chosen_view (Ok c) = Ok (chosen c)
chosen_view (Err e) = Err e

-- a refusal that isn't want of memory
abbrev pub IfIs : {E : Type 0} → Refusal E → (E → Type 0) → Type 0
IfIs Memory P = ⊤
IfIs (Is e) P = P e
