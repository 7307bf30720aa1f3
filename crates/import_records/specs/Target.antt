-- Where the text of an import leads.
use Rattle.std.specs.Prelude.{◌≡◌, ℕ, List, Bool, true, false, not, Option, None, Some, Result, Ok, Err, option_and_then, if◌then◌else◌}
use denote.Bor.{Bor}
use Rattle.url.specs.Parts.{Parts}
use Rattle.spec_base.specs.Options.{by_option}
use Rattle.spec_base.specs.declared.position.Range.{Range}
use Rattle.spec_base.specs.declared.position.ResolutionKind.{ResolutionKind}
use Rattle.spec_base.specs.declared.position.ResolutionKind.TheVariants.{Execution, Types}
use Rattle.spec_base.specs.declared.resolve_error.ResolveError.{ResolveError}
use Rattle.semver_npm.specs.declared.package.PackageNv.{PackageNv}
use Rattle.pkg_records.specs.Kept.{same_nv}
use Rattle.registry_urls.specs.Meaning.{RegistryMeaning}
use Rattle.source_io.specs.Resolvers.{ResolverMeaning, plain_meaning}
use Rattle.graph_errors.specs.declared.resolution.Resolution.{Resolution}
use Rattle.graph_errors.specs.declared.resolution.Resolution.TheVariants.{Ok as Leads, Err as Fails}
use Rattle.graph_errors.specs.declared.resolution.ResolutionError.TheVariants.{InvalidJsrHttpsTypesImport}
use Rattle.graph_errors.specs.Resolutions.{answered, refused, specifier_in}
use Rattle.import_records.specs.declared.target.Targets.{Targets}

-- ---- the resolver

-- what is answered by this resolver, and without one by the plain rule
abbrev pub meant : {R : Type 0} → (R → ResolverMeaning) → Option (Bor R) → ResolverMeaning
meant meaning None = plain_meaning
meant meaning (Some l) = meaning l.now

-- whether it is told what this resolver answers; the plain rule is
abbrev pub is_told_resolver : {R : Type 0} → (R → Bool) → Option (Bor R) → Bool
is_told_resolver is_told None = true
is_told_resolver is_told (Some l) = is_told l.now

-- ---- packages

-- the version of a package that each URL names, if any
abbrev pub NvOf : Type 0
NvOf = Parts → Option PackageNv

-- whether a URL names this version of a package
abbrev pub names : NvOf → Parts → PackageNv → Bool
names nv_of s nv = by_option (nv_of s) false (same_nv nv)

-- whether a target names a version of a package that the referrer's URL doesn't name
abbrev pub is_foreign : NvOf → Parts → Parts → Bool
is_foreign nv_of referrer target = by_option (nv_of target) false (λ nv. not (names nv_of referrer nv))

-- for its types, no text leads by a URL into another version of a package than the referrer's own
abbrev pub is_refused : NvOf → ResolutionKind → Parts → Parts → Bool
is_refused nv_of Types referrer target = is_foreign nv_of referrer target
is_refused nv_of Execution referrer target = false

-- ---- both

-- what texts are resolved by: what a resolver answers, and which URLs name versions of packages
pub record Resolving : Type 0 where
  pub resolver : ResolverMeaning
  pub nv_of : NvOf

-- what is answered by these targets
abbrev pub resolving : {U R : Type 0} → (U → RegistryMeaning) → (R → ResolverMeaning) → Targets U R → Resolving
resolving registry meaning targets = record { resolver = meant meaning targets.resolver; nv_of = (registry targets.urls.now).nv_of }

-- what texts are resolved by, where the resolver tells what it answers; without one the plain rule does
abbrev pub told_resolving : {R : Type 0} → NvOf → (R → Bool) → (R → ResolverMeaning) → Option (Bor R) → Option Resolving
told_resolving nv_of is_told meaning None = Some (record { resolver = plain_meaning; nv_of = nv_of })
told_resolving nv_of is_told meaning (Some l) = if is_told l.now then Some (record { resolver = meaning l.now; nv_of = nv_of }) else None

-- ---- resolutions

-- a target of a text, where it is permitted
abbrev pub permitted_target : NvOf → Range → ResolutionKind → Parts → Resolution
permitted_target nv_of range kind s =
    if is_refused nv_of kind range.specifier s then Fails (InvalidJsrHttpsTypesImport s range)
    else Leads (record { specifier = s; range = range })

-- where a text leads by the answer to it
abbrev pub permitted : NvOf → List ℕ → Range → ResolutionKind → Result Parts ResolveError → Resolution
permitted nv_of text range kind (Ok s) = permitted_target nv_of range kind s
permitted nv_of text range kind (Err e) = Fails (refused text range e)

-- by the attribute where that makes a difference, whatever it leads to; else without it
abbrev pub target_by : Resolving → List ℕ → Range → ResolutionKind → Option (Result Parts ResolveError) → Resolution
target_by m text range kind None = permitted m.nv_of text range kind (m.resolver.resolve text range kind)
target_by m text range kind (Some answer) = answered text range answer

-- where a text leads from a range, for its code or its types, imported with an attribute `type` or with none
abbrev pub target_of : Resolving → List ℕ → Range → ResolutionKind → Option (List ℕ) → Resolution
target_of m text range kind attribute =
    target_by m text range kind (option_and_then (m.resolver.by_attribute text range kind) attribute)

-- a text whose code leads here from a module, leads for its types to the same place
abbrev pub LeadsTypesAlike : Resolving → Parts → Resolution → Type 0
LeadsTypesAlike m referrer code =
    (text : List ℕ) (range : Range) (attribute : Option (List ℕ)) → range.specifier ≡ referrer
    → code ≡ target_of m text range Execution attribute
    → specifier_in (target_of m text range Types attribute) ≡ specifier_in code
