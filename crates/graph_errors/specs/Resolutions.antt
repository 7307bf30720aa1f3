-- What a resolution holds, and what an answer resolves to.
use Rattle.std.specs.Prelude.{ℕ, List, Bool, true, false, Option, Some, None, Result, Ok, Err}
use Rattle.url.specs.Parts.{Parts}
use Rattle.spec_base.specs.declared.position.Range.{Range}
use Rattle.spec_base.specs.declared.resolve_error.ResolveError.{ResolveError}
use Rattle.spec_base.specs.declared.resolve_error.ResolveError.TheVariants.{Specifier}
use Rattle.graph_errors.specs.declared.resolution.Resolution.{Resolution}
use Rattle.graph_errors.specs.declared.resolution.Resolution.TheVariants.{None as Nowhere, Ok as Leads, Err as Fails}
use Rattle.graph_errors.specs.declared.resolution.ResolutionError.{ResolutionError}
use Rattle.graph_errors.specs.declared.resolution.ResolutionError.TheVariants.{InvalidDowngrade, InvalidJsrHttpsTypesImport, InvalidLocalImport, InvalidSpecifier, ResolverError}
use Rattle.graph_errors.specs.declared.resolution.ResolutionResolved.{ResolutionResolved}

-- ---- parts

-- whether nothing was resolved
abbrev pub is_nowhere : Resolution → Bool
is_nowhere Nowhere = true
is_nowhere (Leads r) = false
is_nowhere (Fails e) = false

-- the target with its range
abbrev pub resolved_in : Resolution → Option ResolutionResolved
resolved_in Nowhere = None
resolved_in (Leads r) = Some r
resolved_in (Fails e) = None

-- why there is no target
abbrev pub failure_in : Resolution → Option ResolutionError
failure_in Nowhere = None
failure_in (Leads r) = None
failure_in (Fails e) = Some e

-- the range of a text that leads nowhere
abbrev pub failed_range : ResolutionError → Range
failed_range (InvalidDowngrade s range) = range
failed_range (InvalidJsrHttpsTypesImport s range) = range
failed_range (InvalidLocalImport s range) = range
failed_range (InvalidSpecifier e range) = range
failed_range (ResolverError e text range) = range

-- the target
abbrev pub specifier_in : Resolution → Option Parts
specifier_in Nowhere = None
specifier_in (Leads r) = Some r.specifier
specifier_in (Fails e) = None

-- the range of the text
abbrev pub range_in : Resolution → Option Range
range_in Nowhere = None
range_in (Leads r) = Some r.range
range_in (Fails e) = Some (failed_range e)

-- ---- by an answer

-- why a text leads nowhere from a range: by the rules of specifiers, or by the resolver's own fault
abbrev pub refused : List ℕ → Range → ResolveError → ResolutionError
refused text range (Specifier e) = InvalidSpecifier e range
refused text range e = ResolverError e text range

-- where a text leads from a range, by an answer
abbrev pub answered : List ℕ → Range → Result Parts ResolveError → Resolution
answered text range (Ok s) = Leads (record { specifier = s; range = range })
answered text range (Err e) = Fails (refused text range e)
