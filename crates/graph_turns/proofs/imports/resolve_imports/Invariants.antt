-- Those so far are resolved.
use Rattle.std.proofs.Common.{◌≡◌, map, take, Some}
use Rattle.import_records.specs.Target.{Resolving, told_resolving}
use Rattle.graph_turns.specs.Promise.Input.{resolved_import}
use Rattle.graph_turns.proofs.imports.resolve_imports.Given as goal

abbrev pub invariant-loop-given : goal.invariant-loop-given
invariant-loop-given g l = record {
  referrers : map (λ i. i.0) l.resolved ≡ map (λ i. i.referrer) (take l.given-index l.imports);
  told : (m : Resolving) → told_resolving (g.U.JsrUrlProvider.meaning l.jsr_url_provider).nv_of g.R.Resolver.is_told g.R.Resolver.meaning l.maybe_resolver ≡ Some m → l.resolved ≡ map (resolved_import m) (take l.given-index l.imports);
}
