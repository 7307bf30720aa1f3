use Rattle.std.proofs.Common.{◌≡◌, ◌∙◌, Option, None, Some, Result, Ok, Err, sym, ap}
use Rattle.url.specs.Parts.{Parts}
use Rattle.semver_npm.specs.declared.npm_error.PackageReqReferenceParseError.{PackageReqReferenceParseError}
use Rattle.semver_npm.specs.declared.package.JsrDepPackageReq.{JsrDepPackageReq}
use Rattle.semver_npm.specs.declared.package.PackageKind.TheVariants.{Npm}
use Rattle.semver_npm.specs.declared.reference.NpmPackageReqReference.{NpmPackageReqReference}
use Rattle.semver_npm.specs.declared.reference.PackageReqReference.{PackageReqReference}
use Rattle.graph_turns.specs.Promise.Packages.{npm_dependency, npm_named}
use Rattle.graph_turns.proofs.Entering.Named.{npm_read}
use Rattle.graph_turns.proofs.dependencies.npm_dependency.Goals as goal

npm_none : (s : Parts) (e : PackageReqReferenceParseError) → npm_named s ≡ Err e → None ≡ npm_dependency (npm_named s)
npm_none s e is = sym (ap npm_dependency is)

npm_some : (s : Parts) (r : NpmPackageReqReference) (inner : PackageReqReference) (d : JsrDepPackageReq) → npm_named s ≡ Ok r → inner ≡ r.inner → d ≡ record { kind = Npm; req = inner.req } → Some d ≡ npm_dependency (npm_named s)
npm_some s r inner d is same made =
    ap (λ (x : JsrDepPackageReq). Some x) made
    ∙ ap (λ (i : PackageReqReference). npm_dependency (Ok (record { inner = i }))) same
    ∙ sym (ap npm_dependency is)

pub returns-in-Err-Is : goal.returns-in-Err-Is
returns-in-Err-Is c = npm_none c.args.specifier.now _ (npm_read c.args.specifier.now _ (rw c.in-Err-Is.field-0-is at c.in-Err-Is.ensures.value))

pub returns : goal.returns
returns c = npm_some c.args.specifier.now c.in-Ok.reference c.into_inner.result c.npm.result (npm_read c.args.specifier.now _ c.in-Ok.ensures.value) c.into_inner.ensures c.npm.ensures
