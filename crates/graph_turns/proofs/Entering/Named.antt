-- What `jsr:` specifiers name, as their references are read.
use Rattle.std.proofs.Common.{◌≡◌, ◌∙◌, ℕ, List, Option, None, Some, Result, Ok, Err, refl, sym, ap}
use Rattle.url.specs.Parts.{Parts, serialize}
use Rattle.spec_base.specs.Specifier.{specifier_text}
use Rattle.semver_npm.specs.Reader.{tag_of}
use Rattle.semver_npm.specs.References.{jsr_reference, npm_reference}
use Rattle.semver_npm.specs.declared.npm_error.PackageReqReferenceParseError.{PackageReqReferenceParseError}
use Rattle.semver_npm.specs.declared.package.PackageReq.{PackageReq}
use Rattle.semver_npm.specs.declared.reference.JsrPackageReqReference.{JsrPackageReqReference}
use Rattle.semver_npm.specs.declared.reference.NpmPackageReqReference.{NpmPackageReqReference}
use Rattle.semver_npm.specs.declared.reference.PackageReqReference.{PackageReqReference}
use Rattle.graph_errors.specs.declared.jsr_error.JsrPackageFormatError.{JsrPackageFormatError}
use Rattle.graph_errors.specs.declared.jsr_error.JsrPackageFormatError.TheVariants.{JsrPackageParseError, VersionTagNotSupported}
use Rattle.graph_turns.specs.Promise.Packages.{jsr_named, looked_for, untagged}

abbrev JsrNamed : Type 0
JsrNamed = Result PackageReqReference JsrPackageFormatError

-- the text of a specifier is what it is written as
pub jsr_read : (s : Parts) (x : Result JsrPackageReqReference PackageReqReferenceParseError) → jsr_reference (serialize s) ≡ x → jsr_reference (specifier_text s) ≡ x
unfolding specifier_text
jsr_read s x is = is

pub npm_read : (s : Parts) (x : Result NpmPackageReqReference PackageReqReferenceParseError) → npm_reference (serialize s) ≡ x → npm_reference (specifier_text s) ≡ x
unfolding specifier_text
npm_read s x is = is

pub jsr_unread : (s : Parts) (e : PackageReqReferenceParseError) → jsr_reference (specifier_text s) ≡ Err e → ◌≡◌ {A = JsrNamed} (Err (JsrPackageParseError e)) (jsr_named s)
jsr_unread s e is = sym (ap looked_for is)

module _ (s : Parts) (r : JsrPackageReqReference) (req : PackageReq) (o : Option (List ℕ)) (is : jsr_reference (specifier_text s) ≡ Ok r) (same : req ≡ r.inner.req) (tag_is : o ≡ tag_of req.version_req) where
  named_by : jsr_named s ≡ untagged r.inner o
  named_by = ap looked_for is ∙ ap (λ (x : PackageReq). untagged r.inner (tag_of x.version_req)) (sym same) ∙ ap (untagged r.inner) (sym tag_is)

  pub jsr_tagged : (tag : List ℕ) → o ≡ Some tag → ◌≡◌ {A = JsrNamed} (Err (VersionTagNotSupported tag)) (jsr_named s)
  jsr_tagged tag found = sym (named_by ∙ ap (untagged r.inner) found)

  pub jsr_untagged : (inner : PackageReqReference) → o ≡ None → inner ≡ r.inner → ◌≡◌ {A = JsrNamed} (Ok inner) (jsr_named s)
  jsr_untagged inner none inner_is = sym (named_by ∙ ap (untagged r.inner) none ∙ ap (λ (i : PackageReqReference). let x : JsrNamed = Ok i in x) (sym inner_is))
