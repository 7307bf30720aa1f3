use Rattle.std.proofs.Common.{Err, Ok, rules}
use Rattle.url.specs.Parts.{serialize}
use Rattle.spec_base.specs.declared.refusal.Refusal.TheVariants.{Is}
use Rattle.semver_npm.specs.declared.npm_error.PackageReqReferenceParseError.TheVariants.{NotPrefixed}
use Rattle.semver_npm.proofs.ReferencesRead.{jsr_read}
use Rattle.semver_npm.proofs.reference.JsrPackageReqReference.from_specifier.Goals as goal

pub returns-clause-grammar : goal.returns-clause-grammar
returns-clause-grammar c = jsr_read (Ok (record { inner = c.in_ok-inner.inner })) (serialize c.args.specifier.now) (search rules)

pub returns-then-not-starts_with-clause-grammar : goal.returns-then-not-starts_with-clause-grammar
returns-then-not-starts_with-clause-grammar c =
    jsr_read (Err (Is (NotPrefixed c.in_ok-text.text))) (serialize c.args.specifier.now) (search rules)

pub returns-in_err-inner-clause-grammar : goal.returns-in_err-inner-clause-grammar
returns-in_err-inner-clause-grammar c = jsr_read c.from_residual-in_err-inner.result (serialize c.args.specifier.now) (search rules)
