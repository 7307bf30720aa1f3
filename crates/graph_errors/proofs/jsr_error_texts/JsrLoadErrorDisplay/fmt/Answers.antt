use Rattle.std.proofs.Common.{◌≡◌, sym, ap, ◌∙◌}
use Rattle.std.proofs.Output.{has_written_of_eq}
use Rattle.graph_errors.specs.JsrErrors.{jsr_error_text, version_sum_text}
use Rattle.graph_errors.proofs.jsr_error_texts.JsrLoadErrorDisplay.fmt.Goals as goal

pub returns-in-PackageVersionManifestChecksumIntegrity-clause-writes : goal.returns-in-PackageVersionManifestChecksumIntegrity-clause-writes
returns-in-PackageVersionManifestChecksumIntegrity-clause-writes g c = λ plain ok.
    let arm = c.in-PackageVersionManifestChecksumIntegrity in
    let same : jsr_error_text c.args.self.now ≡ version_sum_text arm.nv arm.error = rw arm.is in
    let lent = ap (λ nv. version_sum_text nv arm.error) c.get-in-PackageVersionManifestChecksumIntegrity.ensures in
    has_written_of_eq _ _ _ _ _ (lent ∙ sym same) (c.write_version_sum.ensures plain ok)
