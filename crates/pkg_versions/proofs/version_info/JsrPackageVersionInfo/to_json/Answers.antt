use Rattle.std.proofs.Common.{◌∙◌, ap}
use Rattle.std.proofs.lemmas.Result.{IfOk-weaker}
use Rattle.pkg_versions.specs.FileViews.{file_of}
use Rattle.pkg_versions.specs.RegistryFiles.{version_info}
use Rattle.pkg_versions.proofs.FileReading.{version_file_back}
use Rattle.pkg_versions.proofs.version_info.JsrPackageVersionInfo.to_json.Goals as goal

pub returns-clause-reads_back : goal.returns-clause-reads_back
returns-clause-reads_back c = λ plain.
    IfOk-weaker c.version_json.result _ _ (λ v e. ap version_info e ∙ version_file_back (file_of c.args.self.now) plain) c.version_json.ensures
