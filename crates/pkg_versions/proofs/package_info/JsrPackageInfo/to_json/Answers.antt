use Rattle.pkg_versions.proofs.FileReading.{package_written}
use Rattle.pkg_versions.proofs.package_info.JsrPackageInfo.to_json.Goals as goal

pub returns-clause-reads_back : goal.returns-clause-reads_back
returns-clause-reads_back c = λ has. package_written c.package_json.result c.args.self.now has c.package_json.ensures.value c.package_json.ensures.read_back
