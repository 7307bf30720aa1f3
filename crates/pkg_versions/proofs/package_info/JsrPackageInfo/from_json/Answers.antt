use Rattle.pkg_versions.proofs.FileForms.{package_answered}
use Rattle.pkg_versions.proofs.package_info.JsrPackageInfo.from_json.Goals as goal

pub returns-clause-versions : goal.returns-clause-versions
returns-clause-versions c = package_answered c.read_file.result c.args.bytes.now c.read_file.ensures
