use Rattle.pkg_versions.proofs.FileForms.{version_answered}
use Rattle.pkg_versions.proofs.version_info.JsrPackageVersionInfo.from_json.Goals as goal

pub returns-clause-plain : goal.returns-clause-plain
returns-clause-plain c = version_answered c.read_file.result c.args.bytes.now c.read_file.ensures
