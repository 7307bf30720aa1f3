use Rattle.std.proofs.Common.{◌≡◌, ◌∙◌, true, Some, codes, is_some, sym, ap, rules}
use Rattle.serde_json.specs.Find.{as_object}
use Rattle.json_documents.specs.Documents.{view}
use Rattle.json_forms.specs.Dictionary.{dictionary}
use Rattle.json_forms.specs.Form.{text}
use Rattle.json_forms.specs.Member.{required}
use Rattle.pkg_versions.specs.RegistryFiles.{manifest_entry, nullable}
use Rattle.registry_files.specs.VersionFiles.{exports_at, infos_at, own_sum}
use Rattle.registry_files.specs.declared.version_file.VersionFile.{VersionFile}
use Rattle.registry_files.proofs.WholeFiles.{file_told, same_file}
use Rattle.registry_files.proofs.version_reading.read_file.Goals as goal

pub returns : goal.returns
returns c = λ whole.
    let d = view c.args.value.now in
    let bytes = c.args.bytes.now in
    let object : is_some (as_object d) ≡ true = search rules in
    let sums : required (dictionary manifest_entry) (codes "manifest") d ≡ Some c.in_ok-manifest.manifest = search rules in
    let sum : nullable text (codes "lockfileChecksum") d ≡ Some c.in_ok-said.said = search rules in
    let exports : c.in_ok-exports.exports ≡ exports_at d = search rules in
    let infos : c.in_ok-infos.infos ≡ infos_at d = search rules in
    let checksum : c.in_ok-checksum.checksum ≡ own_sum bytes c.in_ok-said.said = search rules in
    file_told bytes d c.in_ok-manifest.manifest c.in_ok-said.said whole object sums sum
    ∙ ap Some (same_file _ _ _ _ _ _ c.in_ok-manifest.manifest (sym exports) (sym infos) (sym checksum))
