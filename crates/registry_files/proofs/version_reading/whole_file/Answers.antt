use Rattle.std.proofs.Common.{◌≡◌, ◌∙◌, true, Ok, Some, option_map, sym, ap, subst}
use Rattle.serde_json.specs.Data.{Data}
use Rattle.serde_json.specs.Read.{read}
use Rattle.json_documents.specs.Documents.{ReadsWhole, document_view}
use Rattle.json_documents.specs.Whole.{is_whole}
use Rattle.json_documents.specs.declared.document.NoJson.{NoJson}
use Rattle.pkg_versions.specs.RegistryFiles.{version_info}
use Rattle.registry_files.specs.VersionFiles.{version_file_of}
use Rattle.registry_files.proofs.WholeFiles.{file_read}
use Rattle.registry_files.proofs.version_reading.whole_file.Goals as goal

pub returns-in-Ok-read_file : goal.returns-in-Ok-read_file
returns-in-Ok-read_file c =
    let bytes = c.args.bytes.now in
    let d = document_view c.in-Ok-Some.document in
    let found : (read c.in-Ok.text.now ≡ Some d) × (is_whole d ≡ true) = subst (λ r. ReadsWhole {E = NoJson} (Ok r) c.in-Ok.text.now) c.in-Ok-Some.field-0-is c.in-Ok-Some.ensures in
    file_read bytes d c.in-Ok-read_file.file c.in-Ok.ensures.1 (ap read (sym c.in-Ok.ensures.0) ∙ found.0)
    (subst (λ (x : Data). option_map (version_file_of bytes) (version_info x) ≡ Some c.in-Ok-read_file.file) c.root.ensures (c.in-Ok-read_file.ensures (ap is_whole c.root.ensures ∙ found.1)))
