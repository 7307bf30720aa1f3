use Rattle.std.proofs.Common.{◌≡◌, ◌∙◌, Ok, Err, Some, None, option_and_then, ap, sym, subst}
use Rattle.serde_json.specs.Read.{read}
use Rattle.json_documents.specs.Documents.{ReadsDocument, document_view}
use Rattle.json_documents.specs.declared.document.NoJson.{NoJson}
use Rattle.spec_base.specs.Refusal.{Reads}
use Rattle.pkg_versions.specs.RegistryFiles.{json_of, package_info}
use Rattle.pkg_versions.proofs.RegistryLemmas.{json_none, json_read}
use Rattle.pkg_versions.proofs.package_file.read_info.Goals as goal

pub returns-in_default : goal.returns-in_default
returns-in_default c = ap (option_and_then package_info) (json_none c.args.bytes.now (λ valid. absurd (c.in_default.ensures valid)))

pub returns-in-Err-Is : goal.returns-in-Err-Is
returns-in-Err-Is c =
    let none : read c.in-Ok.text.now ≡ None = subst (λ r. ReadsDocument (Err r) (read c.in-Ok.text.now)) c.in-Err-Is.field-0-is c.in-Err-Is.ensures in
    ap (option_and_then package_info) (json_none c.args.bytes.now (λ valid. ap read (sym c.in-Ok.ensures.0) ∙ none))

pub returns : goal.returns
returns c =
    let d = document_view c.in-Ok-read.document in
    let found : json_of c.args.bytes.now ≡ Some d = json_read c.args.bytes.now d c.in-Ok.ensures.1 (ap read (sym c.in-Ok.ensures.0) ∙ c.in-Ok-read.ensures) in
    subst (Reads c.read-2.result) (ap package_info c.root.ensures ∙ sym (ap (option_and_then package_info) found)) c.read-2.ensures
