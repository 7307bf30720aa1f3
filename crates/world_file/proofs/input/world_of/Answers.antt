use Rattle.std.proofs.Common.{◌≡◌, ◌∙◌, Ok, Err, Some, None, true, ap, sym, subst}
use Rattle.serde_json.specs.Read.{read}
use Rattle.json_documents.specs.Documents.{ReadsWhole, document_view}
use Rattle.json_documents.specs.Whole.{is_whole}
use Rattle.json_documents.specs.declared.document.NoJson.{NoJson}
use Rattle.spec_base.specs.Refusal.{Reads}
use Rattle.world_file.specs.WorldFile.{input, world_of}
use Rattle.world_file.proofs.WorldReading.{world_of-none, world_of-whole}
use Rattle.world_file.proofs.input.world_of.Goals as goal

pub returns-in_default : goal.returns-in_default
returns-in_default c = world_of-none c.args.bytes.now (λ valid. absurd (c.in_default.ensures valid))

pub returns-in-Err-Is : goal.returns-in-Err-Is
returns-in-Err-Is c =
    let none : read c.in-Ok.text.now ≡ None = subst (λ r. ReadsWhole (Err r) c.in-Ok.text.now) c.in-Err-Is.field-0-is c.in-Err-Is.ensures in
    world_of-none c.args.bytes.now (λ valid. ap read (sym c.in-Ok.ensures.0) ∙ none)

pub returns : goal.returns
returns c =
    let d = document_view c.in-Ok-Some.document in
    let found : (read c.in-Ok.text.now ≡ Some d) × (is_whole d ≡ true) = subst (λ r. ReadsWhole {E = NoJson} (Ok r) c.in-Ok.text.now) c.in-Ok-Some.field-0-is c.in-Ok-Some.ensures in
    let same : input d ≡ world_of c.args.bytes.now = sym (world_of-whole c.args.bytes.now d c.in-Ok.ensures.1 (ap read (sym c.in-Ok.ensures.0) ∙ found.0) found.1) in
    c.as_world.ensures (world_of c.args.bytes.now) (subst (Reads c.read_input.result) (ap input c.root.ensures ∙ same) c.read_input.ensures)
