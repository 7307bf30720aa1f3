use Rattle.std.proofs.Common.{ap, ◌∙◌}
use Rattle.std.proofs.lemmas.Result.{IfOk-weaker}
use Rattle.serde_json.specs.Written.{has_float}
use Rattle.json_forms.proofs.NoFloats.{object_no_float}
use Rattle.json_forms.proofs.rows.object.Goals as goal

pub returns-clause-no_float : goal.returns-clause-no_float
returns-clause-no_float c = IfOk-weaker c.put_rows.result _ _ (λ v seen free. ap has_float seen ∙ object_no_float _ free) c.put_rows.ensures
