use Rattle.std.proofs.Common.{ap, ◌∙◌}
use Rattle.std.proofs.lemmas.Result.{IfOk-weaker}
use Rattle.json_forms.specs.Infos.Info.{info_of}
use Rattle.json_forms.proofs.InfoRoundTrip.{info_back}
use Rattle.json_forms.proofs.infos.info.info_to_json.Goals as goal

pub returns-clause-reads_back : goal.returns-clause-reads_back
returns-clause-reads_back c = IfOk-weaker c.to_json.result _ _ (λ v e. ap info_of e ∙ info_back c.args.info.now) c.to_json.ensures.value
