use Rattle.std.proofs.Common.{◌≡◌, map, option_map, ap, ◌∙◌}
use Rattle.std.proofs.lemmas.Result.{IfOk-weaker}
use Rattle.serde_json.specs.View.{view}
use Rattle.json_forms.specs.Rows.{object_of}
use Rattle.json_forms.specs.Infos.Info.{info_rows}
use Rattle.json_forms.proofs.infos.info.ModuleInfoShown.to_json.Goals as goal

pub returns-clause-value : goal.returns-clause-value
returns-clause-value c =
    let rows : map (λ r. (r.0.now, option_map view r.1)) c.in_ok-rows.rows.items ≡ info_rows c.args.self.now =
    rw (
      c.in_ok-rows.ensures.items,
      c.in_ok-if_any.ensures.value,
      c.in_ok-if_any-2.ensures.value,
      c.in_ok-optional_json.ensures.value,
      c.in_ok-optional_json-2.ensures.value,
      c.if_true.ensures.value,
      c.in_ok-optional_json-3.ensures.value,
      c.in_ok-optional_json-4.ensures.value,
      c.in_ok-if_any-3.ensures.value,
    ) in
    IfOk-weaker c.object.result _ _ (λ v e. e ∙ ap object_of rows) c.object.ensures.value
