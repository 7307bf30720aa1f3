use Rattle.std.specs.FinMap as finite
use Rattle.std.specs.FinMap.{entries_sorted}
use Rattle.std.proofs.Common.{map}
use Rattle.json_tokens.proofs.RowTokens.{then_more, object_written}
use Rattle.graph_json.proofs.RisingRows.{rows_rise}
use Rattle.graph_json.specs.GraphJson.{redirect_row}
use Rattle.graph_json.proofs.text.push_redirects.Goals as goal

pub returns : goal.returns
returns c =
    let m = c.args.redirects.now in
    object_written (map redirect_row (finite.entries m)) c.args.out.now _ (rows_rise (finite.entries m) (entries_sorted m))
    (then_more c.args.out.now _ _ _ _ c.in_ok-begin_object.ensures c.in_ok-push_each_redirect.ensures)
