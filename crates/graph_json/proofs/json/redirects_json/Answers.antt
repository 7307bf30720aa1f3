use Rattle.std.proofs.Common.{rules}
use Rattle.serde_json.specs.View.{view, members_view}
use Rattle.graph_json.proofs.JsonLemmas.{one_redirect}
use Rattle.graph_json.proofs.json.redirects_json.Goals as goal

pub loop-specifier-preserved : goal.loop-specifier-preserved
loop-specifier-preserved c =
    let l = c.loop-specifier in
    one_redirect _ (members_view l.members.entries) _ c.in-Some.specifier.now c.in-Some.target.now l.specifier-iterator c.next.new.self
    c.as_str-in-loop-specifier.result.now (view c.in_ok-target.target) l.invariant (search rules) (search rules) (search rules) c.in_ok-put.ensures.ok
