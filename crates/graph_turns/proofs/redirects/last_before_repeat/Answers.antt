use Rattle.std.proofs.Common.{◌≡◌, List, subst}
use Rattle.std.specs.Prelude.{IfOk}
use Rattle.std.specs.FinMap as finite
use Rattle.url.specs.Parts.{Parts}
use Rattle.indexmap.specs.IndexSet.{insert_key}
use Rattle.spec_base.specs.Specifier.{same_specifier}
use Rattle.graph_turns.specs.Machine.Redirects.{follow}
use Rattle.graph_turns.proofs.redirects.last_before_repeat.Goals as goal

pub returns : goal.returns
returns c =
    let g = c.args.graph.now in
    let s = c.args.specifier.now in
    subst (λ (met : List Parts). IfOk c.last_unmet-last.result (λ end. end.now ≡ follow g (finite.len g.redirects) (insert_key same_specifier met s) s)) c.new-met.ensures c.last_unmet-last.ensures
