use Rattle.std.proofs.Common.{◌∙◌, ◌++◌, true, ap, string_bytes}
use Rattle.std.specs.Prelude.{flat_map}
use Rattle.graph_walk.specs.Errors.{rest_errors}
use Rattle.graph_walk.specs.Options.{how}
use Rattle.graph_walk.specs.declared.options.AllCheckJs.{AllCheckJs}
use Rattle.graph_walk.specs.Order.{rest}
use Rattle.calls_program.specs.Lines.{error_line}
use Rattle.calls_program.proofs.ErrorLines.{lines_go_on, fewer_left, listed_from}
use Rattle.calls_program.proofs.error_lines.errors_text.Goals as goal

pub loop-found-preserved : goal.loop-found-preserved
loop-found-preserved c =
    lines_go_on (how (λ _ _. true)) c.loop-found.errors c.next.new.self c.in-Some.found (string_bytes c.loop-found.text) (string_bytes c.push_found.new.text) c.in-Some.ensures.steps c.in_ok-push_found.ensures
    ∙ c.loop-found.invariant

pub loop-found-smaller : goal.loop-found-smaller
loop-found-smaller c =
    fewer_left (how (λ _ _. true)) c.loop-found.errors c.next.new.self c.in-Some.found (string_bytes c.loop-found.text) (string_bytes c.push_found.new.text) c.in-Some.ensures.steps c.in_ok-push_found.ensures

pub loop-found-init : goal.loop-found-init
loop-found-init c =
    let walk = c.in_ok-walk.walk in
    let by = how {C = AllCheckJs} (λ _ _. true) in
    let lines = listed_from c.args.listed c.args.graph.now walk.graph (by c.options_of.result) (by walk.options) c.as_slice-roots.result.now (rest by walk) (rest_errors by c.errors-errors.result)
    c.errors-errors.ensures.errors c.in_ok-walk.ensures.graph (ap by c.in_ok-walk.ensures.options) c.in_ok-walk.ensures.order c.options_of.ensures (cc) in
    ap (λ t. t ++ flat_map error_line (rest_errors by c.errors-errors.result)) c.new-text.ensures.bytes ∙ lines
