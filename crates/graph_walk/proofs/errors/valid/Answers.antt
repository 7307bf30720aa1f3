use Rattle.std.proofs.Common.{◌≡◌, List, true, ap, subst}
use Rattle.url.specs.Parts.{Parts}
use Rattle.spec_base.specs.Refusal.{Answers}
use Rattle.graph_core.specs.declared.graph.ModuleGraph.{ModuleGraph}
use Rattle.graph_walk.specs.Errors.{error_list, first_of, valid_how, validity}
use Rattle.graph_walk.specs.Lists.{Text}
use Rattle.graph_walk.specs.Options.{How, how}
use Rattle.graph_walk.specs.Order.{Entry, rest, texts, walk_order}
use Rattle.graph_walk.specs.declared.options.AllCheckJs.{AllCheckJs}
use Rattle.graph_walk.proofs.errors.valid.Goals as goal

-- the first error of that walk is the verdict
valid_by : (g walked : ModuleGraph) (o : How) (roots : List Parts) (es : List (Text × Entry)) → walked ≡ g → o ≡ valid_how → es ≡ walk_order g valid_how (texts roots) → roots ≡ g.roots → first_of (error_list walked o es) ≡ validity g
unfolding validity
valid_by g walked o roots es same how_is in_order from_roots = cc

pub returns : goal.returns
returns c =
    let by = how {C = AllCheckJs} (λ _ _. true) in
    subst (Answers c.validate.result)
    (valid_by c.args.graph.now c.in_ok-walk.walk.graph (by c.in_ok-walk.walk.options) c.as_slice.result.now (rest by c.in_ok-walk.walk) c.in_ok-walk.ensures.graph (ap by c.in_ok-walk.ensures.options) c.in_ok-walk.ensures.order (cc))
    c.validate.ensures
