use Rattle.std.proofs.Common.{◌≡◌, ◌++◌}
use Rattle.spec_base.specs.Shown.{shown}
use Rattle.graph_walk.specs.Options.{how}
use Rattle.graph_walk.specs.Errors.{dependencies_errors}
use Rattle.graph_walk.proofs.entries.push_dependencies.Given as goal

abbrev pub invariant-loop-text : goal.invariant-loop-text
invariant-loop-text g l =
    l.errors.items ++ dependencies_errors l.graph (how g.C.CheckJsResolver.resolves l.options) l.is_checked l.here (shown l.text-iterator) ≡ l.fn.errors.items ++ dependencies_errors l.graph (how g.C.CheckJsResolver.resolves l.options) l.is_checked l.here l.dependencies
