-- The errors are among what is left of the walk.
use Rattle.std.proofs.Common.{◌≡◌, length, Some}
use Rattle.graph_errors.specs.declared.errors.ModuleError.{ModuleError}
use Rattle.graph_walk.specs.Lists.{Text, Among}
use Rattle.graph_walk.specs.Options.{how}
use Rattle.graph_walk.specs.Order.{rest, texts, entry_at, Entry}
use Rattle.graph_walk.specs.Order.Entry.{OfError}
use Rattle.graph_walk.specs.Closure.{Closure}
use Rattle.graph_tests.proofs.walk_caller.has_error.Given as goal

abbrev pub invariant-loop-specifier : goal.invariant-loop-specifier
invariant-loop-specifier g l = record {
  given : (s : Text) (e : Entry) → Among (s, e) (rest (how g.C.CheckJsResolver.resolves) l.walk) → Closure l.graph (how g.C.CheckJsResolver.resolves l.fn.options) (texts l.roots) s × (entry_at l.graph (how g.C.CheckJsResolver.resolves l.fn.options) s ≡ Some e);
  left : (s : Text) (e : ModuleError) → Closure l.graph (how g.C.CheckJsResolver.resolves l.fn.options) (texts l.roots) s → entry_at l.graph (how g.C.CheckJsResolver.resolves l.fn.options) s ≡ Some (OfError e) → Among (s, OfError e) (rest (how g.C.CheckJsResolver.resolves) l.walk);
}

abbrev pub decreases-loop-specifier : goal.decreases-loop-specifier
decreases-loop-specifier g l = length (rest (how g.C.CheckJsResolver.resolves) l.walk)
