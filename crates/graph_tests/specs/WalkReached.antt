-- Errors that roots lead to.
use Rattle.std.specs.Prelude.{◌≡◌, List, Some}
use Rattle.graph_errors.specs.declared.errors.ModuleError.{ModuleError}
use Rattle.graph_core.specs.declared.graph.ModuleGraph.{ModuleGraph}
use Rattle.graph_walk.specs.Lists.{Text}
use Rattle.graph_walk.specs.Options.{How}
use Rattle.graph_walk.specs.Order.{entry_at}
use Rattle.graph_walk.specs.Order.Entry.{OfError}
use Rattle.graph_walk.specs.Closure.{Closure}

abbrev pub HasErrorAt : ModuleGraph → How → List Text → Type 0
HasErrorAt g o roots = (s : Text) × (e : ModuleError) × Closure g o roots s × (entry_at g o s ≡ Some (OfError e))
