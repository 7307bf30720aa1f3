-- Those so far lead there, each once.
use Rattle.std.proofs.Common.{◌≡◌, [], map, take}
use Rattle.indexmap.specs.IndexSet.{insert_all}
use Rattle.spec_base.specs.Specifier.{same_specifier}
use Rattle.graph_core.specs.Graph.{resolved}
use Rattle.graph_reloads.proofs.reloads.reloaded_of.Given as goal

abbrev pub invariant-loop-specifier : goal.invariant-loop-specifier
invariant-loop-specifier l = l.ends ≡ insert_all same_specifier [] (map (resolved l.fn.graph) (take l.specifier-index l.given))
