-- What is open in the recorder is in flight, and the build goes by what is kept.
use Rattle.std.proofs.Common.{◌≡◌, ◌-◌, ◌+◌, ◌≤◌, length}
use Rattle.source_io.specs.Tickets.{IsPut}
use Rattle.graph_core.specs.declared.graph.ModuleGraph.{ModuleGraph}
use Rattle.graph_turns.specs.declared.unresolved_input.LeftOver.{LeftOver}
use Rattle.graph_builder.specs.Calls.Builds.{BuildsOn}
use Rattle.graph_builder.specs.Calls.Loaders.{KeepsLoader}
use Rattle.graph_builder.specs.Calls.Makers.{directions_in, means_in}
use Rattle.graph_builder.specs.Calls.Steps.{IsGoing, KeepsBuild}
use Rattle.graph_builder.specs.Order.InFlight.{Matches}
use Rattle.graph_store.specs.Stores.{entries_in}
use Rattle.store_turns.specs.Driven.{KeepsGoing}
use Rattle.store_turns.specs.Questions.{KeepsReached}
use Rattle.store_turns.proofs.driven.run_turns.Given as goal

abbrev pub invariant-turns : goal.invariant-turns
invariant-turns g l = record {
  going : IsGoing l.build;
  matches : Matches l.recorder.unanswered.items l.build.turns;
  counted : l.build.turns.taken ≡ l.put;
  most : l.build.turns.max_loads ≡ l.budget;
  asked : IsPut l.put (g.L.LoaderCore.asked l.fn.recorder.inner) (g.L.LoaderCore.asked l.recorder.inner);
  opened : l.answered + length l.recorder.unanswered.items ≡ l.put;
  goes : KeepsGoing (g.L.LoaderCore.world l.fn.recorder.inner) (means_in g.S.Analyze.ModuleAnalyzer.infos g.S.Tree.FileTree.paths g.S.Urls.JsrUrlProvider.meaning g.S.Resolve.Resolver.is_told g.S.Resolve.Resolver.meaning l.fn.build) (entries_in l.fn.recorder.store) l.fn.build (entries_in l.recorder.store) l.build;
  reached : KeepsReached (g.L.LoaderCore.world l.fn.recorder.inner) (means_in g.S.Analyze.ModuleAnalyzer.infos g.S.Tree.FileTree.paths g.S.Urls.JsrUrlProvider.meaning g.S.Resolve.Resolver.is_told g.S.Resolve.Resolver.meaning l.fn.build) l.fn.recorder.unanswered.items (entries_in l.fn.recorder.store) l.fn.build l.recorder.unanswered.items (entries_in l.recorder.store);
  builds : (graph : ModuleGraph) (given : LeftOver) → BuildsOn (directions_in g.S.Urls.JsrUrlProvider.meaning g.S.Resolve.Resolver.is_told g.S.Resolve.Resolver.meaning l.fn.build) graph given l.fn.build → BuildsOn (directions_in g.S.Urls.JsrUrlProvider.meaning g.S.Resolve.Resolver.is_told g.S.Resolve.Resolver.meaning l.fn.build) graph given l.build;
  below : g.L.LoaderCore.asked l.recorder.inner ≤ g.L.LoaderCore.asked l.fn.recorder.inner + l.put;
  keeps : KeepsBuild l.fn.build l.build;
  loader : KeepsLoader g.L.LoaderCore.world g.L.LoaderCore.may_fail g.L.LoaderCore.caches g.L.LoaderCore.faults l.fn.recorder.inner l.recorder.inner;
}

abbrev pub decreases-turns : goal.decreases-turns
decreases-turns g l = l.budget - l.answered
