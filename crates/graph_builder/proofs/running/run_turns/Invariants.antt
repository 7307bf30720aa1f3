-- The turns so far were built from the beginning, and what is open in the loader is in flight.
use Rattle.std.proofs.Common.{◌≡◌, false, ◌≤◌, ◌-◌, ◌+◌, length}
use Rattle.source_io.specs.Tickets.{IsPut}
use Rattle.graph_builder.specs.Calls.Driven.{IsLater}
use Rattle.graph_builder.specs.Calls.Steps.{IsGoing, KeepsBuild, is_finished}
use Rattle.graph_builder.specs.Calls.Loaders.{KeepsLoader}
use Rattle.graph_builder.specs.Order.InFlight.{Matches}
use Rattle.graph_builder.specs.Calls.Makers.{means_in}
use Rattle.graph_builder.proofs.running.run_turns.Given as goal

abbrev pub invariant-turns : goal.invariant-turns
invariant-turns g l = record {
  going : IsGoing l.build;
  later : IsLater (g.L.LoaderCore.world l.fn.loader) (means_in g.S.Analyze.ModuleAnalyzer.infos g.S.Tree.FileTree.paths g.S.Urls.JsrUrlProvider.meaning g.S.Resolve.Resolver.is_told g.S.Resolve.Resolver.meaning l.fn.build) l.fn.build l.build;
  keeps : KeepsBuild l.fn.build l.build;
  finished : is_finished l.fn.build.phase ≡ false → is_finished l.build.phase ≡ false;
  matches : Matches (g.L.LoaderCore.open_tickets l.loader) l.build.turns;
  read : l.budget ≡ l.fn.build.turns.max_loads;
  below : g.L.LoaderCore.asked l.loader ≤ g.L.LoaderCore.asked l.fn.loader + l.build.turns.taken;
  counted : IsPut l.build.turns.taken (g.L.LoaderCore.asked l.fn.loader) (g.L.LoaderCore.asked l.loader);
  opened : l.answered + length (g.L.LoaderCore.open_tickets l.loader) ≡ l.build.turns.taken;
  loader : KeepsLoader g.L.LoaderCore.world g.L.LoaderCore.may_fail g.L.LoaderCore.caches g.L.LoaderCore.faults l.fn.loader l.loader;
}

abbrev pub decreases-turns : goal.decreases-turns
decreases-turns g l = l.budget - l.answered
