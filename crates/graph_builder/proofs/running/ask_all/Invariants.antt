-- What was handed out was asked.
use Rattle.std.proofs.Common.{◌≡◌, false, ◌≤◌, ◌-◌, ◌+◌, ℕ, length, Option}
use Rattle.source_io.specs.Tickets.{IsPut}
use Rattle.source_io.specs.declared.types.World.{World}
use Rattle.graph_builder.specs.Calls.Driven.{IsLater}
use Rattle.graph_builder.specs.Calls.Steps.{IsGoing, KeepsBuild, is_finished}
use Rattle.graph_builder.specs.Calls.Loaders.{KeepsLoader}
use Rattle.graph_builder.specs.Order.InFlight.{Matches}
use Rattle.open_loads.specs.Order.Means.{Means}
use Rattle.graph_builder.proofs.running.ask_all.Given as goal

abbrev pub invariant-loop-ticket : goal.invariant-loop-ticket
invariant-loop-ticket g l = record {
  going : IsGoing l.build;
  later : (told : Option World) (means : Means) → IsLater told means l.fn.build l.build;
  matches : Matches (g.L.LoaderCore.open_tickets l.loader) l.build.turns;
  keeps : KeepsBuild l.fn.build l.build;
  finished : is_finished l.fn.build.phase ≡ false → is_finished l.build.phase ≡ false;
  below : g.L.LoaderCore.asked l.loader + l.fn.build.turns.taken ≤ g.L.LoaderCore.asked l.fn.loader + l.build.turns.taken;
  counted : (before : ℕ) → IsPut l.fn.build.turns.taken before (g.L.LoaderCore.asked l.fn.loader) → IsPut l.build.turns.taken before (g.L.LoaderCore.asked l.loader);
  opened : (n : ℕ) → n + length (g.L.LoaderCore.open_tickets l.fn.loader) ≡ l.fn.build.turns.taken → n + length (g.L.LoaderCore.open_tickets l.loader) ≡ l.build.turns.taken;
  loader : KeepsLoader g.L.LoaderCore.world g.L.LoaderCore.may_fail g.L.LoaderCore.caches g.L.LoaderCore.faults l.fn.loader l.loader;
}

abbrev pub decreases-loop-ticket : goal.decreases-loop-ticket
decreases-loop-ticket g l = l.build.turns.max_loads - l.build.turns.taken
