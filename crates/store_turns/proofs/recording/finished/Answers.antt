use Rattle.std.proofs.Common.{◌≡◌, ◌∙◌, refl, sym, ap, subst}
use Rattle.graph_core.specs.declared.graph.ModuleGraph.{ModuleGraph}
use Rattle.graph_core.specs.Graph.{new_graph}
use Rattle.graph_turns.specs.Machine.Known.{Known}
use Rattle.turn_laws.specs.Promise.Complete.{IsComplete}
use Rattle.graph_turns.specs.Promise.Runs.{IsStaticFirst, left_of}
use Rattle.cache_filling.specs.Noted.{Noted}
use Rattle.cache_filling.proofs.NotedLemmas.{noted_so}
use Rattle.build_options.specs.Telling.{sums_in, without_locker}
use Rattle.store_turns.specs.Builds.{LeavesTurns}
use Rattle.store_turns.proofs.Left.{left_as, on_ok_at}
use Rattle.store_turns.proofs.recording.finished.Goals as goal

pub returns-in-Ok-clause-left : goal.returns-in-Ok-clause-left
returns-in-Ok-clause-left g c = λ told given npm goes.
    let turned = on_ok_at c.finish-done.result _ _ c.in-Ok.is (c.finish-done.ensures.turned told (new_graph given.kind) (left_of given) npm goes) in
    let taught = on_ok_at c.finish-done.result _ _ c.in-Ok.is c.finish-done.ensures.taught in
    subst (λ (x : ModuleGraph). Noted (g.L.LoaderCore.caches c.args.recorder.now.inner) (g.L.LoaderCore.world c.args.recorder.now.inner) (λ bare. LeavesTurns told given bare (sums_in g.S.Lock.Locker.remote c.into_parts-graph.result.1) c.into_parts-graph.result.1.jsr_metadata_store c.args.questions) x) (sym c.into_parts-graph.ensures.graph)
    (noted_so turned (λ bare at. left_as told given bare bare _ _ _ _ _ _ _ _ refl c.into_parts-graph.ensures.locker c.into_parts-graph.ensures.store c.requires.counted (ap (λ (k : Known). k.sums) goes.known_is) at taught))

pub returns-in-Ok-clause-options : goal.returns-in-Ok-clause-options
returns-in-Ok-clause-options g c = c.into_parts-graph.ensures.options ∙ ap without_locker c.finish-done.ensures.keeps.options

pub returns-in-Ok-clause-complete : goal.returns-in-Ok-clause-complete
returns-in-Ok-clause-complete g c = λ directions given on.
    let done = on_ok_at c.finish-done.result _ _ c.in-Ok.is (c.finish-done.ensures.complete directions given on) in
    subst (λ (x : ModuleGraph). Noted (g.L.LoaderCore.caches c.args.recorder.now.inner) (g.L.LoaderCore.world c.args.recorder.now.inner) (IsComplete directions.resolving c.args.build.turns.known.flags given) x) (sym c.into_parts-graph.ensures.graph) done

pub returns-in-Ok-clause-static_first : goal.returns-in-Ok-clause-static_first
returns-in-Ok-clause-static_first g c = λ told given goes static.
    let first = on_ok_at c.finish-done.result _ _ c.in-Ok.is (c.finish-done.ensures.static_first told given goes static) in
    subst (λ (x : ModuleGraph). Noted (g.L.LoaderCore.caches c.args.recorder.now.inner) (g.L.LoaderCore.world c.args.recorder.now.inner) (IsStaticFirst told given) x) (sym c.into_parts-graph.ensures.graph) first
