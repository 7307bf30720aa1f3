use Rattle.std.proofs.Common.{◌≡◌, sym, ap, ◌∙◌}
use Rattle.std.specs.Prelude.{fold}
use Rattle.std.specs.FinMap as finite
use Rattle.source_sums.specs.Manifests.{KnownManifests}
use Rattle.graph_turns.specs.Machine.Runs.{with_read}
use Rattle.graph_turns.proofs.run.manifests_of.Goals as goal

pub loop-nv-init : goal.loop-nv-init
loop-nv-init c =
    let steps = c.into_iter-nv-iterator.ensures.into_iter_gives ∙ c.iter-nv-items.ensures.rest ∙ c.as_map.ensures in
    ap (fold with_read finite.empty) (sym steps) ∙ ap (λ (m : KnownManifests). fold with_read m c.into_iter-nv-iterator.result) (sym c.new-manifests.ensures)

pub loop-nv-preserved : goal.loop-nv-preserved
loop-nv-preserved c =
    c.loop-nv.invariant ∙ ap (fold with_read c.loop-nv.manifests) c.in-Some.ensures.steps
    ∙ sym (ap (λ (m : KnownManifests). fold with_read m c.next.new.self) c.in_ok-add_read.ensures)
