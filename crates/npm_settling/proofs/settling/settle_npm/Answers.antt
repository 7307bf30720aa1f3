use Rattle.std.proofs.Common.{◌≡◌, subst, true}
use Rattle.graph_core.specs.Npm.{dynamic_npm, static_npm, ArePut, AreSettledTogether}
use Rattle.npm_settling.proofs.EndLemmas.{settled_with, settled_without}
use Rattle.npm_settling.proofs.settling.settle_npm.Goals.{then-asks_graph+in_ok-settle_static, else-asks_graph}
use Rattle.npm_settling.proofs.settling.settle_npm.Goals as goal

pub returns : goal.returns
returns g c =
    let table = g.N.NpmResolver.table c.args.resolver.now in
    let old = c.args.graph.now in
    let waiting = c.args.waiting in
    let parted = c.in_ok-parted.parted in
    let new = c.settle_dynamic.new.graph in
    let are_static : parted.statics.items ≡ static_npm waiting = c.in_ok-parted.ensures.statics in
    let are_dynamic : parted.dynamics.items ≡ dynamic_npm waiting = c.in_ok-parted.ensures.dynamics in
    let after : ArePut table true c.if-asks_graph.graph parted.dynamics.items new =
    subst (λ l. ArePut table true c.if-asks_graph.graph l new) c.deref-2.ensures.value c.in_ok-settle_dynamic.ensures in
    elim c.if-asks_graph.branch [
      | then-asks_graph+in_ok-settle_static w ↦
          settled_with table waiting old parted.statics.items parted.dynamics.items are_static are_dynamic c.asks_graph.result c.asks_graph.ensures
          w.settle_static.new.graph new w.if-asks_graph.true
          (subst (λ l. AreSettledTogether table old l w.settle_static.new.graph) w.deref.ensures.value w.in_ok-settle_static.ensures)
          (subst (λ s. ArePut table true s parted.dynamics.items new) w.graph-is after)
      | else-asks_graph w ↦
          settled_without table waiting old parted.statics.items parted.dynamics.items are_static are_dynamic c.asks_graph.result c.asks_graph.ensures
          new w.if-asks_graph.false
          (subst (λ s. ArePut table true s parted.dynamics.items new) w.graph-is after)
    ]
