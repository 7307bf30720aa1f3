use Rattle.std.proofs.Common.{◌≡◌, ◌++◌, ◌+◌, suc, ◌∷◌, drop, ap, sym, ◌∙◌, append_assoc, arith, drop-cons}
use Rattle.std.specs.Prelude.{flat_map, fold}
use Rattle.npm_targets.specs.Edges.{repointing}
use Rattle.npm_targets.specs.Graphs.{exchanged, root_loads}
use Rattle.npm_targets.proofs.repointing.Repointing.exchange_all.Goals as goal

pub loop-root-preserved : goal.loop-root-preserved
loop-root-preserved g c =
    let how = repointing g.U.JsrUrlProvider.meaning g.R.Resolver.meaning c.args.self.now in
    let roots = c.args.roots.now in
    let n = c.loop-root.root-index in
    let root = c.root-item.result in
    let next : suc n ≡ n + 1 = omega arith in
    let parts : drop n roots ≡ root ∷ drop (n + 1) roots = drop-cons roots n root (omega arith) ∙ (λ i. sym c.root-item.is i ∷ drop (next i) roots) in
    record {
      set = λ told.
          ap (λ ks. fold (exchanged how c.args.range.now) ks (drop (n + 1) roots)) (c.in_ok-exchange.ensures.set told)
          ∙ sym (ap (fold (exchanged how c.args.range.now) c.loop-root.set.keys) parts)
          ∙ c.loop-root.invariant.set told;
      loads = λ told.
          ap (λ ls. ls ++ flat_map (root_loads how c.args.range.now) (drop (n + 1) roots)) (c.in_ok-exchange.ensures.loads told)
          ∙ append_assoc c.loop-root.loads.items _ _
          ∙ sym (ap (λ rs. c.loop-root.loads.items ++ flat_map (root_loads how c.args.range.now) rs) parts)
          ∙ c.loop-root.invariant.loads told;
      outset = λ h. c.in_ok-exchange.ensures.outset (c.loop-root.invariant.outset h);
    }
