use Rattle.std.proofs.Common.{◌≡◌, ℕ, subst, sym}
use Rattle.std.specs.FinMap as finite
use Rattle.std.specs.Ordering.{nat_cmp}
use Rattle.source_io.specs.declared.types.Answer.{Answer}
use Rattle.open_loads.specs.Order.Means.{means_of}
use Rattle.open_loads.specs.Order.Means.{Means}
use Rattle.open_loads.specs.Order.OpenLoads.{OpenLoads}
use Rattle.open_loads.specs.Order.Ordered.{IsCaughtUp, IsInOrder}
use Rattle.open_loads.proofs.Order.Caught.{inserted_order, takes_answer}
use Rattle.open_loads.proofs.open_loads.OpenLoads.answer.Goals as goal

pub process_kept-requires : goal.process_kept-requires
process_kept-requires g c = record { in_order = rw c.in_ok-insert.ensures (subst (λ (x : OpenLoads). IsInOrder (record x { kept = finite.insert x.kept c.args.ticket c.args.answer })) (sym c.self.view_is) (inserted_order (means_of g.S.Analyze.ModuleAnalyzer.infos g.S.Tree.FileTree.paths g.S.Urls.JsrUrlProvider.meaning g.S.Resolve.Resolver.is_told g.S.Resolve.Resolver.meaning c.args.maker.now) c.args.self.now c.args.ticket c.args.answer c.requires.in_order c.requires.in_flight)) }

-- what was processed over the answer that was kept
caught_from : (means : Means) (b old new : OpenLoads) (kept : finite.FinMap nat_cmp Answer) (ticket : ℕ) (answer : Answer) → b ≡ old → kept ≡ finite.insert b.kept ticket answer → IsCaughtUp means (record b { kept = kept }) new → IsCaughtUp means (record old { kept = finite.insert old.kept ticket answer }) new
caught_from means b old new kept ticket answer same is caught =
    subst (λ (x : OpenLoads). IsCaughtUp means (record x { kept = finite.insert x.kept ticket answer }) new) same
    (subst (λ (k : finite.FinMap nat_cmp Answer). IsCaughtUp means (record b { kept = k }) new) is caught)

pub returns-clause-taken : goal.returns-clause-taken
returns-clause-taken g c =
    let means : Means = means_of g.S.Analyze.ModuleAnalyzer.infos g.S.Tree.FileTree.paths g.S.Urls.JsrUrlProvider.meaning g.S.Resolve.Resolver.is_told g.S.Resolve.Resolver.meaning c.args.maker.now in
    takes_answer means c.args.self.now c.args.ticket c.args.answer c.requires.in_order c.requires.in_flight c.process_kept.new.self
    (caught_from means _ c.args.self.now c.process_kept.new.self c.insert.new.self c.args.ticket c.args.answer c.self.view_is c.in_ok-insert.ensures c.in_ok-process_kept.ensures.caught_up)
    c.in_ok-process_kept.ensures.resting
