use Rattle.std.proofs.Common.{rules, ◌≡◌, ◌∙◌, ◌+◌, ◌<◌, ℕ, ◌∷◌, ap}
use Rattle.open_loads.specs.Order.OpenLoads.{OpenLoads}
use Rattle.open_loads.specs.Order.Ordered.{asked_at}
use Rattle.open_loads.proofs.Order.Coming.{next_about}
use Rattle.open_loads.proofs.open_loads.OpenLoads.take_question.Goals as goal

pub returns-in-Some-clause-some : goal.returns-in-Some-clause-some
returns-in-Some-clause-some g c =
    let b = c.args.self.now in
    let queue : b.queue ≡ c.in-Some.question ∷ c.pop_front.new.self = search rules in
    let below : b.taken < b.max_loads = let n = c.requires.in_order.numbered.in_budget in search rules in
    record {
      is_next = ap (λ (x : OpenLoads). x.taken) c.self.view_is;
      about = ap (λ (t : ℕ). asked_at b t) (ap (λ (x : OpenLoads). x.taken) c.self.view_is) ∙ next_about b c.in-Some.question c.pop_front.new.self c.requires.in_order queue;
      one_more = ap (λ (x : OpenLoads). record x { taken = x.taken + 1; queue = c.pop_front.new.self }) c.self.view_is;
      was_queued = queue;
      in_budget = below;
    }
