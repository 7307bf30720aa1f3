use Rattle.std.proofs.Common.{◌∙◌, refl, ap}
use Rattle.open_loads.specs.Order.Numbered.{content_next}
use Rattle.open_loads.proofs.Order.Opening.{content_none, content_some}
use Rattle.open_loads.proofs.open_loads.OpenLoads.begin_content.Goals as goal

pub returns-in-Some-clause-begun : goal.returns-in-Some-clause-begun
returns-in-Some-clause-begun g c =
    content_some _ c.put_later.new.self c.stand.new.self c.in-Some.ticket c.pop_front.new.self c.self.view_is c.in-Some.ensures.some c.stand.ensures
    ∙ ap content_next c.in_ok-put_later.ensures.put

pub returns-in-None-clause-begun : goal.returns-in-None-clause-begun
returns-in-None-clause-begun g c =
    content_none _ c.put_later.new.self _ c.pop_front.new.self c.self.view_is c.in-None.ensures.none c.in-None.ensures.same refl
    ∙ ap content_next c.in_ok-put_later.ensures.put
