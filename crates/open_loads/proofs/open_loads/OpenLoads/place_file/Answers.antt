use Rattle.std.proofs.Common.{◌∙◌, sym}
use Rattle.open_loads.proofs.Order.Wanted.{place_asked, place_stored}
use Rattle.open_loads.proofs.open_loads.OpenLoads.place_file.Goals as goal

pub returns-in-None-clause-placed : goal.returns-in-None-clause-placed
returns-in-None-clause-placed g c = λ registry file is. place_stored c.place_stored.result registry c.args.self.now c.place_stored.new.self file (sym c.in-None.is ∙ is) c.place_stored.ensures.placed

pub returns-in-Some-clause-placed : goal.returns-in-Some-clause-placed
returns-in-Some-clause-placed g c = λ registry file is. place_asked c.place_asked.result registry c.args.self.now c.place_asked.new.self file c.in-Some.question (sym c.in-Some.is ∙ is) c.place_asked.ensures.placed
