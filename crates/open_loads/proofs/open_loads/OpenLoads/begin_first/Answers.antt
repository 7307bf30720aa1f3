use Rattle.std.proofs.Common.{◌≡◌, sym, subst}
use Rattle.std.specs.Prelude.{IfOk}
use Rattle.registry_urls.specs.Meaning.{RegistryMeaning}
use Rattle.graph_turns.specs.declared.manner.Manner.{Manner}
use Rattle.open_loads.specs.Order.Numbered.{begun_so}
use Rattle.open_loads.proofs.open_loads.OpenLoads.begin_first.Goals as goal

pub returns-in-Reads-clause-begun : goal.returns-in-Reads-clause-begun
returns-in-Reads-clause-begun g c =
    let registry : RegistryMeaning = g.U.JsrUrlProvider.meaning c.args.urls.now in
    λ load loads e. subst (λ (m : Manner). IfOk c.begin_read.result (λ due. begun_so registry c.args.self.now load loads m ≡ (due, c.begin_read.new.self))) (sym c.in-Reads.is) (c.begin_read.ensures.begun load loads e)

pub returns-in-Asks-clause-begun : goal.returns-in-Asks-clause-begun
returns-in-Asks-clause-begun g c =
    let registry : RegistryMeaning = g.U.JsrUrlProvider.meaning c.args.urls.now in
    λ load loads e. subst (λ (m : Manner). IfOk c.begin_in.result (λ due. begun_so registry c.args.self.now load loads m ≡ (due, c.begin_in.new.self))) (sym c.in-Asks.is) (c.begin_in.ensures.begun load loads e)

pub returns-in-Unread-clause-begun : goal.returns-in-Unread-clause-begun
returns-in-Unread-clause-begun g c =
    let registry : RegistryMeaning = g.U.JsrUrlProvider.meaning c.args.urls.now in
    λ load loads e. subst (λ (m : Manner). IfOk c.begin_in-in-Unread.result (λ due. begun_so registry c.args.self.now load loads m ≡ (due, c.begin_in-in-Unread.new.self))) (sym c.in-Unread.is) (c.begin_in-in-Unread.ensures.begun load loads e)

pub returns-in-Unsupported-clause-begun : goal.returns-in-Unsupported-clause-begun
returns-in-Unsupported-clause-begun g c =
    let registry : RegistryMeaning = g.U.JsrUrlProvider.meaning c.args.urls.now in
    λ load loads e. subst (λ (m : Manner). IfOk c.begin_in-in-Unsupported.result (λ due. begun_so registry c.args.self.now load loads m ≡ (due, c.begin_in-in-Unsupported.new.self))) (sym c.in-Unsupported.is) (c.begin_in-in-Unsupported.ensures.begun load loads e)
