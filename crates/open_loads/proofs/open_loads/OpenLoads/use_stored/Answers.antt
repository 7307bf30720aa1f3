use Rattle.std.proofs.Common.{rules, ◌≡◌, ◌∙◌, None, Some, true, false, slice_get, sym, ap}
use Rattle.registry_urls.specs.Meaning.{RegistryMeaning}
use Rattle.graph_turns.specs.Machine.Runs.{is_second}
use Rattle.graph_turns.specs.Promise.Versions.{answer_in}
use Rattle.open_loads.specs.Order.OpenLoads.{OpenLoads}
use Rattle.open_loads.proofs.Order.Stores.{answered_first}
use Rattle.open_loads.proofs.Order.Wanted.{begun_nothing, begun_second, begun_stored, begun_unstored}
use Rattle.open_loads.proofs.open_loads.OpenLoads.use_stored.Goals as goal

pub returns-then-is_second-clause-used : goal.returns-then-is_second-clause-used
returns-then-is_second-clause-used g c =
    let registry : RegistryMeaning = g.U.JsrUrlProvider.meaning c.args.urls.now in
    let b = c.args.self.now in
    let second : is_second b.state.run ≡ true = ap (λ (x : OpenLoads). is_second x.state.run) (sym c.self.view_is) ∙ sym c.is_second.ensures ∙ c.if-is_second.true in
    begun_second registry b b.state.wanted second

pub returns-in_default-clause-used : goal.returns-in_default-clause-used
returns-in_default-clause-used g c =
    let registry : RegistryMeaning = g.U.JsrUrlProvider.meaning c.args.urls.now in
    let b = c.args.self.now in
    let none : slice_get b.state.wanted 0 ≡ None = search rules in
    begun_nothing registry b none

pub returns-in_default-stored-clause-used : goal.returns-in_default-stored-clause-used
returns-in_default-stored-clause-used g c =
    let registry : RegistryMeaning = g.U.JsrUrlProvider.meaning c.args.urls.now in
    let b = c.args.self.now in
    let file = c.in-Some.file.now in
    let at : slice_get b.state.wanted 0 ≡ Some file = search rules in
    let first : is_second b.state.run ≡ false = ap (λ (x : OpenLoads). is_second x.state.run) (sym c.self.view_is) ∙ sym c.is_second.ensures ∙ c.if-is_second.false in
    let none : answer_in b.known.store file ≡ None = search rules in
    begun_unstored registry b file at (answered_first b.known.store b.state.run file first ∙ none)

pub returns-clause-used : goal.returns-clause-used
returns-clause-used g c =
    let registry : RegistryMeaning = g.U.JsrUrlProvider.meaning c.args.urls.now in
    let b = c.args.self.now in
    let file = c.in-Some.file.now in
    let at : slice_get b.state.wanted 0 ≡ Some file = search rules in
    let first : is_second b.state.run ≡ false = ap (λ (x : OpenLoads). is_second x.state.run) (sym c.self.view_is) ∙ sym c.is_second.ensures ∙ c.if-is_second.false in
    let here : answer_in b.known.store file ≡ Some c.in-Some-stored.answer.now = search rules in
    begun_stored registry _ b file c.in-Some-stored.answer.now c.keep_wanted.new.self c.self.view_is at (answered_first b.known.store b.state.run file first ∙ here) c.in_ok-kept.ensures.kept
