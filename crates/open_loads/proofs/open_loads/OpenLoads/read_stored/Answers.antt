use Rattle.std.proofs.Common.{◌≡◌, ◌∙◌, None, Some, true, false, option_copied, sym, ap}
use Rattle.registry_urls.specs.Meaning.{RegistryMeaning}
use Rattle.graph_turns.specs.declared.registry.RegistryFile.TheVariants.{Version}
use Rattle.graph_turns.specs.Machine.Runs.{is_second}
use Rattle.graph_turns.specs.Promise.Versions.{answer_in}
use Rattle.open_loads.specs.Order.OpenLoads.{OpenLoads, known_now}
use Rattle.open_loads.proofs.Order.Stores.{answered_first, answered_second}
use Rattle.open_loads.proofs.Order.Wanted.{found_none, found_some, read_there, unread}
use Rattle.open_loads.proofs.open_loads.OpenLoads.read_stored.Goals as goal

pub returns-then-is_second-clause-found : goal.returns-then-is_second-clause-found
returns-then-is_second-clause-found g c =
    let b = c.args.self.now in
    let second : is_second b.state.run ≡ true = ap (λ (x : OpenLoads). is_second x.state.run) (sym c.self.view_is) ∙ sym c.is_second.ensures ∙ c.if-is_second.true in
    found_none (known_now b).store c.args.nv.now (sym (answered_second b.known.store b.state.run (Version c.args.nv.now) second))

pub returns-then-is_second-clause-read : goal.returns-then-is_second-clause-read
returns-then-is_second-clause-read g c =
    let registry : RegistryMeaning = g.U.JsrUrlProvider.meaning c.args.urls.now in
    let b = c.args.self.now in
    let second : is_second b.state.run ≡ true = ap (λ (x : OpenLoads). is_second x.state.run) (sym c.self.view_is) ∙ sym c.is_second.ensures ∙ c.if-is_second.true in
    unread registry b c.args.nv.now (sym (answered_second b.known.store b.state.run (Version c.args.nv.now) second))

pub returns-in_default-clause-found : goal.returns-in_default-clause-found
returns-in_default-clause-found g c =
    let b = c.args.self.now in
    let first : is_second b.state.run ≡ false = ap (λ (x : OpenLoads). is_second x.state.run) (sym c.self.view_is) ∙ sym c.is_second.ensures ∙ c.if-is_second.false in
    let none : None ≡ answer_in b.known.store (Version c.args.nv.now) = ap option_copied (sym c.in_default.is) ∙ c.stored_version.ensures ∙ ap (λ (x : OpenLoads). answer_in x.known.store (Version c.args.nv.now)) c.self.view_is in
    found_none (known_now b).store c.args.nv.now (none ∙ sym (answered_first b.known.store b.state.run (Version c.args.nv.now) first))

pub returns-in_default-clause-read : goal.returns-in_default-clause-read
returns-in_default-clause-read g c =
    let registry : RegistryMeaning = g.U.JsrUrlProvider.meaning c.args.urls.now in
    let b = c.args.self.now in
    let first : is_second b.state.run ≡ false = ap (λ (x : OpenLoads). is_second x.state.run) (sym c.self.view_is) ∙ sym c.is_second.ensures ∙ c.if-is_second.false in
    let none : None ≡ answer_in b.known.store (Version c.args.nv.now) = ap option_copied (sym c.in_default.is) ∙ c.stored_version.ensures ∙ ap (λ (x : OpenLoads). answer_in x.known.store (Version c.args.nv.now)) c.self.view_is in
    unread registry b c.args.nv.now (none ∙ sym (answered_first b.known.store b.state.run (Version c.args.nv.now) first))

pub returns-clause-found : goal.returns-clause-found
returns-clause-found g c =
    let b = c.args.self.now in
    let first : is_second b.state.run ≡ false = ap (λ (x : OpenLoads). is_second x.state.run) (sym c.self.view_is) ∙ sym c.is_second.ensures ∙ c.if-is_second.false in
    let here : Some c.in-Some.answer.now ≡ answer_in b.known.store (Version c.args.nv.now) = ap option_copied (sym c.in-Some.is) ∙ c.stored_version.ensures ∙ ap (λ (x : OpenLoads). answer_in x.known.store (Version c.args.nv.now)) c.self.view_is in
    found_some (known_now b).store c.args.nv.now c.in-Some.answer.now (here ∙ sym (answered_first b.known.store b.state.run (Version c.args.nv.now) first))

pub returns-clause-read : goal.returns-clause-read
returns-clause-read g c =
    let registry : RegistryMeaning = g.U.JsrUrlProvider.meaning c.args.urls.now in
    let b = c.args.self.now in
    let first : is_second b.state.run ≡ false = ap (λ (x : OpenLoads). is_second x.state.run) (sym c.self.view_is) ∙ sym c.is_second.ensures ∙ c.if-is_second.false in
    let here : Some c.in-Some.answer.now ≡ answer_in b.known.store (Version c.args.nv.now) = ap option_copied (sym c.in-Some.is) ∙ c.stored_version.ensures ∙ ap (λ (x : OpenLoads). answer_in x.known.store (Version c.args.nv.now)) c.self.view_is in
    read_there registry _ b c.args.nv.now c.in-Some.answer.now c.keep_version.new.self c.self.view_is (here ∙ sym (answered_first b.known.store b.state.run (Version c.args.nv.now) first)) c.in_ok-keep_version.ensures
