use Rattle.std.proofs.Common.{◌∙◌, true, sym}
use Rattle.registry_urls.specs.Meaning.{RegistryMeaning}
use Rattle.graph_turns.specs.declared.registry.RegistryFile.TheVariants.{Version}
use Rattle.graph_turns.specs.Promise.Versions.{answer_in}
use Rattle.open_loads.specs.Order.OpenLoads.{known_now}
use Rattle.open_loads.proofs.Order.Opening.{flag_of, read_known, read_none, read_stands}
use Rattle.open_loads.proofs.open_loads.OpenLoads.begin_read.Goals as goal

pub returns-then-not-branch-clause-begun : goal.returns-then-not-branch-clause-begun
returns-then-not-branch-clause-begun g c =
    let registry : RegistryMeaning = g.U.JsrUrlProvider.meaning c.args.urls.now in
    let b = c.args.self.now in
    λ load loads first.
    read_none registry b c.read_stored.new.self load loads c.args.nv (answer_in (known_now b).store (Version c.args.nv))
    (sym c.in_ok-read_stored.ensures.found ∙ c.if-not-branch.true) c.in_ok-read_stored.ensures.read
    ∙ flag_of true _ _ (sym c.in_ok-ask_file.ensures.asked)

pub returns-in-Some-clause-begun : goal.returns-in-Some-clause-begun
returns-in-Some-clause-begun g c =
    let registry : RegistryMeaning = g.U.JsrUrlProvider.meaning c.args.urls.now in
    let b = c.args.self.now in
    λ load loads first.
    read_known c.begin_in.result registry b c.read_stored.new.self c.begin_in.new.self load loads c.args.nv (answer_in (known_now b).store (Version c.args.nv)) c.in-Some.manner
    (sym c.in_ok-read_stored.ensures.found ∙ c.if-not-branch.false) c.in_ok-read_stored.ensures.read first (sym c.in-Some.is ∙ c.in_ok-first_manner.ensures) c.begin_in.ensures.begun

pub returns-in-None-clause-begun : goal.returns-in-None-clause-begun
returns-in-None-clause-begun g c =
    let registry : RegistryMeaning = g.U.JsrUrlProvider.meaning c.args.urls.now in
    let b = c.args.self.now in
    λ load loads first. absurd (read_stands registry b c.read_stored.new.self load loads c.args.nv (answer_in (known_now b).store (Version c.args.nv)) c.in_ok-read_stored.ensures.read first (sym c.in-None.is ∙ c.in_ok-first_manner.ensures))
