use Rattle.std.proofs.Common.{◌∙◌, None, Some, true, false, sym, ap}
use Rattle.registry_urls.specs.Meaning.{RegistryMeaning}
use Rattle.graph_errors.specs.declared.jsr_error.JsrLoadError.TheVariants.{UnsupportedManifestChecksum}
use Rattle.open_loads.specs.Order.Numbered.{asked_first_of, begun_known, failed_first_of}
use Rattle.open_loads.proofs.Order.Opening.{flag_of}
use Rattle.open_loads.proofs.open_loads.OpenLoads.begin_in.Goals as goal

pub returns-in_ok-ask_now-in-Asks-clause-begun : goal.returns-in_ok-ask_now-in-Asks-clause-begun
returns-in_ok-ask_now-in-Asks-clause-begun g c =
    let registry : RegistryMeaning = g.U.JsrUrlProvider.meaning c.args.urls.now in
    let b = c.args.self.now in
    λ load loads e. ap (begun_known registry b load loads) c.in-Asks.is ∙ flag_of true _ _ (sym (c.in_ok-ask_now-in-Asks.ensures.asked ∙ ap (asked_first_of b c.in-Asks.asked) e))

pub returns-in_ok-ask_file-in-Reads-clause-begun : goal.returns-in_ok-ask_file-in-Reads-clause-begun
returns-in_ok-ask_file-in-Reads-clause-begun g c =
    let registry : RegistryMeaning = g.U.JsrUrlProvider.meaning c.args.urls.now in
    let b = c.args.self.now in
    λ load loads e. ap (begun_known registry b load loads) c.in-Reads.is ∙ flag_of true _ _ (sym c.in_ok-ask_file-in-Reads.ensures.asked)

pub returns-in_ok-fail_first-in-Unread-clause-begun : goal.returns-in_ok-fail_first-in-Unread-clause-begun
returns-in_ok-fail_first-in-Unread-clause-begun g c =
    let registry : RegistryMeaning = g.U.JsrUrlProvider.meaning c.args.urls.now in
    let b = c.args.self.now in
    λ load loads e. ap (begun_known registry b load loads) c.in-Unread.is ∙ flag_of false _ _ (sym (c.in_ok-fail_first-in-Unread.ensures.failed ∙ ap (failed_first_of b (Some c.in-Unread.name) c.in-Unread.error) e))

pub returns-in_ok-fail_first-in-Unsupported-clause-begun : goal.returns-in_ok-fail_first-in-Unsupported-clause-begun
returns-in_ok-fail_first-in-Unsupported-clause-begun g c =
    let registry : RegistryMeaning = g.U.JsrUrlProvider.meaning c.args.urls.now in
    let b = c.args.self.now in
    λ load loads e. ap (begun_known registry b load loads) c.in-Unsupported.is ∙ flag_of false _ _ (sym (c.in_ok-fail_first-in-Unsupported.ensures.failed ∙ ap (failed_first_of b None UnsupportedManifestChecksum) e))
