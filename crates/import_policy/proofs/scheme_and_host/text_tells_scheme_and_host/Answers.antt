use Rattle.import_policy.proofs.SchemeLemmas.{scheme_and_host_told}
use Rattle.import_policy.proofs.scheme_and_host.text_tells_scheme_and_host.Goals as goal

pub returns : goal.returns
returns c = scheme_and_host_told c.args.url.now c.scheme-scheme.ensures.valid
