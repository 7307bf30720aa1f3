use Rattle.url.proofs.OnLiterals.{url_on_literals}
use Rattle.registry_urls.proofs.provider.default_jsr_url.Goals as goal

pub returns-in-Ok-clause-value : goal.returns-in-Ok-clause-value
unfolding url_on_literals
returns-in-Ok-clause-value c = cc (c.in-Ok.ensures)
