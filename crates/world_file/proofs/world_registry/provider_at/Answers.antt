use Rattle.std.proofs.Common.{◌∙◌, sym}
use Rattle.world_file.proofs.RegistryLemmas.{no_provider, provider_is}
use Rattle.world_file.proofs.world_registry.provider_at.Goals as goal

pub returns-then-is_web_url : goal.returns-then-is_web_url
returns-then-is_web_url c = provider_is c.args.url c.with_url.result c.with_url.ensures

pub returns-else-is_web_url : goal.returns-else-is_web_url
returns-else-is_web_url c = no_provider c.args.url (sym c.is_web_url.ensures ∙ c.if-is_web_url.false)
