use Rattle.world_upgrade.proofs.UrlLemmas.{url_again}
use Rattle.world_upgrade.proofs.entry_json.put_url.Goals as goal

pub returns-clause-again : goal.returns-clause-again
returns-clause-again c = url_again c.args.url.now c.as_str.ensures.valid c.requires
