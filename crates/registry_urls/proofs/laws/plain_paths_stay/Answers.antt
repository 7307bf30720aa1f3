use Rattle.registry_urls.proofs.PlainLemmas.{plain_stays}
use Rattle.registry_urls.proofs.laws.plain_paths_stay.Goals as goal

pub returns : goal.returns
returns c = plain_stays c.args.registry_url.now c.args.path.now c.as_str-text.ensures.valid c.requires.web c.requires.registry c.requires.path
