use Rattle.registry_urls.proofs.RoundTrip.{named_back}
use Rattle.registry_urls.proofs.laws.package_urls_name_their_versions.Goals as goal

pub returns : goal.returns
returns c = named_back c.args.registry_url.now c.args.nv.now c.as_str-text.ensures.valid c.requires.web c.requires.registry c.requires.plain c.requires.scoped c.requires.version
