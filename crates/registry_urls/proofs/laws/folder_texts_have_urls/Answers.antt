use Rattle.registry_urls.proofs.FolderLemmas.{url_in_parsed, url_in_same_host}
use Rattle.registry_urls.proofs.laws.folder_texts_have_urls.Goals as goal

pub returns-clause-parsed : goal.returns-clause-parsed
returns-clause-parsed c = url_in_parsed c.args.registry_url.now c.args.path.now c.as_str-text.ensures.valid c.requires

pub returns-clause-same_host : goal.returns-clause-same_host
returns-clause-same_host c = url_in_same_host c.args.registry_url.now c.args.path.now c.as_str-text.ensures.valid c.requires
