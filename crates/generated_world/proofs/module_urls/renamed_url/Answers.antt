use Rattle.std.proofs.Common.{◌∙◌, None, ap, arith}
use Rattle.url.specs.Parser.{parse_url}
use Rattle.generated_world.proofs.UrlLemmas.{renamed_parsed}
use Rattle.generated_world.proofs.module_urls.renamed_url.Goals as goal

pub returns : goal.returns
returns c = c.url_of.ensures _ (ap (parse_url None) (c.as_str.ensures.value ∙ c.in_ok-text.ensures.ok) ∙ renamed_parsed c.args.number (omega arith))
