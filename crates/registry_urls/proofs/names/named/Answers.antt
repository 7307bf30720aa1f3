use Rattle.std.proofs.Common.{◌∙◌}
use Rattle.registry_urls.proofs.NameLemmas.{named_found, named_missing}
use Rattle.registry_urls.proofs.PathLemmas.{regrouped_name}
use Rattle.registry_urls.proofs.names.named.Goals as goal

pub returns-in-Err-Is : goal.returns-in-Err-Is
returns-in-Err-Is c = named_missing c.args.scope.now c.args.name.now c.args.version.now (rw c.in-Err-Is.field-0-is at c.in-Err-Is.ensures)

pub returns : goal.returns
returns c =
    let name = c.from-name.ensures ∙ c.in_ok-format.ensures.ok ∙ regrouped_name c.args.scope.now c.args.name.now in
    named_found c.args.scope.now c.args.name.now c.args.version.now c.from-name.result _ c.from-version.result c.in-Ok.ensures c.from-version.ensures name
