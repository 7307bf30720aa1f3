use Rattle.std.proofs.Common.{◌≡◌, ◌++◌, None, sym, ap, ◌∙◌}
use Rattle.url.specs.Parser.{parse_url}
use Rattle.url.specs.Parts.{serialize}
use Rattle.registry_urls.specs.Default.{default_registry}
use Rattle.memory_loader.proofs.RegistryLemmas.{url_is}
use Rattle.memory_loader.proofs.registry_files.url_in_registry.Goals as goal

pub returns-in-Ok : goal.returns-in-Ok
returns-in-Ok c =
    let text : c.as_str.result.now ≡ serialize default_registry ++ c.args.path.now = c.as_str.ensures.value ∙ c.in_ok-text.ensures.ok ∙ ap (λ t. t ++ c.args.path.now) (c.as_str-folder.ensures.value ∙ ap serialize c.in_ok-registry.ensures.value) in
    url_is c.args.path.now c.in-Ok.url c.in_ok-registry.ensures.text (ap (parse_url None) (sym text) ∙ c.in-Ok.ensures)
