use Rattle.std.proofs.Common.{◌≡◌, ◌∙◌, subst, List, ℕ}
use Rattle.std.specs.Prelude.{IfOk, codes}
use Rattle.registry_urls.specs.Default.{default_registry}
use Rattle.registry_urls.specs.Registry.{url_in}
use Rattle.memory_loader.proofs.RegistryLemmas.{regrouped}
use Rattle.memory_loader.proofs.registry_files.version_url.Goals as goal

pub returns : goal.returns
returns c =
    let path = c.as_str.ensures.value ∙ c.in_ok-path.ensures.ok ∙ regrouped c.args.name.now c.args.version.now (codes "_meta.json") in
    subst (λ (path : List ℕ). IfOk c.url_in_registry.result (λ url. url ≡ url_in default_registry path)) path c.url_in_registry.ensures
