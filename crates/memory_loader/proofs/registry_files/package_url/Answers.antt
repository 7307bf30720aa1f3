use Rattle.std.proofs.Common.{◌≡◌, ◌∙◌, subst, List, ℕ}
use Rattle.std.specs.Prelude.{IfOk}
use Rattle.registry_urls.specs.Default.{default_registry}
use Rattle.registry_urls.specs.Registry.{url_in}
use Rattle.memory_loader.proofs.registry_files.package_url.Goals as goal

pub returns : goal.returns
returns c = subst (λ (path : List ℕ). IfOk c.url_in_registry.result (λ url. url ≡ url_in default_registry path)) (c.as_str.ensures.value ∙ c.in_ok-path.ensures.ok) c.url_in_registry.ensures
