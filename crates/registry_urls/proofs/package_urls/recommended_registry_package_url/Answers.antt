use Rattle.std.proofs.Common.{◌≡◌, ◌∙◌, subst, List, ℕ}
use Rattle.std.specs.Prelude.{IfOk, codes}
use Rattle.semver.specs.Identifiers.{parts_text}
use Rattle.registry_urls.specs.Registry.{url_in}
use Rattle.registry_urls.proofs.PathLemmas.{regrouped}
use Rattle.registry_urls.proofs.package_urls.recommended_registry_package_url.Goals as goal

pub returns : goal.returns
returns c =
    let path = c.as_str.ensures.value ∙ c.in_ok-path.ensures.ok ∙ regrouped c.args.nv.now.name (parts_text c.args.nv.now.version) (codes "/") in
    subst (λ (path : List ℕ). IfOk c.url_in_folder.result (λ url. url ≡ url_in c.args.registry_url.now path)) path c.url_in_folder.ensures
