-- The registry JSR, by its URL.
use Rattle.std.proofs.Common.{◌≡◌, true, refl, subst}
use Rattle.std.proofs.Math.Bool.{Bool-set}
use Rattle.registry_urls.specs.Default.{default_registry}
use Rattle.registry_urls.specs.Registry.{is_web}
use Rattle.registry_urls.specs.declared.provider.DefaultJsrUrlProvider.{DefaultJsrUrlProvider}
use Rattle.generated_world.specs.Generated.{jsr}

pub jsr_is : (p : DefaultJsrUrlProvider) → p.url ≡ default_registry → p ≡ jsr
jsr_is p same = subst (λ u. (web : is_web u ≡ true) → p ≡ record { url = u; web = web }) same (λ web i. record { url = p.url; web = Bool-set (is_web p.url) true p.web web i }) refl
