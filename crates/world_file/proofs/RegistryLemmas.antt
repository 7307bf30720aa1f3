-- The provider of a registry whose URL is http or https.
use Rattle.std.proofs.Common.{◌≡◌, Bool, true, false, Some, None, refl, subst}
use Rattle.std.proofs.Math.Bool.{Bool-set}
use Rattle.url.specs.Parts.{Parts}
use Rattle.registry_urls.specs.Registry.{is_web}
use Rattle.registry_urls.specs.declared.provider.DefaultJsrUrlProvider.{DefaultJsrUrlProvider}
use Rattle.world_file.specs.WorldRegistry.{provider_at, provider_if}

by_test : (p : DefaultJsrUrlProvider) (web : Bool) (is : is_web p.url ≡ web) → provider_if p.url web is ≡ Some p
by_test p true is = λ i. Some (record { url = p.url; web = Bool-set (is_web p.url) true is p.web i })
by_test p false is = absurd cc

-- it is the one that is read
pub provider_is : (url : Parts) (p : DefaultJsrUrlProvider) → p.url ≡ url → provider_at url ≡ Some p
provider_is url p e = subst (λ u. provider_at u ≡ Some p) e (by_test p (is_web p.url) refl)

other_test : (url : Parts) (web : Bool) (is : is_web url ≡ web) → web ≡ false → provider_if url web is ≡ None
other_test url true is other = absurd cc
other_test url false is other = refl

-- and none is where the URL is another one
pub no_provider : (url : Parts) → is_web url ≡ false → provider_at url ≡ None
no_provider url other = other_test url (is_web url) refl other
