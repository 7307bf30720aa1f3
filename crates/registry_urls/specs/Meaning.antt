-- What a provider of URLs tells of a registry.
use Rattle.std.specs.Prelude.{Option}
use Rattle.semver_npm.specs.declared.package.PackageNv.{PackageNv}
use Rattle.url.specs.Parts.{Parts}
use Rattle.registry_urls.specs.Names.{nv_of_url}
use Rattle.registry_urls.specs.Packages.{package_url}

-- where a registry is, where each version of a package lies, and which version a URL names
pub record RegistryMeaning : Type 0 where
  pub url : Parts
  pub package_url : PackageNv → Parts
  pub nv_of : Parts → Option PackageNv

-- a registry whose packages lie where it is recommended
abbrev pub registry_at : Parts → RegistryMeaning
registry_at url = record { url = url; package_url = package_url url; nv_of = nv_of_url url }
