-- The registry JSR.
use Rattle.std.specs.Prelude.{[], codes, Some, None}
use Rattle.url.specs.Parts.{Parts}
use Rattle.url.specs.declared.host.Host.TheVariants.{Domain}

-- `https://jsr.io/`
abbrev pub default_registry : Parts
default_registry = record {
  scheme = codes "https";
  username = [];
  password = [];
  host = Some (Domain (codes "jsr.io"));
  port = None;
  path = codes "/";
  query = None;
  fragment = None;
}
