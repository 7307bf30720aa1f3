-- What a build goes by from its beginning to its end.
use Rattle.std.specs.Prelude.{Option}
use Rattle.source_sums.specs.Manifests.{KnownManifests}
use Rattle.source_sums.specs.Sums.{KnownSums}
use Rattle.metadata_store.specs.declared.store.JsrMetadataStore.{JsrMetadataStore}
use Rattle.graph_turns.specs.declared.flags.Flags.{Flags}

-- what a build goes by: the sums of sources and of manifests that its locker knew as it began, where there is one, what a store that
-- was given has of the registry's files, and its flags
pub record Known : Type 0 where
  pub sums : Option KnownSums
  pub manifests : Option KnownManifests
  pub store : Option JsrMetadataStore
  pub flags : Flags
