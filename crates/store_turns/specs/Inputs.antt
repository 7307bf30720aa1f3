-- What builds are given.
use Rattle.std.specs.Prelude.{◌≡◌}
use Rattle.source_sums.specs.Manifests.{KnownManifests}
use Rattle.source_sums.specs.Sums.{KnownSums}
use Rattle.graph_turns.specs.Promise.Input.{Given, given_to}
use Rattle.build_options.specs.Telling.{known_in, without_locker}
use Rattle.store_turns.specs.declared.input.BuildInput.{BuildInput}

-- the kind, the roots and the configured imports
abbrev pub given_in : {S L T U A R N C Q : Type 0} → BuildInput S L T U A R N C Q → Given
given_in input = given_to input.kind input.roots.items input.imports.items

-- the same is given twice, with equal options, and lockers that know the same
pub record AreAlike {S L T U A R N C Q : Type 0} (remote : L → KnownSums) (manifests : L → KnownManifests) (first second : BuildInput S L T U A R N C Q) : Type 0 where
  pub given : given_in second ≡ given_in first
  pub options : without_locker second.options ≡ without_locker first.options
  pub known : known_in remote manifests second.options ≡ known_in remote manifests first.options
