-- What is left decides.
use Rattle.std.proofs.Common.{◌≡◌, drop}
use Rattle.std.specs.List.{list_all}
use Rattle.world_answers.specs.WorldSources.{fits_key}
use Rattle.world_answers.proofs.world_sources.fit_keys.Given as goal

abbrev pub invariant-loop-entry : goal.invariant-loop-entry
invariant-loop-entry l = list_all (λ e. fits_key e.0 e.1) l.sources ≡ list_all (λ e. fits_key e.0 e.1) (drop l.entry-index l.sources)
