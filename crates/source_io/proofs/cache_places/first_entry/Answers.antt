use Rattle.std.proofs.Common.{ap, ◌∙◌, ℕ}
use Rattle.std.specs.Prelude.{Option, option_map, slice_get}
use Rattle.spec_base.specs.Options.{then_by}
use Rattle.source_io.proofs.CacheLemmas.{info_at_index}
use Rattle.source_io.proofs.cache_places.first_entry.Goals as goal

pub returns : goal.returns
returns c =
    ap (option_map (λ e. e.1)) c.entry_at.ensures
    ∙ ap (λ (o : Option ℕ). option_map (λ e. e.1) (then_by o (slice_get c.args.entries.now))) c.get.ensures
    ∙ info_at_index c.args.entries.now c.args.places.now c.args.specifier.now c.requires
