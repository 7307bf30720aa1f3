-- What was added and what is left to be added make all.
use Rattle.std.proofs.Common.{◌≡◌}
use Rattle.std.specs.Prelude.{bytes_eq}
use Rattle.indexmap.specs.IndexSet.{insert_all}
use Rattle.spec_base.specs.Shown.{shown}
use Rattle.graph_walk.specs.Assets.{assets_among}
use Rattle.graph_walk.specs.Lent.{lent_texts}
use Rattle.graph_walk.proofs.asset_urls.add_assets.Given as goal

abbrev pub invariant-loop-text : goal.invariant-loop-text
invariant-loop-text l =
    insert_all bytes_eq (lent_texts l.fn.urls.keys) (assets_among l.graph l.dependencies) ≡ insert_all bytes_eq (lent_texts l.urls.keys) (assets_among l.graph (shown l._text-iterator))
