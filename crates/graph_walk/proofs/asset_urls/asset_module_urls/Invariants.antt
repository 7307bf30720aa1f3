-- What was added and what is left to be added make all.
use Rattle.std.proofs.Common.{◌≡◌}
use Rattle.std.specs.Prelude.{bytes_eq, flat_map}
use Rattle.indexmap.specs.IndexSet.{insert_all}
use Rattle.graph_walk.specs.Assets.{module_assets, asset_places}
use Rattle.graph_walk.specs.Lent.{lent_texts}
use Rattle.graph_walk.specs.MembersValue.{modules_left}
use Rattle.graph_walk.proofs.asset_urls.asset_module_urls.Given as goal

abbrev pub invariant-loop-found : goal.invariant-loop-found
invariant-loop-found l =
    asset_places l.graph ≡ insert_all bytes_eq (lent_texts l.urls.keys) (flat_map (module_assets l.graph) (modules_left l.found-iterator))
