use Rattle.std.proofs.Common.{◌≡◌, [], ◌∷◌, ◌∙◌, ap, sym, rules}
use Rattle.std.specs.Prelude.{bytes_eq, flat_map}
use Rattle.indexmap.specs.IndexSet.{insert_all}
use Rattle.graph_walk.specs.Assets.{module_assets}
use Rattle.graph_walk.specs.Lent.{lent_texts}
use Rattle.graph_walk.specs.MembersValue.{modules_left}
use Rattle.graph_walk.proofs.Texts.{added_turn}
use Rattle.graph_walk.proofs.asset_urls.asset_module_urls.Goals as goal

pub loop-found-preserved : goal.loop-found-preserved
loop-found-preserved c =
    let l = c.loop-found in
    let first : modules_left l.found-iterator ≡ c.in-Some.found.now ∷ modules_left c.next.new.self = search rules in
    l.invariant
    ∙ added_turn (module_assets c.args.graph.now) (lent_texts l.urls.keys) (lent_texts c.add_module.new.urls.keys) (modules_left l.found-iterator) (modules_left c.next.new.self) c.in-Some.found.now first c.in_ok-add_module.ensures

pub returns : goal.returns
returns c =
    let l = c.loop-found in
    let none : modules_left l.found-iterator ≡ [] = search rules in
    sym (l.invariant ∙ ap (λ ms. insert_all bytes_eq (lent_texts l.urls.keys) (flat_map (module_assets c.args.graph.now) ms)) none)
