use Rattle.std.proofs.Common.{◌≡◌, [], ◌∷◌, ◌∙◌, ap, sym, rules}
use Rattle.std.specs.Prelude.{bytes_eq, string_bytes}
use Rattle.indexmap.specs.IndexSet.{insert_all}
use Rattle.spec_base.specs.Shown.{shown}
use Rattle.graph_walk.specs.Assets.{asset_place, assets_among}
use Rattle.graph_walk.specs.Lent.{lent_texts}
use Rattle.graph_walk.specs.Order.{Named}
use Rattle.graph_walk.proofs.Texts.{added_turn}
use Rattle.graph_walk.proofs.asset_urls.add_assets.Goals as goal

pub loop-text-preserved : goal.loop-text-preserved
loop-text-preserved c =
    let l = c.loop-text in
    let first : l._text-iterator ≡ (c.in-Some._text.now, c.in-Some.dependency.now) ∷ c.next.new.self = search rules in
    l.invariant
    ∙ added_turn (λ (d : Named). asset_place c.args.graph.now d.1) (lent_texts l.urls.keys) (lent_texts c.add_asset.new.urls.keys) (shown l._text-iterator) (shown c.next.new.self)
    (string_bytes c.in-Some._text.now, c.in-Some.dependency.now) (ap shown first) c.in_ok-add_asset.ensures

pub returns : goal.returns
returns c =
    let l = c.loop-text in
    let none : l._text-iterator ≡ [] = search rules in
    sym (l.invariant ∙ ap (λ es. insert_all bytes_eq (lent_texts l.urls.keys) (assets_among c.args.graph.now (shown es))) none)
