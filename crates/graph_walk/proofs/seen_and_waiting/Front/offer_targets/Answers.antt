use Rattle.std.proofs.Common.{sym, ◌∙◌, ap, subst, ◌++◌, cond, Bool, []}
use Rattle.graph_walk.specs.Order.{option_list, target_in}
use Rattle.graph_walk.proofs.Offers.{fits_first, fits_next, after_next, Fits, after}
use Rattle.graph_walk.proofs.seen_and_waiting.Front.offer_targets.Goals as goal

pub offer_target-requires : goal.offer_target-requires
offer_target-requires g c = fits_first c.args.self.now.front (option_list (target_in c.args.dependency.now.maybe_code)) _ c.args.self.now.bound c.requires

pub offer_target-requires-then-include_types : goal.offer_target-requires-then-include_types
offer_target-requires-then-include_types g c =
    let code = option_list (target_in c.args.dependency.now.maybe_code) in
    let type = option_list (target_in c.args.dependency.now.maybe_type) in
    fits_next c.args.self.now c.offer_target.new.self code type c.offer_target.ensures
    (subst (λ (b : Bool). Fits c.args.self.now (code ++ cond b type [])) (sym c.if-include_types.ensures) c.requires)

pub returns-then-include_types : goal.returns-then-include_types
returns-then-include_types g c =
    let code = option_list (target_in c.args.dependency.now.maybe_code) in
    let type = option_list (target_in c.args.dependency.now.maybe_type) in
    after_next c.args.self.now c.offer_target.new.self _ code type c.offer_target.ensures c.offer_target-then-include_types.ensures
    ∙ ap (λ (b : Bool). after c.args.self.now (code ++ cond b type [])) c.if-include_types.ensures
