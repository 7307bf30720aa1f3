use Rattle.std.proofs.Common.{rules, ◌≡◌, ◌<◌, length, sym, subst, arith}
use Rattle.std.specs.Prelude.{OnOk}
use Rattle.source_io.specs.declared.types.Answer.{Answer}
use Rattle.open_loads.specs.Order.Means.{means_of}
use Rattle.open_loads.specs.Order.Means.{Means}
use Rattle.open_loads.specs.Order.OpenLoads.{OpenLoads}
use Rattle.open_loads.specs.declared.turn_stage.Stage.{Stage}
use Rattle.open_loads.specs.declared.turn_stage.Stage.TheVariants.{Idle, Asks, AsksAgain, Reads, Looks, Fills}
use Rattle.graph_turns.specs.Promise.Taken.{asks_again}
use Rattle.open_loads.specs.Order.Ordered.{FitsLoad, FitsTurn, EndsWithAnswer, IsFilled, IsLookedUp, IsRead, IsUsedAt, IsUsedFirst}
use Rattle.open_loads.proofs.Order.Caught.{ok_answered, ok_first}
use Rattle.open_loads.proofs.open_loads.OpenLoads.use_answer.Goals as goal

pub returns-in-Asks-clause-used : goal.returns-in-Asks-clause-used
returns-in-Asks-clause-used g c =
    let means : Means = means_of g.S.Analyze.ModuleAnalyzer.infos g.S.Tree.FileTree.paths g.S.Urls.JsrUrlProvider.meaning g.S.Resolve.Resolver.is_told g.S.Resolve.Resolver.meaning c.args.maker.now in
    let old : OpenLoads = c.args.self.now in
    let stage_is : old.stage ≡ Asks c.in-Asks.field-0 c.in-Asks.asked = search rules in
    subst (λ (s : Stage). OnOk c.use_first.result (IsUsedAt means old c.args.answer c.use_first.new.self s)) (sym stage_is)
    (ok_first c.use_first.result means old c.use_first.new.self c.replace.new.dest c.in-Asks.asked c.args.answer (asks_again c.in-Asks.asked c.args.answer)
    (subst (λ (x : OpenLoads). OnOk c.use_first.result (IsUsedFirst means (record x { stage = c.replace.new.dest }) c.in-Asks.asked c.args.answer c.use_first.new.self (asks_again c.in-Asks.asked c.args.answer))) c.self.view_is c.use_first.ensures.used))

pub returns-in-AsksAgain-clause-used : goal.returns-in-AsksAgain-clause-used
returns-in-AsksAgain-clause-used g c =
    let means : Means = means_of g.S.Analyze.ModuleAnalyzer.infos g.S.Tree.FileTree.paths g.S.Urls.JsrUrlProvider.meaning g.S.Resolve.Resolver.is_told g.S.Resolve.Resolver.meaning c.args.maker.now in
    let old : OpenLoads = c.args.self.now in
    let stage_is : old.stage ≡ AsksAgain c.in-AsksAgain.field-0 c.in-AsksAgain.asked c.in-AsksAgain.first = search rules in
    subst (λ (s : Stage). OnOk c.end_turn.result (IsUsedAt means old c.args.answer c.end_turn.new.self s)) (sym stage_is)
    (subst (λ (a : Answer). OnOk c.end_turn.result (EndsWithAnswer means old c.in-AsksAgain.asked a c.end_turn.new.self)) c.counted_of.ensures (ok_answered c.end_turn.result means old c.end_turn.new.self c.replace.new.dest c.in-AsksAgain.asked c.counted_of.result
    (subst (λ (x : OpenLoads). OnOk c.end_turn.result (EndsWithAnswer means (record x { stage = c.replace.new.dest }) c.in-AsksAgain.asked c.counted_of.result c.end_turn.new.self)) c.self.view_is c.end_turn.ensures.answered)))

pub returns-in-Reads-clause-used : goal.returns-in-Reads-clause-used
returns-in-Reads-clause-used g c =
    let means : Means = means_of g.S.Analyze.ModuleAnalyzer.infos g.S.Tree.FileTree.paths g.S.Urls.JsrUrlProvider.meaning g.S.Resolve.Resolver.is_told g.S.Resolve.Resolver.meaning c.args.maker.now in
    let old : OpenLoads = c.args.self.now in
    let stage_is : old.stage ≡ Reads c.in-Reads.field-0 c.in-Reads.nv c.in-Reads.at = search rules in
    subst (λ (s : Stage). OnOk c.use_file.result (IsUsedAt means old c.args.answer c.use_file.new.self s)) (sym stage_is)
    (subst (λ (x : OpenLoads). OnOk c.use_file.result (IsRead means (record x { stage = c.replace.new.dest }) c.in-Reads.nv c.args.answer c.use_file.new.self)) c.self.view_is c.use_file.ensures.used)

pub returns-in-Fills-clause-used : goal.returns-in-Fills-clause-used
returns-in-Fills-clause-used g c =
    let means : Means = means_of g.S.Analyze.ModuleAnalyzer.infos g.S.Tree.FileTree.paths g.S.Urls.JsrUrlProvider.meaning g.S.Resolve.Resolver.is_told g.S.Resolve.Resolver.meaning c.args.maker.now in
    let old : OpenLoads = c.args.self.now in
    let stage_is : old.stage ≡ Fills c.in-Fills.field-0 = search rules in
    subst (λ (s : Stage). OnOk c.use_content.result (IsUsedAt means old c.args.answer c.use_content.new.self s)) (sym stage_is)
    (subst (λ (x : OpenLoads). OnOk c.use_content.result (IsFilled means (record x { stage = c.replace.new.dest }) c.args.answer c.use_content.new.self)) c.self.view_is c.use_content.ensures.used)

pub returns-in-Looks-clause-used : goal.returns-in-Looks-clause-used
returns-in-Looks-clause-used g c =
    let means : Means = means_of g.S.Analyze.ModuleAnalyzer.infos g.S.Tree.FileTree.paths g.S.Urls.JsrUrlProvider.meaning g.S.Resolve.Resolver.is_told g.S.Resolve.Resolver.meaning c.args.maker.now in
    let old : OpenLoads = c.args.self.now in
    let stage_is : old.stage ≡ Looks c.in-Looks.field-0 c.in-Looks.at = search rules in
    subst (λ (s : Stage). OnOk c.use_wanted.result (IsUsedAt means old c.args.answer c.use_wanted.new.self s)) (sym stage_is)
    (subst (λ (x : OpenLoads). OnOk c.use_wanted.result (IsLookedUp means (record x { stage = c.replace.new.dest }) c.args.answer c.use_wanted.new.self)) c.self.view_is c.use_wanted.ensures.used)

-- a load is open where its turn stands
open_load : (b old : OpenLoads) (s : Stage) → b ≡ old → FitsLoad old → 0 < length (record b { stage = s }).state.loads
open_load b old s same fits = subst (λ (x : OpenLoads). 0 < length x.state.loads) (sym same) (let some = fits.places in omega (arith, some))

pub use_first-requires : goal.use_first-requires
use_first-requires g c =
    let old : OpenLoads = c.args.self.now in
    let stage_is : old.stage ≡ Asks c.in-Asks.field-0 c.in-Asks.asked = search rules in
    let idle : c.replace.new.dest ≡ Idle = search rules in
    record { some = open_load _ old c.replace.new.dest c.self.view_is (subst (FitsTurn old) stage_is c.requires.fits).1; idle = idle }

pub end_turn-requires : goal.end_turn-requires
end_turn-requires g c =
    let old : OpenLoads = c.args.self.now in
    let stage_is : old.stage ≡ AsksAgain c.in-AsksAgain.field-0 c.in-AsksAgain.asked c.in-AsksAgain.first = search rules in
    record { some = open_load _ old c.replace.new.dest c.self.view_is (subst (FitsTurn old) stage_is c.requires.fits).1 }
