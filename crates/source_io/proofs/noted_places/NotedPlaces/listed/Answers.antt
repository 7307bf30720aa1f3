use Rattle.std.proofs.Common.{◌∙◌, ap}
use Rattle.source_io.specs.AnswerPlaces.{answer_at, places_for}
use Rattle.source_io.proofs.AnswerLemmas.{answer_at_index}
use Rattle.source_io.proofs.noted_places.NotedPlaces.listed.Goals as goal

pub returns : goal.returns
returns c =
    let purpose = c.args.purpose in
    c.listed_at.ensures
    ∙ ap (answer_at c.args.answers.now) c.get.ensures
    ∙ answer_at_index purpose c.args.answers.now (places_for purpose c.args.self.now) c.args.specifier.now (c.requires purpose)
