use Rattle.std.proofs.Common.{◌≡◌, ◌∙◌, ap, subst, IfOk}
use Rattle.std.specs.Prelude.{option_copied}
use Rattle.source_io.specs.Answers.{judged, listed_answer, listed_or_read, purpose_of}
use Rattle.source_io.proofs.AnswerLemmas.{world_answer}
use Rattle.source_io.proofs.calls.answer_of.Goals as goal

pub returns : goal.returns
returns c =
    let w = c.args.world.now in
    let q = c.args.question.now in
    let purpose = c.purpose-purpose.ensures in
    let listed = c.listed-listed.ensures ∙ ap (λ es. listed_answer es q.specifier c.purpose-purpose.result) c.as_slice.ensures ∙ ap (listed_answer w.answers q.specifier) purpose in
    let told =
    c.in_ok-answer.ensures
    ∙ ap (λ p. listed_or_read w.reads_data q.specifier p (option_copied c.listed-listed.result)) purpose
    ∙ ap (listed_or_read w.reads_data q.specifier (purpose_of q)) listed in
    subst (λ expected. IfOk c.judged.result (λ a. a ≡ expected)) (ap (judged w.verifies q.options.maybe_checksum) told ∙ world_answer w q) c.judged.ensures
