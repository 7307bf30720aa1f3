use Rattle.std.proofs.Common.{◌≡◌, ap, ◌∙◌, get_or, rules, subst, sym}
use Rattle.spec_base.specs.Places.{IsIndex}
use Rattle.source_io.specs.Answers.{lists_for}
use Rattle.source_io.specs.AnswerPlaces.{places_for, with_entry}
use Rattle.source_io.proofs.AnswerLemmas.{none_noted, noted_entry}
use Rattle.source_io.proofs.noted_places.NotedPlaces.new.Goals as goal

pub loop-place-init : goal.loop-place-init
loop-place-init c = none_noted _ c.new.ensures c.new-2.ensures c.new-3.ensures c.new-4.ensures c.new-5.ensures

pub loop-place-preserved : goal.loop-place-preserved
loop-place-preserved c = λ p.
    let l = c.loop-place in
    let entry = c.index-answers-place.result in
    let stood : places_for p c.note_entry.new.places ≡ with_entry p (places_for p l.places) (get_or c.args.answers.now l.place entry) l.place =
    c.in_ok-note_entry.ensures p ∙ ap (λ e. with_entry p (places_for p l.places) e l.place) c.index-answers-place.is in
    subst (IsIndex (lists_for p) _) (sym stood) (noted_entry p c.args.answers.now l.place entry (places_for p l.places) (search rules) (l.invariant p))
