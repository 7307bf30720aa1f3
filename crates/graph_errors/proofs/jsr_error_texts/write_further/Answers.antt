use Rattle.std.proofs.Common.{◌≡◌, ℕ, ◌+◌, ◌<◌, ◌≤◌, List, ◌++◌, codes, drop, get_or, length, sym, ap, ◌∙◌, append_assoc, append-nil, rules}
use Rattle.std.proofs.lemmas.List.{at_drop_more, at_drop_all}
use Rattle.std.proofs.Output.{has_written_append, has_written_of_eq}
use Rattle.graph_errors.specs.JsrErrors.{further_lines}
use Rattle.graph_errors.proofs.jsr_error_texts.write_further.Goals as goal

-- the line of a name that was to come is written now
one_more : (names : List (List ℕ)) (i : ℕ) (d done : List ℕ) → i < length names → done ++ further_lines (drop i names) ≡ further_lines names
    → (done ++ (codes "\n * " ++ get_or names i d)) ++ further_lines (drop (i + 1) names) ≡ further_lines names
unfolding further_lines
one_more names i d done below e =
    append_assoc done (codes "\n * " ++ get_or names i d) _
    ∙ (ap (λ t. done ++ t) (sym (at_drop_more further_lines names i d below)) ∙ e)

-- nothing is to come past the last name
no_more : (names : List (List ℕ)) (i : ℕ) (done : List ℕ) → length names ≤ i → done ++ further_lines (drop i names) ≡ further_lines names → done ≡ further_lines names
unfolding further_lines
no_more names i done above e = sym (append-nil done) ∙ (ap (λ t. done ++ t) (sym (at_drop_all further_lines names i above)) ∙ e)

pub loop-name-preserved : goal.loop-name-preserved
loop-name-preserved g c = λ plain.
    let now = c.loop-name.invariant plain in (
      now.0 ++ (codes "\n * " ++ c.name-item.result),
      has_written_append _ _ _ _ _ _ now.1 (search rules),
      rw c.name-item.is (one_more c.args.names.now c.loop-name.name-index c.name-item.result now.0 c.loop-name-test.true now.2),
    )

pub returns : goal.returns
returns g c = λ plain ok.
    let now = c.loop-name.invariant plain in
    has_written_of_eq _ _ _ _ _ (no_more c.args.names.now c.loop-name.name-index now.0 c.loop-name-test.false now.2) now.1
