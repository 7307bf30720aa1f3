-- The lines of errors that a walk gives one after another.
use Rattle.std.proofs.Common.{◌≡◌, ◌∙◌, ℕ, ◌<◌, List, [], ◌∷◌, ◌++◌, length, refl, ap, sym, append_assoc, append-nil, length-append, arith}
use Rattle.std.specs.Prelude.{flat_map, MatchResult, Result, Ok, Err, Some}
use Rattle.graph_errors.specs.declared.errors.ModuleGraphError.{ModuleGraphError}
use Rattle.graph_walk.specs.Errors.{ErrorsView, YieldsError, error_list, first_of, rest_errors}
use Rattle.graph_walk.specs.Options.{How}
use Rattle.graph_walk.specs.Order.{Entry, walk_order, texts}
use Rattle.graph_core.specs.declared.graph.ModuleGraph.{ModuleGraph}
use Rattle.graph_walk.specs.Lists.{Text}
use Rattle.url.specs.Parts.{Parts}
use Rattle.calls_program.specs.declared.call.ErrorsCall.{ErrorsCall}
use Rattle.calls_program.specs.Lines.{error_line, errors_how, errors_lines, listed_errors}

-- the line of a first error is added, or there is no memory
abbrev pub IsLineAdded : {E : Type 0} → Result ModuleGraphError E → List ℕ → List ℕ → Type 0
IsLineAdded r old new = MatchResult r (λ e. new ≡ old ++ error_line e) (λ _. ⊥)

module _ {O E : Type 0} (as_how : O → How) (before now : ErrorsView O) where
  -- what is written, and the lines of what is left, stay the same
  pub lines_go_on : (r : Result ModuleGraphError E) (old new : List ℕ) → YieldsError as_how before (Some r) now → IsLineAdded r old new
      → new ++ flat_map error_line (rest_errors as_how now) ≡ old ++ flat_map error_line (rest_errors as_how before)
  lines_go_on (Ok e) old new steps added =
      ap (λ t. t ++ flat_map error_line (rest_errors as_how now)) added
      ∙ append_assoc old (error_line e) (flat_map error_line (rest_errors as_how now))
      ∙ ap (λ es. old ++ flat_map error_line es) (sym steps.0)
  lines_go_on (Err x) old new steps added = absurd added

  -- fewer errors are left
  pub fewer_left : (r : Result ModuleGraphError E) (old new : List ℕ) → YieldsError as_how before (Some r) now → IsLineAdded r old new
      → length (rest_errors as_how now) < length (rest_errors as_how before)
  fewer_left (Ok e) old new steps added = omega (arith, ap length steps.0)
  fewer_left (Err x) old new steps added = absurd added

-- without errors no line is left
pub all_written : (text whole : List ℕ) (left : List ModuleGraphError) → left ≡ [] → text ++ flat_map error_line left ≡ whole → text ≡ whole
all_written text whole left none same = sym (append-nil text) ∙ ap (λ es. text ++ flat_map error_line es) (sym none) ∙ same

-- the errors of the walk from the graph's roots are those that are listed
pub listed_from : (listed : ErrorsCall) (g walked : ModuleGraph) (o by : How) (roots : List Parts) (es : List (Text × Entry)) (errors : List ModuleGraphError)
    → errors ≡ error_list walked by es → walked ≡ g → by ≡ o → es ≡ walk_order g o (texts roots) → o ≡ errors_how listed → roots ≡ g.roots
    → flat_map error_line errors ≡ errors_lines listed g
unfolding listed_errors
listed_from listed g walked o by roots es errors given same how_is in_order as_listed from_roots =
    let wanted : errors ≡ listed_errors listed g = cc in
    ap (flat_map error_line) wanted

-- an error has a line
line_has_length : (e : ModuleGraphError) (es : List ModuleGraphError) → 0 < length (flat_map error_line (e ∷ es))
line_has_length e es = simp length-append (omega arith)

-- the text is empty exactly where there is no error
pub none_found : (es : List ModuleGraphError) → length (flat_map error_line es) ≡ 0 → first_of es ≡ Ok tt
none_found [] empty = refl
none_found (e ∷ es) empty = absurd (omega (arith, line_has_length e es))

pub some_found : (es : List ModuleGraphError) → (length (flat_map error_line es) ≡ 0 → ⊥) → (e : ModuleGraphError) × (first_of es ≡ Err e)
some_found [] full = absurd (full refl)
some_found (e ∷ es) full = (e, refl)
