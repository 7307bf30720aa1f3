-- What a call writes of the graph that it leaves.
use Rattle.std.specs.Prelude.{ℕ, List, [], ◌∷◌, ◌++◌, flat_map, Result, Option, false}
use Rattle.serde_json.specs.Data.{string}
use Rattle.serde_json.specs.Written.{compact_text}
use Rattle.spec_base.specs.Options.{by_option}
use Rattle.graph_errors.specs.declared.errors.ModuleGraphError.{ModuleGraphError}
use Rattle.graph_errors.specs.ErrorParts.{graph_error_range, plain_error_text, ranged_text}
use Rattle.graph_core.specs.declared.graph.ModuleGraph.{ModuleGraph}
use Rattle.graph_walk.specs.Errors.{error_list, first_of, validity}
use Rattle.graph_walk.specs.Options.{How}
use Rattle.graph_walk.specs.Order.{walk_order, texts}
use Rattle.graph_printing.specs.Printed.{printed}
use Rattle.graph_printing.specs.WalkLines.{entry_line, walk_lines}
use Rattle.calls_program.specs.declared.call.EntriesCall.{EntriesCall}
use Rattle.calls_program.specs.declared.call.ErrorsCall.{ErrorsCall}
use Rattle.calls_program.specs.declared.call.Call.{Call}
use Rattle.calls_program.specs.declared.call.Call.TheVariants.{Walk, Entries, Errors, Segment, Prune, Reload, Packages}

-- ---- errors

-- how the walk goes whose errors are listed
abbrev pub errors_how : ErrorsCall → How
errors_how listed = record { kind = listed.kind; follow_dynamic = listed.follow_dynamic; prefers_fast_check = false; checks = λ _. listed.checks_js }

-- the errors of that walk from the graph's roots
unfoldable pub listed_errors : ErrorsCall → ModuleGraph → List ModuleGraphError
listed_errors listed g = error_list g (errors_how listed) (walk_order g (errors_how listed) (texts g.roots))

-- the text of an error with its range, as JSON, and a line break
abbrev pub error_line : ModuleGraphError → List ℕ
error_line e = compact_text (string (ranged_text (plain_error_text e) (graph_error_range e))) ++ 10 ∷ []

-- a line for each of these errors
abbrev pub errors_lines : ErrorsCall → ModuleGraph → List ℕ
errors_lines listed g = flat_map error_line (listed_errors listed g)

-- ---- entries

-- the lines of the entries of a walk from roots of its own
unfoldable pub entries_lines : EntriesCall → ModuleGraph → List ℕ
entries_lines called g = flat_map entry_line (walk_order g (errors_how called.how) (texts called.roots))

-- ---- calls

-- what a call writes
abbrev pub printed_by_call : Call → ModuleGraph → List ℕ
printed_by_call (Walk kind) g = walk_lines kind g
printed_by_call (Entries called) g = entries_lines called g
printed_by_call (Errors listed) g = errors_lines listed g
printed_by_call (Segment roots) g = printed g
printed_by_call Prune g = printed g
printed_by_call (Reload given) g = printed g
printed_by_call (Packages called) g = printed g

-- what is written by the call of some words, and nothing for words that name none
abbrev pub printed_for : Option Call → ModuleGraph → List ℕ
printed_for call g = by_option call [] (λ c. printed_by_call c g)

-- what a call finds: the first of the errors that it lists, else whether the graph is valid
abbrev pub found_by_call : Call → ModuleGraph → Result (Unit {0}) ModuleGraphError
found_by_call (Walk kind) g = validity g
found_by_call (Entries called) g = validity g
found_by_call (Errors listed) g = first_of (listed_errors listed g)
found_by_call (Segment roots) g = validity g
found_by_call Prune g = validity g
found_by_call (Reload given) g = validity g
found_by_call (Packages called) g = validity g
