-- The calls on a built graph, as words name them.
use Rattle.std.specs.Prelude.{ℕ, List, [], ◌∷◌, Bool, true, false, bytes_eq, codes, Option, Some, None, option_map, option_and_then, if◌then◌else◌}
use Rattle.url.specs.Parts.{Parts}
use Rattle.json_forms.specs.Form.{url_of}
use Rattle.graph_dependencies.specs.declared.graph_kind.GraphKind.{GraphKind}
use Rattle.spec_base.specs.declared.position.ResolutionKind.{ResolutionKind}
use Rattle.spec_base.specs.declared.position.ResolutionKind.TheVariants.{Execution, Types}
use Rattle.graph_printing.specs.Commands.{kind_of}
use Rattle.calls_program.specs.declared.call.ErrorsCall.{ErrorsCall}
use Rattle.calls_program.specs.declared.call.Call.{Call}
use Rattle.calls_program.specs.declared.call.Call.TheVariants.{Walk, Entries, Errors, Segment, Prune, Reload, Packages}

-- specifiers, each from its word
abbrev pub specifiers_of : List (List ℕ) → Option (List Parts)
specifiers_of [] = Some []
specifiers_of (w ∷ ws) = option_and_then (λ s. option_map (λ ss. s ∷ ss) (specifiers_of ws)) (url_of w)

-- whether a word is the one that says so or the one that denies it
abbrev pub said_or_denied : List ℕ → List ℕ → List ℕ → Option Bool
said_or_denied said denied w = if bytes_eq w said then Some true else (if bytes_eq w denied then Some false else None)

-- which errors are listed: the words of the part of the modules, of dynamic imports and of JavaScript
abbrev pub listed_by : List ℕ → List ℕ → List ℕ → Option ErrorsCall
listed_by kind dynamic js =
    option_and_then (λ k. option_and_then (λ d. option_map (λ j. record { kind = k; follow_dynamic = d; checks_js = j })
    (said_or_denied (codes "js") (codes "nojs") js)) (said_or_denied (codes "dynamic") (codes "static") dynamic)) (kind_of kind)

-- the entries of a walk that goes as three words say, from the roots that the others are
unfoldable pub entries_of : Option ErrorsCall → List (List ℕ) → Option Call
entries_of listed ws = option_and_then (λ how. option_map (λ roots. Entries (record { how = how; roots = roots })) (specifiers_of ws)) listed

-- a walk over one part of the modules that goes as two more words say, from the roots behind them
abbrev pub walk_from : List ℕ → List ℕ → List (List ℕ) → Option Call
walk_from kind dynamic [] = None
walk_from kind dynamic (js ∷ ws) = entries_of (listed_by kind dynamic js) ws

-- a walk over one part of the modules, from the graph's roots where no word follows
abbrev pub walk_with : List ℕ → List (List ℕ) → Option Call
walk_with kind [] = option_map Walk (kind_of kind)
walk_with kind (dynamic ∷ ws) = walk_from kind dynamic ws

-- the walk that words name
abbrev pub walk_call : List (List ℕ) → Option Call
walk_call [] = None
walk_call (kind ∷ ws) = walk_with kind ws

-- the errors that three words list
abbrev pub errors_of : List (List ℕ) → Option Call
errors_of [] = None
errors_of (kind ∷ []) = None
errors_of (kind ∷ dynamic ∷ []) = None
errors_of (kind ∷ dynamic ∷ js ∷ []) = option_map Errors (listed_by kind dynamic js)
errors_of (kind ∷ dynamic ∷ js ∷ more ∷ ws) = None

-- the segment of some roots
abbrev pub segment_call : List (List ℕ) → Option Call
segment_call ws = option_map Segment (specifiers_of ws)

-- the pruning, which no word follows
abbrev pub prune_call : List (List ℕ) → Option Call
prune_call [] = Some Prune
prune_call (w ∷ ws) = None

-- the reload of one specifier or more
abbrev pub reload_of : List (List ℕ) → Option Call
reload_of [] = None
reload_of (w ∷ ws) = option_map Reload (specifiers_of (w ∷ ws))

-- for what edges are resolved, as a word says
abbrev pub resolution_kind_of : List ℕ → Option ResolutionKind
resolution_kind_of w = if bytes_eq w (codes "code") then Some Execution else (if bytes_eq w (codes "types") then Some Types else None)

-- the packages that a folder and a kind name
abbrev pub packages_by : List ℕ → List ℕ → Option Call
packages_by root_dir kind = option_and_then (λ k. option_map (λ dir. Packages (record { root_dir = dir; kind = k })) (url_of root_dir)) (resolution_kind_of kind)

-- the packages that two words name
abbrev pub packages_of : List (List ℕ) → Option Call
packages_of [] = None
packages_of (root_dir ∷ []) = None
packages_of (root_dir ∷ kind ∷ []) = packages_by root_dir kind
packages_of (root_dir ∷ kind ∷ more ∷ ws) = None

-- the call of a name and the words after it
abbrev pub call_named : List ℕ → List (List ℕ) → Option Call
call_named name ws =
    if bytes_eq name (codes "walk") then walk_call ws
    else (if bytes_eq name (codes "errors") then errors_of ws
    else (if bytes_eq name (codes "segment") then segment_call ws
    else (if bytes_eq name (codes "prune") then prune_call ws
    else (if bytes_eq name (codes "reload") then reload_of ws
    else (if bytes_eq name (codes "npm-packages") then packages_of ws else None)))))

-- the call that words name
abbrev pub call_of : List (List ℕ) → Option Call
call_of [] = None
call_of (w ∷ ws) = call_named w ws
